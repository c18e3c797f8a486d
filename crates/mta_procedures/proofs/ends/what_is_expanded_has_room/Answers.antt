use Rattle.mta_procedures.proofs.EndLaws.{expanded_have_room}
use Rattle.mta_procedures.proofs.ends.what_is_expanded_has_room.Goals as goal

pub returns : goal.returns
returns c = expanded_have_room
