use Rattle.mta_session_next_laws.proofs.Pieces.{pieces_are_admitted}
use Rattle.mta_session_next_laws.proofs.laws.pieces_are_admitted.Goals as goal

pub returns : goal.returns
returns c = pieces_are_admitted
