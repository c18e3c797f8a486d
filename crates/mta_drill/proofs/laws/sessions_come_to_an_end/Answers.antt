use Rattle.mta_drill.proofs.Staying.{none_is_given_up, rests_are_ends}
use Rattle.mta_drill.proofs.laws.sessions_come_to_an_end.Goals as goal

pub returns : goal.returns
returns c = record { never = none_is_given_up; rests = rests_are_ends }
