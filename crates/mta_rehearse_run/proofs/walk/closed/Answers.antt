-- A name that goes back to one of the agents goes round.
use Rattle.std.proofs.Common.{refl}
use Rattle.mta_rehearse_run.specs.Walks.{around}
use Rattle.mta_rehearse_run.proofs.walk.closed.Goals as goal

pub returns-then-is_walked : goal.returns-then-is_walked
returns-then-is_walked c = around c.in-On.next c.in-On.is (c.is_walked.ensures.0 c.if-is_walked.true) refl
