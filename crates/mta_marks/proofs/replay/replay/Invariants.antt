use Rattle.std.specs.Prelude.{length}
use Rattle.mta_marks.proofs.Replays.{IsUnderWay}
use Rattle.mta_marks.proofs.replay.replay.Given as goal

abbrev pub invariant-loop-body : goal.invariant-loop-body
invariant-loop-body l = record {
  way : IsUnderWay l.fn.first l.fn.bodies.items l.rest l.standings l.at;
}

abbrev pub decreases-loop-body : goal.decreases-loop-body
decreases-loop-body l = length l.rest
