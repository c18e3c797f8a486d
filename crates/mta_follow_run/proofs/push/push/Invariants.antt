use Rattle.std.proofs.Common.{◌≡◌}
use Rattle.mta_follow_run.specs.Pushing.{IsPushing}
use Rattle.mta_follow_run.proofs.push.push.Given as goal

abbrev pub invariant-loop-body : goal.invariant-loop-body
invariant-loop-body g l =
    IsPushing g.L.Link.model l.bodies l.fn.link l.link l.reader l.number × (l.number ≡ l.body-index)
