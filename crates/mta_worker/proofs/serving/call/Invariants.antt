use Rattle.std.proofs.Common.{◌≡◌}
use Rattle.mta_shared.specs.Passes.{lock_of, IsReady, Worked}
use Rattle.mta_worker.proofs.Closing.{HasClosed}
use Rattle.mta_worker.proofs.serving.call.Given as goal

abbrev pub invariant-loop : goal.invariant-loop
invariant-loop g l = record {
  closed : HasClosed g.D.Disk.model g.C.Clock.model g.L.Link.model l.peer l.limits.units l.counter l.fn.pass
      l.pass;
  ready : IsReady (lock_of l.shared) l.pass;
  worked : Worked l.fn.pass l.pass;
  same : l.link ≡ l.fn.link;
}
