use Rattle.std.proofs.Common.{◌≡◌, ◌≤◌, ◌-◌, List}
use Rattle.mta_shared.specs.Passes.{lock_of, IsReady, Worked}
use Rattle.mta_worker.specs.Working.{AllServed, AtStation}
use Rattle.mta_worker.proofs.worker.work.Given as goal

abbrev pub invariant-loop-sessions : goal.invariant-loop-sessions
invariant-loop-sessions g l = record {
  ready : IsReady (lock_of l.shared) l.pass;
  worked : Worked l.fn.pass l.pass;
  out : g.S.Station.model.out l.station ≡ g.S.Station.model.out l.fn.station;
  few : l.closed ≤ l.sessions;
  most : l.sessions ≤ l.limits.sessions;
  served : (zs : List (AtStation _)) × AllServed g.D.Disk.model g.C.Clock.model g.S.Link.Link.model
      g.S.Station.model l.limits
      (record { station = l.fn.station; pass = l.fn.pass; sessions = 0; closed = 0 }) zs
      (record { station = l.station; pass = l.pass; sessions = l.sessions; closed = l.closed });
}

abbrev pub decreases-loop-sessions : goal.decreases-loop-sessions
decreases-loop-sessions g l = l.most - l.sessions
