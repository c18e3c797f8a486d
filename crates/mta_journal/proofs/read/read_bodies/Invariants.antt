use Rattle.std.proofs.Common.{◌≡◌, ◌-◌, ◌≤◌, ◌<◌, ◌++◌, ◌+◌, drop, length}
use Rattle.mta_edge.specs.Views.{WhereTold}
use Rattle.mta_edge.specs.Crashes.{Crash, Stays}
use Rattle.mta_journal.specs.Bodies.{records}
use Rattle.mta_journal.specs.Opening.{IsAhead}
use Rattle.mta_journal.proofs.Walked.{Read}
use Rattle.mta_journal.proofs.read.read_bodies.Given as goal

abbrev pub invariant-records : goal.invariant-records
invariant-records g l = record {
  inside : l.gate < l.size;
  so_far : Read l.first l.gate l.most l.bodies.items;
  read : WhereTold g.D.Disk.model l.fn.disk (λ f. drop l.first f ≡ records l.bodies.items ++ drop l.gate f);
  ahead : WhereTold g.D.Disk.model l.fn.disk (IsAhead l.gate l.ahead);
  few : l.gate + length l.ahead ≤ l.size;
  content : g.D.Disk.model.content l.disk ≡ g.D.Disk.model.content l.fn.disk;
  later : g.D.Disk.model.faults l.fn.disk ≤ g.D.Disk.model.faults l.disk;
  crash : Crash g.D.Disk.model Stays l.fn.disk l.disk;
}

abbrev pub decreases-records : goal.decreases-records
decreases-records g l = l.size - l.gate
