use Rattle.std.proofs.Common.{◌≡◌, length}
use Rattle.mta_dues.specs.Agendas.{KeepsAll}
use Rattle.mta_dues.proofs.agenda.Agenda.wake.Given as goal

abbrev pub invariant-loop-number : goal.invariant-loop-number
invariant-loop-number l = record {
  keeps : KeepsAll l.fn.self l.self;
  since : l.self.since ≡ l.fn.self.since;
  known : l.self.known ≡ l.fn.self.known;
}

abbrev pub decreases-loop-number : goal.decreases-loop-number
decreases-loop-number l = length l.self.later.keys
