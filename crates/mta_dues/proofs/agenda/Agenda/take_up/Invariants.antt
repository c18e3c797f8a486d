use Rattle.std.proofs.Common.{◌≡◌, ◌-◌}
use Rattle.mta_dues.specs.Agendas.{KeepsAll}
use Rattle.mta_dues.proofs.agenda.Agenda.take_up.Given as goal

abbrev pub invariant-loop-self : goal.invariant-loop-self
invariant-loop-self l = record {
  keeps : KeepsAll l.fn.self l.self;
  since : l.self.since ≡ l.fn.self.since;
}

abbrev pub decreases-loop-self : goal.decreases-loop-self
decreases-loop-self l = l.count - l.self.known
