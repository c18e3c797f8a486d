use Rattle.std.proofs.Common.{◌≡◌, ℕ, Some, drop}
use Rattle.std.specs.Prelude.{◌↔◌}
use Rattle.mta_snapshots.proofs.Recipients.{EachNamed}
use Rattle.mta_machine.specs.Machine.{relay_by}
use Rattle.mta_machine.specs.Rules.{verdict_of}
use Rattle.mta_snapshots.proofs.copies.are_relayed.Given as goal

abbrev pub invariant-loop-recipient : goal.invariant-loop-recipient
invariant-loop-recipient g l =
    EachNamed (λ (r : ℕ). relay_by (g.R.Rules.text l.rules)
    (verdict_of (g.R.Rules.format l.rules) (g.R.Rules.text l.rules) l.item.octets
    l.item.arrival r l.moment)
    ≡ Some l.peer) l.recipients
    ↔ EachNamed (λ (r : ℕ). relay_by (g.R.Rules.text l.rules)
    (verdict_of (g.R.Rules.format l.rules) (g.R.Rules.text l.rules) l.item.octets
    l.item.arrival r l.moment)
    ≡ Some l.peer) (drop l.recipient-index l.recipients)
