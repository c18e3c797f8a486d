use Rattle.std.proofs.Common.{◌≡◌, true, ℕ, drop}
use Rattle.std.specs.Prelude.{◌↔◌}
use Rattle.mta_snapshots.proofs.Recipients.{EachNamed}
use Rattle.mta_machine.specs.Items.{is_reported_at}
use Rattle.mta_state.specs.Parts.{machine_of}
use Rattle.mta_snapshots.proofs.reported.all_reported.Given as goal

abbrev pub invariant-loop-recipient : goal.invariant-loop-recipient
invariant-loop-recipient l =
    EachNamed (λ (r : ℕ). is_reported_at (machine_of l.parts) l.item r ≡ true) l.recipients
    ↔ EachNamed (λ (r : ℕ). is_reported_at (machine_of l.parts) l.item r ≡ true) (drop l.recipient-index l.recipients)
