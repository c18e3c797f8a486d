use Rattle.std.proofs.Common.{◌≡◌, take}
use Rattle.mta_procedures.specs.Copies.{responsible_for}
use Rattle.mta_copies.proofs.responsibility.responsible_for.Given as goal

abbrev pub invariant-loop-recipient : goal.invariant-loop-recipient
invariant-loop-recipient l = (l.row ≡ responsible_for l.chosen (take l.recipient-index l.recipients))
    × (l.place ≡ l.recipient-index)
