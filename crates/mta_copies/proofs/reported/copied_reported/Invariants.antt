use Rattle.std.proofs.Common.{◌≡◌, take}
use Rattle.mta_copies.proofs.reported.copied_reported.Given as goal

abbrev pub invariant-loop-recipient : goal.invariant-loop-recipient
invariant-loop-recipient l = l.row ≡ take l.recipient-index l.recipients
