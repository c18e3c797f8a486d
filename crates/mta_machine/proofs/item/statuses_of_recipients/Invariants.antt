use Rattle.std.proofs.Common.{◌≡◌, take, map}
use Rattle.mta_machine.specs.Apdu.{is_responsible}
use Rattle.mta_machine.specs.Items.{status_at_first}
use Rattle.mta_machine.proofs.item.statuses_of_recipients.Given as goal

abbrev pub invariant-loop-recipient : goal.invariant-loop-recipient
invariant-loop-recipient l =
    l.statuses.items ≡ map status_at_first (map is_responsible (take l.recipient-index l.recipients))
