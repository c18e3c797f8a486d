-- The change that settles one recipient.
use Rattle.std.specs.Prelude.{ℕ, ◌+◌, ◌^◌, nat_lt, List, length, Option, Some, None, if◌then◌else◌}
use Rattle.mta_records.specs.declared.state.Status.{Status}
use Rattle.mta_records.specs.declared.state.MailboxLine.{MailboxLine}
use Rattle.mta_machine.specs.Items.{ItemValue}
use Rattle.mta_state.specs.declared.parts.Made.{Made}
use Rattle.mta_state.specs.Parts.{made_items}
use Rattle.mta_state.specs.declared.change.Change.{Change}
use Rattle.mta_state.specs.declared.change.Change.TheVariants as change

-- none where an item that is made has no number
abbrev pub settling_change :
    List ItemValue → (i r : ℕ) → Status → Made → Option MailboxLine → (moment : ℕ) → Option Change
settling_change items i r status made line moment =
    if nat_lt (length items + length (made_items made)) (2 ^ 32)
    then Some (change.Settle i r status made line moment)
    else None
