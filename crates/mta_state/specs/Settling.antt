-- What the discharge of a recipient makes.
use Rattle.std.specs.Prelude.{◌≡◌, ℕ, List, [], ◌∷◌, map, Some}
use Rattle.mta_machine.specs.Apdu.{value_of, is_report}
use Rattle.mta_records.specs.declared.state.Status.{Status}
use Rattle.mta_records.specs.declared.state.MailboxLine.{MailboxLine}
use Rattle.mta_machine.specs.Items.{ItemValue, Machine, numbered}
use Rattle.mta_machine.specs.Machine.{Discharge, last_tables, status_after, made_for, own_item, lines_of}

-- the status, the items and the deliveries that the discharge of a recipient leaves
pub record IsDischarge (m : Machine) (i r : ℕ) (how : Discharge) (moment : ℕ)
    (status : Status) (made : List ItemValue) (lines : List MailboxLine) : Type 0 where
  pub item : ItemValue
  pub item_is : numbered m.items i ≡ Some item
  pub status_is : status ≡ status_after (is_report (value_of item.octets)) how moment
  pub made_is : made
      ≡ map (own_item moment) (made_for m item (numbered m.tables (last_tables m)) (r ∷ []) how moment)
  pub lines_are : lines ≡ lines_of m i (r ∷ []) how moment
