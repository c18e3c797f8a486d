-- The text of a mailbox: what was delivered to it, in the order in which it was.
use Rattle.std.specs.Prelude.{ℕ, ◌-◌, Bool, List, [], ◌∷◌, ◌++◌, filter, Option, Some, None, Result, Ok, Err}
use Rattle.std.specs.Prelude.{slice_get, codes, decimal}
use Rattle.std.specs.List.{flat_map}
use Rattle.std.specs.Str.{bytes_eq}
use Rattle.mta_ber.specs.declared.fault.Fault.{Fault}
use Rattle.mta_apdu.specs.Apdus.{ApduValue, stored_of}
use Rattle.mta_apdu_text.specs.Pieces.{moment_text}
use Rattle.mta_apdu_text.specs.Apdus.{apdu_text}
use Rattle.mta_machine.specs.Items.{ItemValue}
use Rattle.mta_records.specs.declared.state.MailboxLine.{MailboxLine}

abbrev pub is_for : List ℕ → MailboxLine → Bool
is_for word line = bytes_eq line.mailbox word

unfoldable pub delivered_line : MailboxLine → List ℕ
delivered_line line =
    codes "delivered " ++ (moment_text line.moment ++ (codes " item " ++ (decimal line.item ++ 10 ∷ [])))

-- nothing where the octets are no APDU, which those of an item always are
abbrev pub text_if : Result ApduValue Fault → List ℕ
text_if (Err fault) = []
text_if (Ok v) = apdu_text v

unfoldable pub octets_text : List ℕ → List ℕ
octets_text octets = text_if (stored_of octets)

-- nothing where there is no such item
abbrev pub item_if : Option ItemValue → List ℕ
item_if None = []
item_if (Some item) = octets_text item.octets

-- the line, and the item of its number, from 1
abbrev pub delivered_text : List ItemValue → MailboxLine → List ℕ
delivered_text items line = delivered_line line ++ item_if (slice_get items (line.item - 1))

abbrev pub mailbox_text : List ℕ → List ItemValue → List MailboxLine → List ℕ
mailbox_text word items lines = flat_map (delivered_text items) (filter (is_for word) lines)
