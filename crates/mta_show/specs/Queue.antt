-- The text of the queue: the items, numbered from 1, and what became of each recipient for whom this agent is
-- responsible; then the lanes that are open.
use Rattle.std.specs.Prelude.{ℕ, ◌+◌, List, [], ◌∷◌, ◌++◌, Option, None, unwrap_or, Result, Ok, Err}
use Rattle.std.specs.Prelude.{slice_get, codes, decimal}
use Rattle.mta_ber.specs.declared.fault.Fault.{Fault}
use Rattle.mta_fields.specs.declared.identifier.MtsIdFields.{MtsIdFields}
use Rattle.mta_envelope_recipient.specs.declared.recipient.RecipientFields.{RecipientFields}
use Rattle.mta_apdu.specs.Apdus.{ApduValue, message, probe, report, stored_of}
use Rattle.mta_apdu_text.specs.Pieces.{moment_text, id_text}
use Rattle.mta_machine.specs.Items.{ItemValue}
use Rattle.mta_records.specs.declared.state.Status.{Status}
use Rattle.mta_histories.specs.Lanes.{Lane}
use Rattle.mta_show.specs.Statuses.{status_line_if}
use Rattle.mta_show.specs.Lanes.{lane_lines}

abbrev pub word_of : ApduValue → List ℕ
word_of (message m) = codes " message "
word_of (probe e) = codes " probe "
word_of (report r) = codes " report "

abbrev pub id_of : ApduValue → MtsIdFields
id_of (message m) = m.envelope.id
id_of (probe e) = e.id
id_of (report r) = r.id

unfoldable pub item_line : ℕ → ℕ → ApduValue → List ℕ
item_line number arrival v =
    codes "item "
    ++ (decimal number
    ++ (word_of v ++ (id_text (id_of v) ++ (codes " arrived " ++ (moment_text arrival ++ 10 ∷ [])))))

-- the status at a place, from 0; none past the last one
abbrev pub status_at_place : List (Option Status) → ℕ → Option Status
status_at_place statuses i = unwrap_or (slice_get statuses i) None

-- recipients from a place on, each numbered by its position from 1
abbrev pub recipients_from : ℕ → List (Option Status) → List RecipientFields → List ℕ
recipients_from i statuses [] = []
recipients_from i statuses (r ∷ rs) =
    status_line_if (i + 1) (status_at_place statuses i) r.name ++ recipients_from (i + 1) statuses rs

unfoldable pub recipient_lines : List (Option Status) → List RecipientFields → List ℕ
recipient_lines statuses rs = recipients_from 0 statuses rs

-- a report has one recipient, its destination
abbrev pub status_lines : List (Option Status) → ApduValue → List ℕ
status_lines statuses (message m) = recipient_lines statuses m.envelope.recipients
status_lines statuses (probe e) = recipient_lines statuses e.recipients
status_lines statuses (report r) = status_line_if 1 (status_at_place statuses 0) r.destination

-- nothing where the octets are no APDU, which those of an item always are
abbrev pub lines_if : ℕ → ItemValue → Result ApduValue Fault → List ℕ
lines_if number item (Err fault) = []
lines_if number item (Ok v) = item_line number item.arrival v ++ status_lines item.statuses v

unfoldable pub item_text : ℕ → ItemValue → List ℕ
item_text number item = lines_if number item (stored_of item.octets)

-- the items from this number on
abbrev pub items_text : ℕ → List ItemValue → List ℕ
items_text number [] = []
items_text number (item ∷ items) = item_text number item ++ items_text (number + 1) items

abbrev pub queue_text : List ItemValue → List Lane → List ℕ
queue_text items lanes = items_text 1 items ++ lane_lines lanes
