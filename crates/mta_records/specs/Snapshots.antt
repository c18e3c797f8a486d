-- The fields of a snapshot.
use Rattle.std.specs.Prelude.{◌≡◌, ℕ, ◌≤◌, ◌<◌, ◌^◌, ◌==◌, ◌||◌, nat_le, Bool, true, false, not, List, []}
use Rattle.std.specs.Prelude.{◌∷◌, length, Option, Some, None, if◌then◌else◌}
use Rattle.mta_lane_recv.specs.declared.state.Last.{Last}
use Rattle.mta_lane_recv.specs.declared.state.Last.TheVariants as last
use Rattle.mta_lane_send.specs.Half.{confirmed_of, last_of}
use Rattle.mta_lane_send.specs.declared.state.SendState.{SendState}
use Rattle.mta_lane_send.specs.declared.state.SendState.TheVariants.{Idle, Sending, Ending, Dropping}
use Rattle.mta_records.specs.LaneName.{a_lane_name}
use Rattle.mta_records.specs.Fields.{a_number, a_long_number, a_moment, a_string, a_word, a_truth, some_numbers}
use Rattle.mta_records.specs.Form.{Form, both, narrowed, optional, list_of, nothing_for, nothing_but, variant, keyed}
use Rattle.mta_records.specs.Form.{one_listed}
use Rattle.mta_records.specs.State.{Transfer, Lane, RecordedItem, SnapshotValue}
use Rattle.mta_records.specs.declared.state.MailboxLine.{MailboxLine}
use Rattle.mta_records.specs.declared.state.Origin.{Origin}
use Rattle.mta_records.specs.declared.state.Origin.TheVariants as origin
use Rattle.mta_records.specs.declared.state.Status.{Status}
use Rattle.mta_records.specs.declared.state.Status.TheVariants.{Pending, Delivered, Expanded, Sent, Reported, Affirmed}
use Rattle.mta_records.specs.declared.state.Status.TheVariants.{Discarded, Passed}

-- ---- fields in which nothing else may stand

abbrev pub is_zero : ℕ → Bool
is_zero n = n == 0

abbrev pub has_none : {A : Type 0} → List A → Bool
has_none [] = true
has_none (x ∷ xs) = false

abbrev pub no_number : Form (Unit {0})
no_number = nothing_but a_number 0 is_zero

abbrev pub no_moment : Form (Unit {0})
no_moment = nothing_but a_moment 0 is_zero

abbrev pub no_numbers : Form (Unit {0})
no_numbers = nothing_but some_numbers [] has_none

abbrev pub no_string : Form (Unit {0})
no_string = nothing_but a_string [] has_none

-- a number that counts from 1
abbrev pub a_place : Form ℕ
a_place = narrowed a_number (λ n. nat_le 1 n) (λ n. (1 ≤ n) × (n < 2 ^ 32))

-- ---- items

abbrev pub octet_of_origin : Origin → ℕ
octet_of_origin origin.Submitted = 0
octet_of_origin origin.Lane = 1
octet_of_origin origin.Own = 2

abbrev pub all_origins : List Origin
all_origins = origin.Submitted ∷ origin.Lane ∷ origin.Own ∷ []

abbrev pub an_origin : Form Origin
an_origin = one_listed all_origins octet_of_origin

-- the kinds of statuses
pub data Code : Type 0 where
  pending : Code
  delivered : Code
  expanded : Code
  sent : Code
  reported : Code
  affirmed : Code
  discarded : Code
  passed : Code

abbrev pub octet_of_code : Code → ℕ
octet_of_code pending = 0
octet_of_code delivered = 1
octet_of_code expanded = 2
octet_of_code sent = 3
octet_of_code reported = 4
octet_of_code affirmed = 5
octet_of_code discarded = 6
octet_of_code passed = 7

abbrev pub all_codes : List Code
all_codes = pending ∷ delivered ∷ expanded ∷ sent ∷ reported ∷ affirmed ∷ discarded ∷ passed ∷ []

abbrev pub code_of : Status → Code
code_of Pending = pending
code_of (Delivered moment) = delivered
code_of (Expanded moment) = expanded
code_of (Sent moment peer) = sent
code_of (Reported moment reason diagnostic) = reported
code_of (Affirmed moment) = affirmed
code_of (Discarded moment) = discarded
code_of (Passed moment) = passed

-- when a recipient was discharged; 0 of one who is pending
abbrev pub since : Status → ℕ
since Pending = 0
since (Delivered moment) = moment
since (Expanded moment) = moment
since (Sent moment peer) = moment
since (Reported moment reason diagnostic) = moment
since (Affirmed moment) = moment
since (Discarded moment) = moment
since (Passed moment) = moment

-- the peer to whom was sent
abbrev pub sent_to : Status → List ℕ
sent_to (Sent moment peer) = peer
sent_to s = []

-- why was reported
abbrev pub reason_told : Status → ℕ
reason_told (Reported moment reason diagnostic) = reason
reason_told s = 0

abbrev pub diagnostic_told : Status → Option ℕ
diagnostic_told (Reported moment reason diagnostic) = diagnostic
diagnostic_told s = None

-- whether a diagnostic is given, and its number, 0 where it is not
abbrev pub a_diagnostic : Form (Option ℕ)
a_diagnostic = optional a_truth a_number 0 is_zero

-- what follows a code
abbrev pub status_as : Code → Form Status
status_as pending = nothing_for Pending
status_as delivered = variant a_moment Delivered since
status_as expanded = variant a_moment Expanded since
status_as sent = variant (both a_moment a_word) (λ p. Sent p.0 p.1) (λ s. (since s, sent_to s))
status_as reported =
    variant (both a_moment (both a_number a_diagnostic)) (λ p. Reported p.0 p.1.0 p.1.1)
    (λ s. (since s, (reason_told s, diagnostic_told s)))
status_as affirmed = variant a_moment Affirmed since
status_as discarded = variant a_moment Discarded since
status_as passed = variant a_moment Passed since

unfoldable pub status_form : Form Status
status_form = keyed (one_listed all_codes octet_of_code) status_as code_of

unfoldable pub item_form : Form RecordedItem
item_form =
    variant (both an_origin (both a_moment (both a_string (list_of status_form))))
    (λ p. record { origin = p.0; arrival = p.1.0; octets = p.1.1.0; codes = p.1.1.1 })
    (λ i. (i.origin, (i.arrival, (i.octets, i.codes))))

-- ---- mailboxes

unfoldable pub line_form : Form MailboxLine
line_form =
    variant (both a_word (both a_number a_moment))
    (λ p. record { mailbox = p.0; item = p.1.0; moment = p.1.1 })
    (λ l. (l.mailbox, (l.item, l.moment)))

-- ---- lanes

-- the states of a sending half
pub data Stage : Type 0 where
  idle : Stage
  sending : Stage
  ending : Stage
  dropping : Stage

abbrev pub octet_of_stage : Stage → ℕ
octet_of_stage idle = 0
octet_of_stage sending = 1
octet_of_stage ending = 2
octet_of_stage dropping = 3

abbrev pub all_stages : List Stage
all_stages = idle ∷ sending ∷ ending ∷ dropping ∷ []

abbrev pub stage_of : SendState → Stage
stage_of (Idle k) = idle
stage_of (Sending k n) = sending
stage_of (Ending k n) = ending
stage_of (Dropping k) = dropping

abbrev pub no_transfer : Transfer
no_transfer = record { item = 0; recipients = []; moment = 0; tables = 0; format = 0; octets = [] }

abbrev pub transfer_in : Option Transfer → Transfer
transfer_in None = no_transfer
transfer_in (Some t) = t

-- a transfer is given, and its recipients can be counted
abbrev pub IsGiven : Option Transfer → Type 0
IsGiven None = ⊥
IsGiven (Some t) = length t.recipients < 2 ^ 32

-- the format at a Start: a field since format 2, and in format 1 always 1
abbrev pub start_format : Bool → Form ℕ
start_format true = a_number
start_format false = nothing_for 1

abbrev pub no_start_format : Bool → Form (Unit {0})
no_start_format true = no_number
no_start_format false = nothing_for tt

unfoldable pub a_transfer : Bool → Form Transfer
a_transfer two =
    variant (both a_number (both some_numbers (both a_moment (both a_place (both (start_format two) a_string)))))
    (λ p. record {
      item = p.0;
      recipients = p.1.0;
      moment = p.1.1.0;
      tables = p.1.1.1.0;
      format = p.1.1.1.1.0;
      octets = p.1.1.1.1.1;
    })
    (λ t. (t.item, (t.recipients, (t.moment, (t.tables, (t.format, t.octets))))))

-- What stands in place of a transfer where there is none: its fields are zero or empty.
abbrev pub Unused : Type 0
Unused = Unit {0} × (Unit {0} × (Unit {0} × (Unit {0} × (Unit {0} × Unit {0}))))

abbrev pub all_zero : Unused
all_zero = (tt, (tt, (tt, (tt, (tt, tt)))))

unfoldable pub unused : Bool → Form Unused
unused two =
    both no_number (both no_numbers (both no_moment (both no_number (both (no_start_format two) no_string))))

abbrev pub SendingHalf : Type 0
SendingHalf = SendState × Option Transfer

abbrev pub sending_as : Bool → Stage → Form SendingHalf
sending_as two idle =
    variant (both a_number (both no_number (unused two))) (λ p. (Idle p.0, None))
    (λ h. (last_of h.0, (tt, all_zero)))
sending_as two sending =
    variant (both a_number (both a_number (a_transfer two))) (λ p. (Sending p.0 p.1.0, Some p.1.1))
    (λ h. (last_of h.0, (confirmed_of h.0, transfer_in h.1)))
sending_as two ending =
    variant (both a_number (both a_number (a_transfer two))) (λ p. (Ending p.0 p.1.0, Some p.1.1))
    (λ h. (last_of h.0, (confirmed_of h.0, transfer_in h.1)))
sending_as two dropping =
    variant (both a_number (both no_number (a_transfer two))) (λ p. (Dropping p.0, Some p.1.1))
    (λ h. (last_of h.0, (tt, transfer_in h.1)))

unfoldable pub sending_form : Bool → Form SendingHalf
sending_form two = keyed (one_listed all_stages octet_of_stage) (sending_as two) (λ h. stage_of h.0)

-- the states of a receiving half
pub data Standing : Type 0 where
  nothing : Standing
  part : Standing
  whole : Standing

abbrev pub octet_of_standing : Standing → ℕ
octet_of_standing nothing = 0
octet_of_standing part = 1
octet_of_standing whole = 2

abbrev pub all_standings : List Standing
all_standings = nothing ∷ part ∷ whole ∷ []

abbrev pub standing_of : Last → Standing
standing_of last.None = nothing
standing_of (last.Partial k p) = part
standing_of (last.Done k) = whole

-- the highest activity, what stands of it, and the pieces of a part
abbrev pub ReceivingHalf : Type 0
ReceivingHalf = ℕ × (Last × List (List ℕ))

abbrev pub has_some : {A : Type 0} → List A → Bool
has_some xs = not (has_none xs)

-- pieces, of which there is one at least
unfoldable pub some_pieces : Form (List (List ℕ))
some_pieces = narrowed (list_of a_string) has_some (λ xs. (list_of a_string).Fits xs × (has_some xs ≡ true))

abbrev pub receiving_as : Standing → Form ReceivingHalf
receiving_as nothing = variant (both a_number no_number) (λ p. (p.0, (last.None, []))) (λ h. (h.0, tt))
receiving_as part =
    variant (both a_number some_pieces) (λ p. (p.0, (last.Partial p.0 (length p.1), p.1))) (λ h. (h.0, h.1.1))
receiving_as whole = variant (both a_number no_number) (λ p. (p.0, (last.Done p.0, []))) (λ h. (h.0, tt))

unfoldable pub receiving_form : Form ReceivingHalf
receiving_form = keyed (one_listed all_standings octet_of_standing) receiving_as (λ h. standing_of h.1.0)

-- whether the turn may pass, whether the values are agreed, the checkpoint size, the window and the generation
unfoldable pub some_values : Form (Bool × (Bool × (ℕ × (ℕ × ℕ))))
some_values = both a_truth (both a_truth (both a_number (both a_number a_long_number)))

unfoldable pub lane_form : Bool → Form Lane
lane_form two =
    variant (both a_number (both a_lane_name (both some_values (both (sending_form two) receiving_form))))
    (λ p. record {
      number = p.0;
      role = p.1.0.0;
      peer = p.1.0.1.0;
      reference = p.1.0.1.1;
      checkpoint = p.1.1.0.1.1.0;
      window = p.1.1.0.1.1.1.0;
      twa = p.1.1.0.0;
      agreed = p.1.1.0.1.0;
      generation = p.1.1.0.1.1.1.1;
      sending = p.1.1.1.0.0;
      transfer = p.1.1.1.0.1;
      high = p.1.1.1.1.0;
      last = p.1.1.1.1.1.0;
      pieces = p.1.1.1.1.1.1;
    })
    (λ l. (
      l.number,
      (
        (l.role, (l.peer, l.reference)),
        (
          (l.twa, (l.agreed, (l.checkpoint, (l.window, l.generation)))),
          ((l.sending, l.transfer), (l.high, (l.last, l.pieces))),
        ),
      ),
    ))

-- ---- the whole

abbrev pub is_format : ℕ → Bool
is_format n = (n == 1) || (n == 2)

abbrev pub a_format : Form ℕ
a_format = narrowed a_number is_format (λ n. (n < 2 ^ 32) × (is_format n ≡ true))

-- what follows the format
abbrev pub snapshot_as : ℕ → Form SnapshotValue
snapshot_as format =
    variant
    (both a_moment (both (list_of a_string) (both (list_of item_form) (both (list_of line_form)
    (both a_number (list_of (lane_form (format == 2))))))))
    (λ p. record {
      format = format;
      moment = p.0;
      tables = p.1.0;
      items = p.1.1.0;
      mailboxes = p.1.1.1.0;
      lane_count = p.1.1.1.1.0;
      lanes = p.1.1.1.1.1;
    })
    (λ s. (s.moment, (s.tables, (s.items, (s.mailboxes, (s.lane_count, s.lanes))))))

unfoldable pub a_snapshot : Form SnapshotValue
a_snapshot = keyed a_format snapshot_as (λ s. s.format)

-- the format from which on, which is 2
abbrev pub a_version : Form ℕ
a_version = narrowed a_number (λ n. n == 2) (λ n. n ≡ 2)
