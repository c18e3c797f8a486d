-- The machine of recipients (X.411 clause 14). It has no disk, no lane and no lock, and nothing in it fails.
use Rattle.std.specs.Prelude.{◌≡◌, ◌≢◌, ℕ, ◌+◌, ◌≤◌, Bool, true, false, ◌==◌, ◌&&◌}
use Rattle.std.specs.Prelude.{List, [], ◌∷◌, ◌++◌, length, count_by, map, Option, Some, None, option_map}
use Rattle.std.specs.Prelude.{option_to_list, if◌then◌else◌}
use Rattle.mta_apdu.specs.Apdus.{ApduValue, canonical_apdu}
use Rattle.mta_machine.specs.Apdu.{IsApdu, value_of, is_report}
use Rattle.mta_records.specs.declared.state.Origin.{Origin}
use Rattle.mta_records.specs.declared.state.Origin.TheVariants as Origins
use Rattle.mta_records.specs.declared.state.Status.{Status}
use Rattle.mta_records.specs.declared.state.Status.TheVariants.{Delivered, Expanded, Sent, Reported, Affirmed}
use Rattle.mta_records.specs.declared.state.Status.TheVariants.{Discarded}
use Rattle.mta_records.specs.declared.state.Status.TheVariants.{Passed}
use Rattle.mta_records.specs.declared.state.MailboxLine.{MailboxLine}
use Rattle.mta_procedures.specs.declared.verdict.Verdict.{Verdict}
use Rattle.mta_procedures.specs.declared.verdict.Verdict.TheVariants as Verdicts
use Rattle.mta_machine.specs.Items.{ItemValue, Machine, numbered, set_numbered, names, AreDifferent, statuses_of}
use Rattle.mta_machine.specs.Items.{statuses_read, is_pending, is_pending_at, status_at}
use Rattle.mta_machine.specs.Rules.{Failure, reason_of, diagnostic_of, peer_word, mailbox_word, verdict_of}
use Rattle.mta_machine.specs.Rules.{delivery_report, non_delivery_report, expansion, passed_back}

-- ---- steps

-- how a recipient is discharged
pub data Discharge : Type 0 where
  delivered : Discharge
  expanded : Discharge
  affirmed : Discharge
  not_delivered : (reason diagnostic : ℕ) → Discharge
  failed : Failure → Discharge  -- the outcome of an activity
  discarded : Discharge
  passed : Discharge
  -- decided under these tables, at an earlier moment, in this format
  sent : (peer : List ℕ) (tables decided format : ℕ) → Discharge

-- What the machine does. Tables, items and recipients are numbered from 1.
pub data MachineStep : Type 0 where
  set_tables : (text : List ℕ) → MachineStep
  set_format : MachineStep
  accept : (octets : List ℕ) (origin : Origin) (moment : ℕ) → MachineStep
  discharge : (item : ℕ) (recipients : List ℕ) (how : Discharge) (moment : ℕ) → MachineStep

-- ---- verdicts

-- a report to a list that cannot be passed back goes no further
abbrev pub settled : Option ApduValue → Verdict → Verdict
settled back (Verdicts.Deliver place) = Verdicts.Deliver place
settled back (Verdicts.Expand place) = Verdicts.Expand place
settled back (Verdicts.Relay place) = Verdicts.Relay place
settled back Verdicts.Affirm = Verdicts.Affirm
settled back (Verdicts.NonDeliver reason diagnostic) = Verdicts.NonDeliver reason diagnostic
settled back (Verdicts.Hold moment) = Verdicts.Hold moment
settled None Verdicts.Back = Verdicts.Discard
settled (Some v) Verdicts.Back = Verdicts.Back
settled back Verdicts.Discard = Verdicts.Discard

abbrev pub verdict_on : (format : ℕ) → List ItemValue → Option (List ℕ) → Option ItemValue → ℕ → ℕ
    → Option Verdict
verdict_on format items None item r moment = None
verdict_on format items (Some text) None r moment = None
verdict_on format items (Some text) (Some item) r moment =
    option_map (settled (passed_back text items item)) (verdict_of format text item.octets item.arrival r moment)

-- the number of the tables recorded last
abbrev pub last_tables : Machine → ℕ
last_tables m = length m.tables

-- the verdict on a recipient of an item at a moment, under the tables recorded last and in the machine's format
abbrev pub verdict_at : Machine → ℕ → ℕ → ℕ → Option Verdict
verdict_at m i r moment = verdict_on m.format m.items (numbered m.tables (last_tables m)) (numbered m.items i) r moment

abbrev pub relay_by : List ℕ → Option Verdict → Option (List ℕ)
relay_by text None = None
relay_by text (Some (Verdicts.Deliver place)) = None
relay_by text (Some (Verdicts.Expand place)) = None
relay_by text (Some (Verdicts.Relay place)) = peer_word text place
relay_by text (Some Verdicts.Affirm) = None
relay_by text (Some (Verdicts.NonDeliver reason diagnostic)) = None
relay_by text (Some (Verdicts.Hold moment)) = None
relay_by text (Some Verdicts.Back) = None
relay_by text (Some Verdicts.Discard) = None

abbrev pub relay_on : (format : ℕ) → Option (List ℕ) → Option ItemValue → ℕ → ℕ → Option (List ℕ)
relay_on format None item r moment = None
relay_on format (Some text) None r moment = None
relay_on format (Some text) (Some item) r moment =
    relay_by text (verdict_of format text item.octets item.arrival r moment)

-- the peer to which the verdict in a format under the tables of this number relays
abbrev pub relay_at : Machine → (format tables i r moment : ℕ) → Option (List ℕ)
relay_at m format tables i r moment = relay_on format (numbered m.tables tables) (numbered m.items i) r moment

-- ---- what a step needs

-- each of them is a recipient of the item, and not discharged
abbrev pub ArePending : Machine → ℕ → List ℕ → Type 0
ArePending m i rs = (r : ℕ) → names rs r ≡ true → is_pending_at m i r ≡ true

-- the verdict on the one recipient is this
abbrev pub HasVerdict : Machine → ℕ → List ℕ → ℕ → Verdict → Type 0
HasVerdict m i rs moment v = (r : ℕ) × (rs ≡ r ∷ []) × (verdict_at m i r moment ≡ Some v)

abbrev pub IsJustified : Machine → ℕ → List ℕ → Discharge → ℕ → Type 0
IsJustified m i rs delivered moment = (place : ℕ) × HasVerdict m i rs moment (Verdicts.Deliver place)
IsJustified m i rs expanded moment = (place : ℕ) × HasVerdict m i rs moment (Verdicts.Expand place)
IsJustified m i rs affirmed moment = HasVerdict m i rs moment Verdicts.Affirm
IsJustified m i rs (not_delivered reason diagnostic) moment =
    HasVerdict m i rs moment (Verdicts.NonDeliver reason diagnostic)
IsJustified m i rs (failed failure) moment = (r : ℕ) × (rs ≡ r ∷ [])
IsJustified m i rs discarded moment = HasVerdict m i rs moment Verdicts.Discard
IsJustified m i rs passed moment = HasVerdict m i rs moment Verdicts.Back
IsJustified m i rs (sent peer tables decided format) moment =
    (rs ≢ []) × (decided ≤ moment) × (format ≤ m.format)
    × ((r : ℕ) → names rs r ≡ true → relay_at m format tables i r decided ≡ Some peer)

abbrev pub Needs : Machine → MachineStep → Type 0
Needs m (set_tables text) = Unit {0}
Needs m set_format = m.format ≡ 1
Needs m (accept octets origin moment) = IsApdu octets × (m.tables ≢ []) × (m.moment ≤ moment)
Needs m (discharge i rs how moment) =
    ArePending m i rs × AreDifferent rs × IsJustified m i rs how moment × (m.moment ≤ moment)

-- ---- the machine after a step

-- what becomes of a recipient; a report that is not delivered goes no further
abbrev pub status_after : Bool → Discharge → ℕ → Status
status_after of_report delivered moment = Delivered moment
status_after of_report expanded moment = Expanded moment
status_after of_report affirmed moment = Affirmed moment
status_after of_report (not_delivered reason diagnostic) moment =
    if of_report then Discarded moment else Reported moment reason (Some diagnostic)
status_after of_report (failed failure) moment =
    if of_report then Discarded moment else Reported moment (reason_of failure) (diagnostic_of failure)
status_after of_report discarded moment = Discarded moment
status_after of_report passed moment = Passed moment
status_after of_report (sent peer tables decided format) moment = Sent moment peer

abbrev pub with_statuses : List (Option Status) → List ℕ → Status → List (Option Status)
with_statuses statuses [] s = statuses
with_statuses statuses (r ∷ rs) s = with_statuses (set_numbered statuses r (Some s)) rs s

-- the item with this status of these recipients
abbrev pub discharged_item : ItemValue → List ℕ → Discharge → ℕ → ItemValue
discharged_item item rs how moment = record item {
  statuses = with_statuses item.statuses rs (status_after (is_report (value_of item.octets)) how moment);
}

-- of a report no report is made
abbrev pub unless_report : ItemValue → Option ApduValue → List ApduValue
unless_report item made = if is_report (value_of item.octets) then [] else option_to_list made

-- what a discharge makes, in its order: a delivery report, the members' copy and the list's report, a report, the
-- report passed back
abbrev pub made_by : Machine → ItemValue → List ℕ → ℕ → Discharge → ℕ → List ApduValue
made_by m item text r delivered moment = unless_report item (delivery_report text (length m.items + 1) item r moment)
made_by m item text r expanded moment = expansion text (length m.items + 1) item r moment
made_by m item text r affirmed moment = unless_report item (delivery_report text (length m.items + 1) item r moment)
made_by m item text r (not_delivered reason diagnostic) moment =
    unless_report item (non_delivery_report text (length m.items + 1) item r reason (Some diagnostic))
made_by m item text r (failed failure) moment =
    unless_report item
    (non_delivery_report text (length m.items + 1) item r (reason_of failure) (diagnostic_of failure))
made_by m item text r discarded moment = []
made_by m item text r passed moment = option_to_list (passed_back text m.items item)
made_by m item text r (sent peer tables decided format) moment = []

abbrev pub made_for : Machine → ItemValue → Option (List ℕ) → List ℕ → Discharge → ℕ → List ApduValue
made_for m item None rs how moment = []
made_for m item (Some text) [] how moment = []
made_for m item (Some text) (r ∷ rs) how moment = made_by m item text r how moment

-- how many items a discharge makes at most
abbrev pub most_made : Discharge → ℕ
most_made delivered = 1
most_made expanded = 2
most_made affirmed = 1
most_made (not_delivered reason diagnostic) = 1
most_made (failed failure) = 1
most_made discarded = 0
most_made passed = 1
most_made (sent peer tables decided format) = 0

-- an item that was submitted or transferred
abbrev pub accepted_item : List ℕ → Origin → ℕ → ItemValue
accepted_item octets origin moment = record {
  octets = octets;
  arrival = moment;
  origin = origin;
  statuses = statuses_read (value_of octets);
}

-- an item that this agent made
abbrev pub own_item : ℕ → ApduValue → ItemValue
own_item moment v = record {
  octets = canonical_apdu v;
  arrival = moment;
  origin = Origins.Own;
  statuses = statuses_of v;
}

abbrev pub line_at : Option (List ℕ) → ℕ → ℕ → List MailboxLine
line_at None i moment = []
line_at (Some word) i moment = record { mailbox = word; item = i; moment = moment } ∷ []

abbrev pub line_by : Option (List ℕ) → Option Verdict → ℕ → ℕ → List MailboxLine
line_by None v i moment = []
line_by (Some text) None i moment = []
line_by (Some text) (Some (Verdicts.Deliver place)) i moment = line_at (mailbox_word text place) i moment
line_by (Some text) (Some (Verdicts.Expand place)) i moment = []
line_by (Some text) (Some (Verdicts.Relay place)) i moment = []
line_by (Some text) (Some Verdicts.Affirm) i moment = []
line_by (Some text) (Some (Verdicts.NonDeliver reason diagnostic)) i moment = []
line_by (Some text) (Some (Verdicts.Hold until)) i moment = []
line_by (Some text) (Some Verdicts.Back) i moment = []
line_by (Some text) (Some Verdicts.Discard) i moment = []

-- the mailbox line of a delivery
abbrev pub lines_of : Machine → ℕ → List ℕ → Discharge → ℕ → List MailboxLine
lines_of m i [] how moment = []
lines_of m i (r ∷ rs) delivered moment =
    line_by (numbered m.tables (last_tables m)) (verdict_at m i r moment) i moment
lines_of m i (r ∷ rs) expanded moment = []
lines_of m i (r ∷ rs) affirmed moment = []
lines_of m i (r ∷ rs) (not_delivered reason diagnostic) moment = []
lines_of m i (r ∷ rs) (failed failure) moment = []
lines_of m i (r ∷ rs) discarded moment = []
lines_of m i (r ∷ rs) passed moment = []
lines_of m i (r ∷ rs) (sent peer tables decided format) moment = []

abbrev pub items_after : Machine → Option ItemValue → ℕ → List ℕ → Discharge → ℕ → List ItemValue
items_after m None i rs how moment = m.items
items_after m (Some item) i rs how moment =
    set_numbered m.items i (discharged_item item rs how moment)
    ++ map (own_item moment) (made_for m item (numbered m.tables (last_tables m)) rs how moment)

abbrev pub machine_after : Machine → MachineStep → Machine
machine_after m (set_tables text) = record m { tables = m.tables ++ text ∷ [] }
machine_after m set_format = record m { format = 2 }
machine_after m (accept octets origin moment) = record m {
  items = m.items ++ accepted_item octets origin moment ∷ [];
  moment = moment;
}
machine_after m (discharge i rs how moment) = record m {
  items = items_after m (numbered m.items i) i rs how moment;
  mailboxes = m.mailboxes ++ lines_of m i rs how moment;
  moment = moment;
}

-- ---- runs

abbrev pub machine_run : Machine → List MachineStep → Machine
machine_run m [] = m
machine_run m (step ∷ steps) = machine_run (machine_after m step) steps

-- each step meets its needs in the state before it
abbrev pub IsRun : Machine → List MachineStep → Type 0
IsRun m [] = Unit {0}
IsRun m (step ∷ steps) = Needs m step × IsRun (machine_after m step) steps

-- the step discharges this recipient
abbrev pub discharges_one : ℕ → ℕ → MachineStep → Bool
discharges_one i r (set_tables text) = false
discharges_one i r set_format = false
discharges_one i r (accept octets origin moment) = false
discharges_one i r (discharge j rs how moment) = (i == j) && names rs r

-- how often steps discharge a recipient
abbrev pub discharges : List MachineStep → ℕ → ℕ → ℕ
discharges steps i r = count_by (discharges_one i r) steps

-- ---- courses

-- where the machine begins, and its steps
pub record Course : Type 0 where
  pub start : Machine
  pub steps : List MachineStep

-- 1 for a recipient who was discharged before the machine began
abbrev pub discharged_before : Option (Option Status) → ℕ
discharged_before None = 0
discharged_before (Some None) = 0
discharged_before (Some (Some s)) = if is_pending s then 0 else 1

-- how often a recipient was discharged
abbrev pub discharges_in : Course → ℕ → ℕ → ℕ
discharges_in c i r = discharged_before (status_at c.start i r) + discharges c.steps i r
