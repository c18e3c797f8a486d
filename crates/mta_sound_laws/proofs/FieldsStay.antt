-- The state after a history of records has its moment, its numbers and its words in the ranges of a record.
use Rattle.std.proofs.Common.{◌≡◌, ℕ, ◌+◌, ◌<◌, ◌≤◌, ◌^◌, Bool, true, false, eqb, List, [], ◌∷◌, length}
use Rattle.std.proofs.Common.{map, Option, None}
use Rattle.std.proofs.Common.{Some, sym, ap, subst, arith}
use Rattle.std.specs.Prelude.{IfSome}
use Rattle.std.specs.List.{AllByRecursion}
use Rattle.mta_ber.specs.Times.{last_moment}
use Rattle.mta_lane_send.specs.Half.{confirmed_of, last_of}
use Rattle.mta_lane_send.specs.declared.state.SendState.{SendState}
use Rattle.mta_lane_send.specs.declared.state.SendState.TheVariants as half
use Rattle.mta_lane_recv.specs.declared.state.Last.{Last}
use Rattle.mta_lane_recv.specs.declared.state.Last.TheVariants as last
use Rattle.mta_records.specs.Body.{HasFields}
use Rattle.mta_records.specs.Reference.{IsIdentifier}
use Rattle.mta_records.specs.Snapshots.{SendingHalf, a_snapshot, a_transfer, item_form, lane_form}
use Rattle.mta_records.specs.Snapshots.{line_form, receiving_form, sending_form, some_values, status_form, transfer_in}
use Rattle.mta_records.specs.State.{RecordedItem, SnapshotValue}
use Rattle.mta_records.specs.Words.{is_word}
use Rattle.mta_records.specs.declared.state.MailboxLine.{MailboxLine}
use Rattle.mta_records.specs.declared.state.Status.{Status}
use Rattle.mta_records.specs.declared.state.Status.TheVariants.{Pending, Delivered, Expanded, Reported, Affirmed}
use Rattle.mta_records.specs.declared.state.Status.TheVariants.{Discarded, Passed}
use Rattle.mta_records.specs.declared.state.Status.TheVariants as status
use Rattle.mta_records.specs.declared.step.Step.{Step}
use Rattle.mta_records.specs.declared.step.Step.TheVariants.{Tables, Accept, Deliver, Expand, Report, Affirm, Discard}
use Rattle.mta_records.specs.declared.step.Step.TheVariants.{Back, LaneOpen, LaneAgree, Bind, Start, Confirm, Ending}
use Rattle.mta_records.specs.declared.step.Step.TheVariants.{Sent, Refused, Denied, Dropped, Abandon, Secure, Complete}
use Rattle.mta_records.specs.declared.step.Step.TheVariants.{Drop, CloseLane, Snapshot, Format}
use Rattle.mta_machine.specs.Apdu.{value_of}
use Rattle.mta_histories.specs.Classes.{Class, accepts, begins, class_of, moment_of, on_lane, opens, records}
use Rattle.mta_histories.specs.Classes.{sets_format, settles}
use Rattle.mta_histories.specs.History.{ArePossible, IsHistory, IsPossible, StepNeeds, after}
use Rattle.mta_histories.specs.History.{after_from, after_step, class_steps, lanes_after, later, machine_left}
use Rattle.mta_histories.specs.History.{new_lane, on_lane_after, when}
use Rattle.mta_histories.specs.Kept.{IsKept}
use Rattle.mta_histories.specs.Lanes.{EachLane, Lane, State, Transfer, empty}
use Rattle.mta_histories.specs.Sound.{item_begun, machine_begun, responsible_of, spread}
use Rattle.mta_machine.specs.Machine.{IsRun}
use Rattle.mta_histories.proofs.Keeps.{empty_kept, steps_keep}
use Rattle.mta_histories.proofs.LaneLists.{each-more}
use Rattle.mta_histories.proofs.Rows.{step_run}
use Rattle.mta_sound_laws.proofs.Coded.{IsCoded, IsCodedItem, IsCodedMachine, IsWordLine, run-coded}
use Rattle.mta_sound_laws.proofs.LaneFields.{HasNumbers, HasRecipients, IsGeneration, IsWritable}
use Rattle.mta_sound_laws.proofs.LaneFields.{lanes-writable, new-writable}

-- what a record asks of a state and neither its soundness nor what is kept of it says
pub record IsInFields (s : State) : Type 0 where
  pub moment : s.moment ≤ last_moment
  pub count : s.lanes.count < 2 ^ 32
  pub few : length s.machine.items < 2 ^ 32
  pub machine : IsCodedMachine s.machine
  pub lanes : EachLane IsWritable s.lanes.open_lanes

-- ---- what the record of a step says

-- what is told is in the ranges of a record
abbrev IsTold : Class → Type 0
IsTold (begins t) = a_snapshot.Fits t
IsTold sets_format = Unit {0}
IsTold (records text) = Unit {0}
IsTold (accepts octets) = Unit {0}
IsTold (settles how i r) = Unit {0}
IsTold (opens role peer reference twa checkpoint window) = (is_word peer ≡ true) × IsIdentifier reference
IsTold (on_lane n g step) = IfSome g IsGeneration × HasNumbers step

abbrev IsMoment : ℕ → Type 0
IsMoment n = n ≤ last_moment

-- what a step tells, and its moment
abbrev IsToldStep : Step → Type 0
IsToldStep step = IsTold (class_of step) × IfSome (moment_of step) IsMoment

fields-moment : (t : SnapshotValue) → a_snapshot.Fits t → t.moment ≤ last_moment
unfolding a_snapshot
fields-moment t f = f.1.0.0

told : (step : Step) → HasFields step → IsToldStep step
told (Tables text) f = (tt, tt)
told (Accept moment apdu) f = (tt, f.0)
told (Deliver item recipient moment) f = (tt, f.1.1)
told (Expand item recipient moment) f = (tt, f.1.1)
told (Report item recipient moment) f = (tt, f.1.1)
told (Affirm item recipient moment) f = (tt, f.1.1)
told (Discard item recipient moment) f = (tt, f.1.1)
told (Back item recipient moment) f = (tt, f.1.1)
told (LaneOpen role peer reference twa checkpoint window moment) f = ((f.0.1.0, f.0.1.1), f.1.1.1.1)
told (LaneAgree lane generation checkpoint window) f = ((f.0.1, tt), tt)
told (Bind lane generation) f = ((f.1, tt), tt)
told (Start lane generation activity item recipients moment) f = ((f.0.0.0.1, (f.0.0.1, f.1.0.1)), f.1.1)
told (Confirm lane generation activity checkpoint) f = ((f.0.0.1, f.1), tt)
told (Ending lane generation activity) f = ((f.0.1, f.1), tt)
told (Sent lane generation activity moment) f = ((f.0.0.1, tt), f.1)
told (Refused lane generation activity kind moment) f = ((f.0.0.1, tt), f.1.1)
told (Denied lane generation activity moment) f = ((f.0.0.1, tt), f.1)
told (Dropped lane generation activity) f = ((f.0.1, tt), tt)
told (Abandon lane activity moment) f = ((tt, f.1.0), f.1.1)
told (Secure lane generation activity number piece) f = ((f.0.0.0.1, f.0.0.1), tt)
told (Complete lane generation activity number piece moment) f = ((f.0.0.0.1, f.0.0.1), f.1.1)
told (Drop lane generation activity) f = ((f.0.1, tt), tt)
told (CloseLane lane generation) f = ((f.1, tt), tt)
told (Snapshot state) f = (f, fields-moment state f)
told (Format version) f = (tt, tt)

moment-later : (before : ℕ) (o : Option ℕ) → before ≤ last_moment → IfSome o IsMoment
    → later before o ≤ last_moment
moment-later before None b h = b
moment-later before (Some moment) b h = h

-- ---- a history that begins with a snapshot

status-coded : (s : Status) → status_form.Fits s → IsCoded (Some s)
unfolding status_form
status-coded Pending f = tt
status-coded (Delivered moment) f = tt
status-coded (Expanded moment) f = tt
status-coded (status.Sent moment peer) f = f.1.0.1
status-coded (Reported moment reason diagnostic) f = f.1.0.1
status-coded (Affirmed moment) f = tt
status-coded (Discarded moment) f = tt
status-coded (Passed moment) f = tt

spread-coded : (rs : List Bool) (codes : List Status) → AllByRecursion status_form.Fits codes
    → AllByRecursion IsCoded (spread rs codes)
spread-coded [] codes f = tt
spread-coded (false ∷ rs) codes f = (tt, spread-coded rs codes f)
spread-coded (true ∷ rs) [] f = (tt, spread-coded rs [] f)
spread-coded (true ∷ rs) (c ∷ codes) f = (status-coded c f.0, spread-coded rs codes f.1)

begun-items : (items : List RecordedItem) → AllByRecursion item_form.Fits items
    → AllByRecursion IsCodedItem (map item_begun items)
unfolding item_form
begun-items [] f = tt
begun-items (i ∷ items) f =
    (spread-coded (responsible_of (value_of i.octets)) i.codes f.0.0.1.1.1.1, begun-items items f.1)

begun-lines : (lines : List MailboxLine) → AllByRecursion line_form.Fits lines → AllByRecursion IsWordLine lines
unfolding line_form
begun-lines [] f = tt
begun-lines (l ∷ lines) f = (f.0.0.0, begun-lines lines f.1)

-- the numbers of a sending half
record IsSendingHalf (h : SendingHalf) : Type 0 where
  last : last_of h.0 < 2 ^ 32
  confirmed : confirmed_of h.0 < 2 ^ 32
  recipients : HasRecipients h.1

given-recipients : (two : Bool) (o : Option Transfer) → (a_transfer two).Fits (transfer_in o) → HasRecipients o
unfolding a_transfer
given-recipients two None f = tt
given-recipients two (Some t) f = f.0.1.0.1

no-recipients : (o : Option Transfer) → None ≡ o → HasRecipients o
no-recipients None e = tt
no-recipients (Some t) e = absurd cc

sending-half : (two : Bool) (st : SendState) (o : Option Transfer) → (sending_form two).Fits (st, o)
    → IsSendingHalf (st, o)
unfolding sending_form
sending-half two (half.Idle last) o f = record {
  last = f.1.0.0;
  confirmed = omega arith;
  recipients = no-recipients o (ap (λ (h : SendingHalf). h.1) f.1.1);
}
sending-half two (half.Sending k c) o f = record {
  last = f.1.0.0;
  confirmed = f.1.0.1.0;
  recipients = given-recipients two o f.1.0.1.1;
}
sending-half two (half.Ending k c) o f = record {
  last = f.1.0.0;
  confirmed = f.1.0.1.0;
  recipients = given-recipients two o f.1.0.1.1;
}
sending-half two (half.Dropping k) o f = record {
  last = f.1.0.0;
  confirmed = omega arith;
  recipients = given-recipients two o f.1.0.1.1;
}

receiving-high : (high : ℕ) (l : Last) (pieces : List (List ℕ)) → receiving_form.Fits (high, (l, pieces))
    → high < 2 ^ 32
unfolding receiving_form
receiving-high high last.None pieces f = f.1.0.0
receiving-high high (last.Partial k p) pieces f = f.1.0.0
receiving-high high (last.Done k) pieces f = f.1.0.0

lane-fields : (two : Bool) (l : Lane) → (lane_form two).Fits l → IsWritable l
unfolding lane_form some_values
lane-fields two l f =
    let sends = sending-half two l.sending l.transfer f.0.1.1.1.0 in
    record {
      peer = f.0.1.0.1.0;
      reference = f.0.1.0.1.1;
      generation = f.0.1.1.0.1.1.1.1;
      last = sends.last;
      confirmed = sends.confirmed;
      recipients = sends.recipients;
      high = receiving-high l.high l.last l.pieces f.0.1.1.1.1;
    }

begun-lanes : (two : Bool) (lanes : List Lane) → AllByRecursion (lane_form two).Fits lanes
    → EachLane IsWritable lanes
begun-lanes two [] f = tt
begun-lanes two (l ∷ lanes) f = (lane-fields two l f.0, begun-lanes two lanes f.1)

begun-machine : (t : SnapshotValue) → a_snapshot.Fits t → IsCodedMachine (machine_begun t)
unfolding a_snapshot
begun-machine t f = record {
  items = begun-items t.items f.1.0.1.1.0.1;
  lines = begun-lines t.mailboxes f.1.0.1.1.1.0.1;
}

begun-count : (t : SnapshotValue) → a_snapshot.Fits t → t.lane_count < 2 ^ 32
unfolding a_snapshot
begun-count t f = f.1.0.1.1.1.1.0

begun-open : (t : SnapshotValue) → a_snapshot.Fits t → EachLane IsWritable t.lanes
unfolding a_snapshot
begun-open t f = begun-lanes (eqb t.format 2) t.lanes f.1.0.1.1.1.1.1.1

-- ---- a step

machine-in : (s : State) (c : Class) (moment : ℕ) → IsTold c → IsRun s.machine (class_steps s c moment)
    → IsInFields s → IsCodedMachine (machine_left s c moment)
machine-in s (begins t) moment is run had = begun-machine t is
machine-in s sets_format moment is run had = run-coded s.machine (class_steps s sets_format moment) run had.machine
machine-in s (records text) moment is run had =
    run-coded s.machine (class_steps s (records text) moment) run had.machine
machine-in s (accepts octets) moment is run had =
    run-coded s.machine (class_steps s (accepts octets) moment) run had.machine
machine-in s (settles how i r) moment is run had =
    run-coded s.machine (class_steps s (settles how i r) moment) run had.machine
machine-in s (opens role peer reference twa checkpoint window) moment is run had =
    run-coded s.machine (class_steps s (opens role peer reference twa checkpoint window) moment) run had.machine
machine-in s (on_lane n g step) moment is run had =
    run-coded s.machine (class_steps s (on_lane n g step) moment) run had.machine

count-in : (s : State) (c : Class) (moment : ℕ) → IsTold c → StepNeeds s c moment → IsInFields s
    → (lanes_after s c moment).count < 2 ^ 32
count-in s (begins t) moment is needs had = begun-count t is
count-in s sets_format moment is needs had = had.count
count-in s (records text) moment is needs had = had.count
count-in s (accepts octets) moment is needs had = had.count
count-in s (settles how i r) moment is needs had = had.count
count-in s (opens role peer reference twa checkpoint window) moment is needs had = needs.number
count-in s (on_lane n g step) moment is needs had = had.count

lanes-in : (s : State) (c : Class) (moment : ℕ) → IsTold c → StepNeeds s c moment → IsInFields s
    → EachLane IsWritable (lanes_after s c moment).open_lanes
lanes-in s (begins t) moment is needs had = begun-open t is
lanes-in s sets_format moment is needs had = had.lanes
lanes-in s (records text) moment is needs had = had.lanes
lanes-in s (accepts octets) moment is needs had = had.lanes
lanes-in s (settles how i r) moment is needs had = had.lanes
lanes-in s (opens role peer reference twa checkpoint window) moment is needs had =
    each-more IsWritable s.lanes.open_lanes (new_lane (s.lanes.count + 1) role peer reference twa checkpoint window)
    (new-writable (s.lanes.count + 1) role peer reference twa checkpoint window is.0 is.1) had.lanes
lanes-in s (on_lane n g step) moment is needs had =
    subst (λ (o : Option Lane). EachLane IsWritable (on_lane_after s o step moment)) (sym needs.lane_is)
    (lanes-writable s n needs.lane step g moment needs.lane_is needs.current needs.needs is.0 is.1 had.lanes)

step-in : (s : State) (step : Step) → HasFields step → IsKept s → IsPossible s step → IsInFields s
    → IsInFields (after_step s step)
step-in s step f kept possible had =
    let is = told step f in
    record {
      moment = moment-later s.moment (moment_of step) had.moment is.1;
      count = count-in s (class_of step) (when s step) is.0 possible.allowed had;
      few = possible.numbers;
      machine = machine-in s (class_of step) (when s step) is.0 (step_run s step kept possible) had;
      lanes = lanes-in s (class_of step) (when s step) is.0 possible.allowed had;
    }

-- ---- histories

empty-in : IsInFields empty
empty-in = record {
  moment = omega arith;
  count = omega arith;
  few = omega arith;
  machine = record { items = tt; lines = tt };
  lanes = tt;
}

fields-along : (s : State) (steps : List Step) → AllByRecursion HasFields steps → IsKept s → IsInFields s
    → ArePossible s steps → IsInFields (after_from s steps)
fields-along s [] f kept had possible = had
fields-along s (step ∷ steps) f kept had possible =
    fields-along (after_step s step) steps f.1 (steps_keep s step kept possible.0)
    (step-in s step f.0 kept possible.0 had) possible.1

pub histories_in_fields : (steps : List Step) → AllByRecursion HasFields steps → IsHistory steps
    → IsInFields (after steps)
histories_in_fields steps f history = fields-along empty steps f empty_kept empty-in history
