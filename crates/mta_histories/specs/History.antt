-- Histories of the spool: which step is possible in a state, what it is for the machine of recipients, and what it
-- leaves.
use Rattle.std.specs.Prelude.{◌≡◌, ◌≢◌, ℕ, ◌+◌, ◌-◌, ◌*◌, ◌<◌, ◌≤◌, ◌^◌}
use Rattle.std.specs.Prelude.{◌==◌, ◌&&◌, Bool, true, false, List, [], ◌∷◌, ◌++◌, length, take, map}
use Rattle.std.specs.Prelude.{count_by, Option, Some, None, if◌then◌else◌}
use Rattle.std.specs.List.{concat}
use Rattle.mta_records.specs.Reference.{Identifier}
use Rattle.mta_lane_send.specs.declared.state.SendState.{SendState}
use Rattle.mta_lane_send.specs.declared.state.SendState.TheVariants.{Idle}
use Rattle.mta_lane_send.specs.Half.{SendStep, is_idle, is_ending, last_of}
use Rattle.mta_lane_send.specs.Half as send
use Rattle.mta_lane_recv.specs.declared.state.Last.TheVariants as last
use Rattle.mta_lane_recv.specs.Half.{RecvStep}
use Rattle.mta_lane_recv.specs.Half as recv
use Rattle.mta_records.specs.declared.lane.LaneRole.{LaneRole}
use Rattle.mta_records.specs.declared.lane.LaneRole.TheVariants.{Initiator, Responder}
use Rattle.mta_records.specs.declared.step.Step.{Step}
use Rattle.mta_machine.specs.Apdu.{IsApdu}
use Rattle.mta_records.specs.declared.state.Origin.TheVariants as Origins
use Rattle.mta_machine.specs.Verdict.{Verdict}
use Rattle.mta_machine.specs.Verdict.TheVariants as Verdicts
use Rattle.mta_machine.specs.Items.{ItemValue, Machine, numbered, names, AreDifferent}
use Rattle.mta_machine.specs.Rules.{Failure, too_long, violated, denied, expired, is_tables_text, names_peer}
use Rattle.mta_machine.specs.Rules.{is_expired, outgoing_copy}
use Rattle.mta_machine.specs.Machine.{MachineStep, set_tables, set_format, Course, accept, discharge, Discharge}
use Rattle.mta_machine.specs.Machine.{delivered, expanded}
use Rattle.mta_machine.specs.Machine.{affirmed, not_delivered, failed, discarded, passed, sent, last_tables, verdict_at}
use Rattle.mta_machine.specs.Machine.{relay_at, ArePending, Needs, machine_run}
use Rattle.mta_histories.specs.Lanes.{Transfer, Lane, Lanes, State, empty, lane_at, put_lane, without_lane, EachLane}
use Rattle.mta_histories.specs.Lanes.{sender, receiver, is_dropping, IsFree}
use Rattle.mta_histories.specs.Sound.{CanBegin, machine_begun, lanes_begun, state_begun}
pub use Rattle.mta_histories.specs.Limits.{longest_activity, longest_piece, octets_of, copied, is_role, most_lanes}
pub use Rattle.mta_histories.specs.Limits.{is_with}
use Rattle.mta_histories.specs.Classes.{Settling, deliver, expand, report, affirm, discard, back, Outcome, was_sent}
use Rattle.mta_histories.specs.Classes.{was_refused, was_denied, was_dropped, LaneStep, agree, bind, start, confirm}
use Rattle.mta_histories.specs.Classes.{to_end, settle, abandon, secure, complete, drop_pieces, close, Class, records}
use Rattle.mta_histories.specs.Classes.{begins, sets_format, accepts, settles, opens, on_lane, class_of, moment_of}

-- ---- the half step in a step on a lane (X.228 clause 7)

abbrev pub send_step : Outcome → ℕ → SendStep
send_step was_sent k = send.Sent k
send_step (was_refused kind) k = send.Refused k
send_step was_denied k = send.Denied k
send_step was_dropped k = send.Dropped k

-- the sending half allows the step, and its state after it
abbrev pub Sends : Lane → SendStep → Type 0
Sends lane step = send.is_possible (sender lane) step ≡ true

abbrev pub sends : Lane → SendStep → SendState
sends lane step = (send.made (sender lane) step).state

-- the receiving half allows the step
abbrev pub Receives : Lane → RecvStep → Type 0
Receives lane step = recv.is_possible (receiver lane) step ≡ true

-- ---- pieces

-- piece n in place of the n-th and all behind it
abbrev pub with_piece : List (List ℕ) → ℕ → List ℕ → List (List ℕ)
with_piece pieces n piece = take (n - 1) pieces ++ piece ∷ []

-- the receiving half takes this piece
pub record TakesPiece (lane : Lane) (step : RecvStep) (n : ℕ) (piece : List ℕ) : Type 0 where
  pub agreed : lane.agreed ≡ true
  pub taken : Receives lane step
  pub some_octets : 1 ≤ length piece
  pub short : length piece ≤ longest_piece lane.checkpoint
  pub within : length (concat (with_piece lane.pieces n piece)) ≤ longest_activity

-- ---- starting an activity

-- A new activity: the recipients are different, pending and free, each with a verdict that relays to the lane's peer
-- under the tables recorded last in the format of now, and there is an outgoing copy for them.
pub record CanStart (s : State) (lane : Lane) (k i : ℕ) (rs : List ℕ) (moment : ℕ) : Type 0 where
  pub agreed : lane.agreed ≡ true
  pub idle : is_idle lane.sending ≡ true
  pub next : k ≡ last_of lane.sending + 1
  pub some_recipients : rs ≢ []
  pub different : AreDifferent rs
  pub pending : ArePending s.machine i rs
  pub free : (r : ℕ) → names rs r ≡ true → IsFree s i r
  pub relayed : (r : ℕ) → names rs r ≡ true
      → relay_at s.machine s.machine.format (last_tables s.machine) i r moment ≡ Some lane.peer
  pub text : List ℕ
  pub text_is : numbered s.machine.tables (last_tables s.machine) ≡ Some text
  pub item : ItemValue
  pub item_is : numbered s.machine.items i ≡ Some item
  pub copy : List ℕ
  pub copy_is : outgoing_copy text item.octets item.arrival rs moment ≡ Some copy

-- what an activity for these recipients transfers
abbrev pub transfer_of : Machine → ℕ → List ℕ → ℕ → Transfer
transfer_of m i rs moment = record {
  item = i;
  recipients = rs;
  moment = moment;
  tables = last_tables m;
  format = m.format;
  octets = copied (numbered m.tables (last_tables m)) (numbered m.items i) rs moment;
}

-- ---- lanes that are opened

abbrev pub NamesPeer : Option (List ℕ) → List ℕ → Type 0
NamesPeer None peer = ⊥
NamesPeer (Some text) peer = names_peer text peer ≡ true

-- The recorded tables name the peer, there is room for a lane with it, no open lane has this name, and the values are
-- in their ranges.
pub record CanOpen (s : State) (role : LaneRole) (peer : List ℕ) (name : Identifier)
    (size window : ℕ) : Type 0 where
  pub named : NamesPeer (numbered s.machine.tables (last_tables s.machine)) peer
  pub room : count_by (is_with role peer) s.lanes.open_lanes < most_lanes
  pub new : EachLane (λ lane. lane.role ≡ role → lane.peer ≡ peer → lane.reference ≡ name → ⊥)
      s.lanes.open_lanes
  pub number : s.lanes.count + 1 < 2 ^ 32
  pub checkpoint_fits : size ≤ 64
  pub window_fits : (1 ≤ window) × (window ≤ 8)

-- a new lane; the values of a responder's are agreed
abbrev pub new_lane : ℕ → LaneRole → List ℕ → Identifier → Bool → ℕ → ℕ → Lane
new_lane number role peer reference twa checkpoint window = record {
  number = number;
  role = role;
  peer = peer;
  reference = reference;
  checkpoint = checkpoint;
  window = window;
  twa = twa;
  agreed = is_role Responder role;
  generation = 1;
  sending = Idle 0;
  transfer = None;
  high = 0;
  last = last.None;
  pieces = [];
}

-- ---- what a step needs

-- the item of the activity has expired under the tables recorded last
abbrev pub IsExpiredOn : (format : ℕ) → Option (List ℕ) → Option ItemValue → ℕ → Type 0
IsExpiredOn format None item moment = ⊥
IsExpiredOn format (Some text) None moment = ⊥
IsExpiredOn format (Some text) (Some item) moment = is_expired format text item.octets item.arrival moment ≡ true

abbrev pub HasExpired : Machine → Option Transfer → ℕ → Type 0
HasExpired m None moment = ⊥
HasExpired m (Some t) moment = IsExpiredOn m.format (numbered m.tables (last_tables m)) (numbered m.items t.item) moment

-- The generation that a step tells is the lane's. A Bind tells the next one, and an Abandon tells none.
abbrev pub IsOfGeneration : Lane → Option ℕ → LaneStep → Type 0
IsOfGeneration lane g bind = g ≡ Some (lane.generation + 1)
IsOfGeneration lane g (abandon k) = Unit {0}
IsOfGeneration lane g step = g ≡ Some lane.generation

-- What a step on a lane needs of the lane. The moment is the step's, where it carries one.
abbrev pub LaneNeeds : State → Lane → LaneStep → ℕ → Type 0
LaneNeeds s lane (agree checkpoint window) moment =
    (lane.role ≡ Initiator) × (lane.agreed ≡ false) × (checkpoint ≤ lane.checkpoint) × (1 ≤ window)
    × (window ≤ lane.window)
LaneNeeds s lane bind moment = Unit {0}
LaneNeeds s lane (start k i rs) moment = CanStart s lane k i rs moment
LaneNeeds s lane (confirm k n) moment = Sends lane (send.Confirm k n)
LaneNeeds s lane (to_end k) moment = Sends lane (send.To_end k)
LaneNeeds s lane (settle outcome k) moment = Sends lane (send_step outcome k)
LaneNeeds s lane (abandon k) moment = Sends lane (send.Abandon k) × HasExpired s.machine lane.transfer moment
LaneNeeds s lane (secure k n piece) moment = TakesPiece lane (recv.Secure k n) n piece
LaneNeeds s lane (complete k n piece) moment =
    TakesPiece lane (recv.Complete k n) n piece × IsApdu (concat (with_piece lane.pieces n piece))
LaneNeeds s lane (drop_pieces k) moment = Receives lane (recv.Drop k)
LaneNeeds s lane close moment = is_idle lane.sending ≡ true

-- a step on an open lane
pub record IsOnLane (s : State) (n : ℕ) (generation : Option ℕ) (step : LaneStep) (moment : ℕ) : Type 0 where
  pub lane : Lane
  pub lane_is : lane_at n s.lanes.open_lanes ≡ Some lane
  pub current : IsOfGeneration lane generation step
  pub needs : LaneNeeds s lane step moment

-- What a step needs beside what it needs of the machine.
abbrev pub StepNeeds : State → Class → ℕ → Type 0
StepNeeds s (begins t) moment = CanBegin s t moment
StepNeeds s sets_format moment = Unit {0}
StepNeeds s (records text) moment = is_tables_text text ≡ true
StepNeeds s (accepts octets) moment = Unit {0}
StepNeeds s (settles how i r) moment = IsFree s i r
StepNeeds s (opens role peer reference twa checkpoint window) moment = CanOpen s role peer reference checkpoint window
StepNeeds s (on_lane n generation step) moment = IsOnLane s n generation step moment

-- ---- what a step is for the machine

abbrev pub reported : Option Verdict → Discharge
reported None = not_delivered 0 0
reported (Some (Verdicts.Deliver place)) = not_delivered 0 0
reported (Some (Verdicts.Expand place)) = not_delivered 0 0
reported (Some (Verdicts.Relay place)) = not_delivered 0 0
reported (Some Verdicts.Affirm) = not_delivered 0 0
reported (Some (Verdicts.NonDeliver reason diagnostic)) = not_delivered reason diagnostic
reported (Some (Verdicts.Hold until)) = not_delivered 0 0
reported (Some Verdicts.Back) = not_delivered 0 0
reported (Some Verdicts.Discard) = not_delivered 0 0

-- A Report tells neither reason nor diagnostic, which are those of the verdict. Under another verdict it is not
-- justified.
abbrev pub discharge_by : Settling → Option Verdict → Discharge
discharge_by deliver verdict = delivered
discharge_by expand verdict = expanded
discharge_by report verdict = reported verdict
discharge_by affirm verdict = affirmed
discharge_by discard verdict = discarded
discharge_by back verdict = passed

-- the recipients of an activity that failed, one after the other
abbrev pub failures : Failure → ℕ → Option Transfer → List MachineStep
failures failure moment None = []
failures failure moment (Some t) = map (λ r. discharge t.item (r ∷ []) (failed failure) moment) t.recipients

-- the recipients of an activity that was sent, all at once
abbrev pub sendings : List ℕ → ℕ → Option Transfer → List MachineStep
sendings peer moment None = []
sendings peer moment (Some t) = discharge t.item t.recipients (sent peer t.tables t.moment t.format) moment ∷ []

-- the fault of an Exception of kind 11 is that there are too many octets
abbrev pub failure_of_kind : ℕ → Failure
failure_of_kind kind = if kind == 11 then too_long else violated

abbrev pub outcome_steps : Lane → Outcome → ℕ → ℕ → List MachineStep
outcome_steps lane was_sent k moment = sendings lane.peer moment lane.transfer
outcome_steps lane (was_refused kind) k moment =
    if is_dropping lane.sending then [] else failures (failure_of_kind kind) moment lane.transfer
outcome_steps lane was_denied k moment = if is_ending lane.sending k then failures denied moment lane.transfer else []
outcome_steps lane was_dropped k moment = []

abbrev pub lane_steps : Lane → LaneStep → ℕ → List MachineStep
lane_steps lane (agree checkpoint window) moment = []
lane_steps lane bind moment = []
lane_steps lane (start k i rs) moment = []
lane_steps lane (confirm k n) moment = []
lane_steps lane (to_end k) moment = []
lane_steps lane (settle outcome k) moment = outcome_steps lane outcome k moment
lane_steps lane (abandon k) moment = failures expired moment lane.transfer
lane_steps lane (secure k n piece) moment = []
lane_steps lane (complete k n piece) moment =
    accept (concat (with_piece lane.pieces n piece)) Origins.Lane moment ∷ []
lane_steps lane (drop_pieces k) moment = []
lane_steps lane close moment = []

abbrev pub on_lane_steps : Option Lane → LaneStep → ℕ → List MachineStep
on_lane_steps None step moment = []
on_lane_steps (Some lane) step moment = lane_steps lane step moment

abbrev pub class_steps : State → Class → ℕ → List MachineStep
class_steps s (begins t) moment = []
class_steps s sets_format moment = set_format ∷ []
class_steps s (records text) moment = set_tables text ∷ []
class_steps s (accepts octets) moment = accept octets Origins.Submitted moment ∷ []
class_steps s (settles how i r) moment =
    discharge i (r ∷ []) (discharge_by how (verdict_at s.machine i r moment)) moment ∷ []
class_steps s (opens role peer reference twa checkpoint window) moment = []
class_steps s (on_lane n generation step) moment = on_lane_steps (lane_at n s.lanes.open_lanes) step moment

-- ---- what a step leaves

-- the lane after a step on it
abbrev pub lane_after : State → Lane → LaneStep → ℕ → Lane
lane_after s lane (agree checkpoint window) moment = record lane {
  checkpoint = checkpoint;
  window = window;
  agreed = true;
}
lane_after s lane bind moment = record lane { generation = lane.generation + 1 }
lane_after s lane (start k i rs) moment = record lane {
  sending = sends lane (send.Start (length (transfer_of s.machine i rs moment).octets));
  transfer = Some (transfer_of s.machine i rs moment);
}
lane_after s lane (confirm k n) moment = record lane { sending = sends lane (send.Confirm k n) }
lane_after s lane (to_end k) moment = record lane { sending = sends lane (send.To_end k) }
lane_after s lane (settle outcome k) moment = record lane {
  sending = sends lane (send_step outcome k);
  transfer = None;
}
lane_after s lane (abandon k) moment = record lane { sending = sends lane (send.Abandon k) }
lane_after s lane (secure k n piece) moment = record lane {
  high = (recv.made (receiver lane) (recv.Secure k n)).high;
  last = (recv.made (receiver lane) (recv.Secure k n)).last;
  pieces = with_piece lane.pieces n piece;
}
lane_after s lane (complete k n piece) moment = record lane {
  high = (recv.made (receiver lane) (recv.Complete k n)).high;
  last = (recv.made (receiver lane) (recv.Complete k n)).last;
  pieces = [];
}
lane_after s lane (drop_pieces k) moment = record lane {
  last = (recv.made (receiver lane) (recv.Drop k)).last;
  pieces = [];
}
lane_after s lane close moment = lane

abbrev pub on_lane_after : State → Option Lane → LaneStep → ℕ → List Lane
on_lane_after s None step moment = s.lanes.open_lanes
on_lane_after s (Some lane) close moment = without_lane lane.number s.lanes.open_lanes
on_lane_after s (Some lane) step moment = put_lane (lane_after s lane step moment) s.lanes.open_lanes

abbrev pub lanes_after : State → Class → ℕ → Lanes
lanes_after s (begins t) moment = lanes_begun t
lanes_after s sets_format moment = s.lanes
lanes_after s (records text) moment = s.lanes
lanes_after s (accepts octets) moment = s.lanes
lanes_after s (settles how i r) moment = s.lanes
lanes_after s (opens role peer reference twa checkpoint window) moment = record {
  count = s.lanes.count + 1;
  open_lanes = s.lanes.open_lanes ++ new_lane (s.lanes.count + 1) role peer reference twa checkpoint window ∷ [];
}
lanes_after s (on_lane n generation step) moment = record s.lanes {
  open_lanes = on_lane_after s (lane_at n s.lanes.open_lanes) step moment;
}

-- ---- steps and histories

-- the moment that a step carries, or else the last one
abbrev pub later : ℕ → Option ℕ → ℕ
later before None = before
later before (Some moment) = moment

-- when a step is made
abbrev pub when : State → Step → ℕ
when s step = later s.moment (moment_of step)

-- what a step is for the machine
abbrev pub machine_steps : State → Step → List MachineStep
machine_steps s step = class_steps s (class_of step) (when s step)

-- the machine after a step: of a snapshot it is the one that it has
abbrev pub machine_left : State → Class → ℕ → Machine
machine_left s (begins t) moment = machine_begun t
machine_left s c moment = machine_run s.machine (class_steps s c moment)

abbrev pub state_left : State → Class → ℕ → State
state_left s c moment = record {
  machine = machine_left s c moment;
  lanes = lanes_after s c moment;
  moment = moment;
  begun = true;
}

abbrev pub after_step : State → Step → State
after_step s step = state_left s (class_of step) (when s step)

-- What the machine needs of a step beside the lanes. Of a step on a lane it needs no more than the lane does
-- (`LanesAskEnough`).
abbrev pub MachineNeeds : State → Class → ℕ → Type 0
MachineNeeds s (begins t) moment = Unit {0}
MachineNeeds s sets_format moment = Needs s.machine set_format
MachineNeeds s (records text) moment = Unit {0}
MachineNeeds s (accepts octets) moment = Needs s.machine (accept octets Origins.Submitted moment)
MachineNeeds s (settles how i r) moment =
    Needs s.machine (discharge i (r ∷ []) (discharge_by how (verdict_at s.machine i r moment)) moment)
MachineNeeds s (opens role peer reference twa checkpoint window) moment = Unit {0}
MachineNeeds s (on_lane n generation step) moment = Unit {0}

-- A step is possible where its row allows it, its moment is not below the last one, and each item that it makes has a
-- number below 2 ^ 32.
pub record IsPossible (s : State) (step : Step) : Type 0 where
  pub allowed : StepNeeds s (class_of step) (when s step)
  pub as_machine : MachineNeeds s (class_of step) (when s step)
  pub timely : s.moment ≤ when s step
  pub numbers : length (after_step s step).machine.items < 2 ^ 32

abbrev pub after_from : State → List Step → State
after_from s [] = s
after_from s (step ∷ steps) = after_from (after_step s step) steps

abbrev pub ArePossible : State → List Step → Type 0
ArePossible s [] = Unit {0}
ArePossible s (step ∷ steps) = IsPossible s step × ArePossible (after_step s step) steps

-- the state after a history
abbrev pub after : List Step → State
after steps = after_from empty steps

-- each step is possible in the state before it
abbrev pub IsHistory : List Step → Type 0
IsHistory steps = ArePossible empty steps

-- what the steps are for the machine, each in its state
abbrev pub project_from : State → List Step → List MachineStep
project_from s [] = []
project_from s (step ∷ steps) = machine_steps s step ++ project_from (after_step s step) steps

-- where a history begins: with the snapshot that stands first, or else with nothing
abbrev pub begun_with : Class → State
begun_with (begins t) = state_begun t
begun_with c = empty

abbrev pub start_of : List Step → State
start_of [] = empty
start_of (step ∷ steps) = begun_with (class_of step)

-- what a history is for the machine
abbrev pub project : List Step → Course
project steps = record { start = (start_of steps).machine; steps = project_from empty steps }
