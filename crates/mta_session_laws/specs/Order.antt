-- What stands before what in the calls of a session: what is answered before a unit is taken, what was looked for
-- before the turn is given up, and what came before a lane is closed, room is made, or the session ends.
use Rattle.std.specs.Prelude.{◌≡◌, ◌⊎◌, Bool, true, false, Option, Some, None, Result, Ok, Err, List}
use Rattle.std.specs.Prelude.{[], ◌∷◌, ◌++◌}
use Rattle.mta_ber.specs.declared.memory.Memory.{Memory as NoMemory}
use Rattle.mta_units.specs.declared.unit.Unit.{Unit as AnyUnit}
use Rattle.mta_units.specs.declared.unit.Unit.TheVariants as unit
use Rattle.mta_records.specs.declared.lane.Batch.{Batch}
use Rattle.mta_records.specs.declared.fault.StepFault.{StepFault}
use Rattle.mta_records.specs.declared.fault.StepFault.TheVariants as fault
use Rattle.mta_transfer_rules.specs.Sending as s
use Rattle.mta_transfer_rules.specs.Receiving as r
use Rattle.mta_transfer_rules.specs.Receiving.{RecvStage}
use Rattle.mta_session.specs.declared.ask.Ask.TheVariants as ask
use Rattle.mta_session.specs.declared.ask.Reply.{Reply}
use Rattle.mta_session.specs.declared.ask.Reply.TheVariants as reply
use Rattle.mta_session.specs.declared.event.Event.{Event}
use Rattle.mta_session.specs.declared.event.Event.TheVariants as event
use Rattle.mta_session.specs.declared.event.Action.{Action}
use Rattle.mta_session.specs.declared.event.Action.TheVariants as action
use Rattle.mta_session.specs.declared.event.SessionEnd.{SessionEnd}
use Rattle.mta_session.specs.declared.event.SessionEnd.TheVariants as end
use Rattle.mta_session.specs.declared.phase.Phase.{Phase}
use Rattle.mta_session.specs.declared.phase.Phase.TheVariants as phase
use Rattle.mta_session.specs.State.{State}
use Rattle.mta_session.specs.Rank.{is_over}
use Rattle.mta_session_laws.specs.Turning.{is_open}
use Rattle.mta_session_laws.specs.Causes.{end_of}
use Rattle.mta_session_laws.specs.Runs.{Turn}
use Rattle.mta_session_laws.specs.Whole.{IsNew, AreCalls}

-- Before a unit is taken ---------------------------------------------------------------------

abbrev pub takes_unit : Event → Bool
takes_unit (event.Unit x) = true
takes_unit event.BadUnit = true
takes_unit _ = false

-- Each unit that was taken has its answer. Where the session is open and has the turn, all is put that the rules of
-- sending ends allow, and where no activity is under way, Close is put.
pub record TakesOwingNothing (t : State) : Type 0 where
  pub taken : r.OwesNothing t.recv
  pub put : is_open t.phase ≡ true → t.ours ≡ true → s.OwesNothing t.send
  pub next : is_open t.phase ≡ true → t.ours ≡ true → t.send.stage ≡ s.Quiet
      → t.phase ≡ phase.ReadsCloseAck

abbrev pub AllTakeOwingNothing : List Turn → Type 0
AllTakeOwingNothing [] = Unit {0}
AllTakeOwingNothing (x ∷ xs) = (takes_unit x.event ≡ true → TakesOwingNothing x.before) × AllTakeOwingNothing xs

-- Of all calls of a session, from the first on: nothing is owed before each unit.
abbrev pub NothingIsOwed : Type 0
NothingIsOwed = (t u : State) (xs : List Turn) → IsNew t → AreCalls t xs u → AllTakeOwingNothing xs

-- Resume and Discard are answered at once ----------------------------------------------------

abbrev pub is_due : RecvStage → Bool
is_due (r.Asked k n) = true
is_due (r.Discards k) = true
is_due _ = false

-- Between two calls no answer to Resume is due, and one to Discard only while what stands of the activity is dropped.
abbrev pub DueAt : Phase → RecvStage → Type 0
DueAt (phase.AsksDrop k None) stage = stage ≡ r.Discards k
DueAt _ stage = is_due stage ≡ false

abbrev pub AllAnswer : List Turn → Type 0
AllAnswer [] = Unit {0}
AllAnswer (x ∷ xs) = DueAt x.before.phase x.before.recv.stage × DueAt x.after.phase x.after.recv.stage
    × AllAnswer xs

abbrev pub AnswersAtOnce : Type 0
AnswersAtOnce = (t u : State) (xs : List Turn) → IsNew t → AreCalls t xs u → AllAnswer xs

-- Looks --------------------------------------------------------------------------------------

abbrev pub looked_found : Bool → Result (Option Batch) NoMemory → Bool
looked_found before (Ok None) = true
looked_found before (Ok (Some batch)) = false
looked_found before (Err m) = before

abbrev pub looked_settled : {A : Type 0} → Bool → Result A StepFault → Bool
looked_settled before (Ok x) = false
looked_settled before (Err f) = before

abbrev pub looked_told : Bool → Reply → Bool
looked_told before (reply.BatchFor x) = looked_found before x
looked_told before (reply.Sent x) = looked_settled before x
looked_told before (reply.Dropped x) = looked_settled before x
looked_told before (reply.Refused x) = looked_settled before x
looked_told before (reply.Denied x) = looked_settled before x
looked_told before _ = before

abbrev pub looked_got : Bool → AnyUnit → Bool
looked_got before unit.Give = false
looked_got before _ = before

-- Whether a look has found no batch since the turn came, and since an activity was settled.
abbrev pub looked_by : Bool → Event → Bool
looked_by before (event.Reply x) = looked_told before x
looked_by before (event.Unit x) = looked_got before x
looked_by before _ = before

-- the session puts that it has nothing to send
abbrev pub ends_turn : Action → Bool
ends_turn (action.Put unit.Close) = true
ends_turn (action.Put unit.Give) = true
ends_turn _ = false

abbrev pub AllLook : (looked : Bool) → List Turn → Type 0
AllLook looked [] = Unit {0}
AllLook looked (x ∷ xs) =
    (ends_turn x.action ≡ true → looked_by looked x.event ≡ true) × AllLook (looked_by looked x.event) xs

-- Close and Give are put only where a look has found no batch since the turn came and since an activity was settled.
abbrev pub LooksFirst : Type 0
LooksFirst = (t u : State) (xs : List Turn) → IsNew t → AreCalls t xs u → AllLook false xs

-- Lanes --------------------------------------------------------------------------------------

abbrev pub IsBusy : Event → Type 0
IsBusy (event.Reply (reply.LaneOpen (Err (fault.BusyLanes count)))) = Unit {0}
IsBusy _ = ⊥

-- Close or its answer came, or Reject, or its activity was denied, or the lane makes room for another.
abbrev pub IsClosing : Event → Type 0
IsClosing (event.Unit unit.Close) = Unit {0}
IsClosing (event.Unit unit.CloseAck) = Unit {0}
IsClosing (event.Unit (unit.Reject reason)) = Unit {0}
IsClosing (event.Reply (reply.Denied (Ok x))) = Unit {0}
IsClosing (event.Reply (reply.SpareLane (Some x))) = Unit {0}
IsClosing _ = ⊥

-- A lane is asked to be closed, and one that makes room is looked for, only at these events.
abbrev pub HasOccasion : Action → Event → Type 0
HasOccasion (action.Ask (ask.CloseLane lane generation)) e = IsClosing e
HasOccasion (action.Ask (ask.SpareLane role peer)) e = IsBusy e
HasOccasion _ e = Unit {0}

abbrev pub IsAtClose : Event → Type 0
IsAtClose (event.Unit unit.Close) = Unit {0}
IsAtClose (event.Unit unit.CloseAck) = Unit {0}
IsAtClose _ = ⊥

-- and the session is about to end as closed only behind Close or its answer
abbrev pub ClosesAt : Phase → Event → Type 0
ClosesAt phase.AsksClose e = IsAtClose e
ClosesAt _ e = Unit {0}

abbrev pub AllHaveOccasion : List Turn → Type 0
AllHaveOccasion [] = Unit {0}
AllHaveOccasion (x ∷ xs) = HasOccasion x.action x.event × ClosesAt x.after.phase x.event × AllHaveOccasion xs

abbrev pub LanesHaveOccasion : Type 0
LanesHaveOccasion = (t u : State) (xs : List Turn) → IsNew t → AreCalls t xs u → AllHaveOccasion xs

-- What an action waits for -------------------------------------------------------------------

abbrev pub is_putting : Phase → Bool
is_putting phase.PutsOpen = true
is_putting phase.PutsAccept = true
is_putting phase.Puts = true
is_putting phase.PutsClose = true
is_putting (phase.PutsLast x) = true
is_putting _ = false

abbrev pub is_reading : Phase → Bool
is_reading phase.ReadsOpen = true
is_reading phase.ReadsAnswer = true
is_reading phase.Reads = true
is_reading phase.ReadsCloseAck = true
is_reading _ = false

abbrev pub is_asking : Phase → Bool
is_asking phase.Begin = false
is_asking phase.PutsOpen = false
is_asking phase.PutsAccept = false
is_asking phase.Puts = false
is_asking phase.PutsClose = false
is_asking (phase.PutsLast x) = false
is_asking phase.ReadsOpen = false
is_asking phase.ReadsAnswer = false
is_asking phase.Reads = false
is_asking phase.ReadsCloseAck = false
is_asking (phase.Ended x) = false
is_asking _ = true

abbrev pub awaits : Action → Phase → Bool
awaits (action.Put x) p = is_putting p
awaits (action.Ask x) p = is_asking p
awaits action.Read p = is_reading p
awaits (action.Finish x) p = is_over p

-- Behind each action the session waits for what comes of it: that a unit is put, what is read, or an answer.
abbrev pub ActionsAreAwaited : Type 0
ActionsAreAwaited =
    (t u : State) (xs : List Turn) (x : Turn) → IsNew t → AreCalls t (xs ++ x ∷ []) u →
    awaits x.action x.after.phase ≡ true

-- Ends ---------------------------------------------------------------------------------------

-- the link is over at one of these calls
abbrev pub IsCutOff : List Turn → Type 0
IsCutOff [] = ⊥
IsCutOff (x ∷ xs) = (x.event ≡ event.Over) ⊎ IsCutOff xs

-- A session that has turned to an end ends so, but where it was closed and the link is over before CloseAck is put.
abbrev pub SessionsEndSo : Type 0
SessionsEndSo =
    (t u : State) (xs : List Turn) (x : SessionEnd) → AreCalls t xs u → end_of t.phase ≡ Some x →
    (end_of u.phase ≡ Some x) ⊎ ((x ≡ end.Closed) × IsCutOff xs × (end_of u.phase ≡ Some end.Broken))
