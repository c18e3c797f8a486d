-- What one call of `step` does to the sending end of a session's list. The list's end may have heard a unit, of which
-- the state keeps nothing, and keeps the octets of a settled activity, which the state lets go.
use Rattle.std.specs.Prelude.{◌≡◌, ◌≤◌, ℕ, ◌==◌, if◌then◌else◌, Bool, true, false, Option, Some}
use Rattle.std.specs.Prelude.{None, Result, Ok, Err, List, [], ◌∷◌, ◌++◌, length}
use Rattle.mta_units.specs.declared.unit.Unit.{Unit as AnyUnit}
use Rattle.mta_units.specs.declared.unit.Unit.TheVariants as unit
use Rattle.mta_lane_send.specs.declared.state.SendState.{SendState}
use Rattle.mta_lane_send.specs.declared.state.SendState.TheVariants as state
use Rattle.mta_lane_send.specs.Half.{is_idle}
use Rattle.mta_transfer_rules.specs.Units.{LaneUnit}
use Rattle.mta_transfer_rules.specs.Sending as s
use Rattle.mta_transfer_rules.specs.Sending.{SendEnd, SendEvent}
use Rattle.mta_session.specs.declared.ask.Reply.{Reply}
use Rattle.mta_session.specs.declared.ask.Reply.TheVariants as reply
use Rattle.mta_session.specs.declared.event.Event.{Event}
use Rattle.mta_session.specs.declared.event.Event.TheVariants as event
use Rattle.mta_session.specs.declared.event.Action.{Action}
use Rattle.mta_session.specs.declared.event.Action.TheVariants as action
use Rattle.mta_session.specs.declared.event.SessionEnd.TheVariants as end
use Rattle.mta_records.specs.declared.fault.StepFault.{StepFault}
use Rattle.mta_session.specs.declared.phase.Phase.{Phase}
use Rattle.mta_session.specs.declared.phase.Phase.TheVariants as phase
use Rattle.mta_session.specs.declared.phase.OwnStep.{OwnStep}
use Rattle.mta_records.specs.Outgoing.{Carried}
use Rattle.mta_session.specs.Sending.{step_of}
use Rattle.mta_session_laws.specs.Called.{heard_as}
use Rattle.mta_session.specs.State.{State}
use Rattle.mta_session.specs.Wanted.{Wanted, Aborts, Rejects, Ends, Puts, Asks, Reads, Goes_on, Excepts, Never}
use Rattle.mta_session.specs.Wanted.{on_step, on_start, is_given_up, wanted, within}
use Rattle.mta_session.specs.Wanted.{wanted_of_unit}
use Rattle.mta_session.specs.Follows.{Part, Of_sender, Of_receiver, Of_neither, part_of, Follows, counted}
use Rattle.mta_session.specs.Fits.{Fits, Answers}

abbrev pub kept : SendState → List ℕ → List ℕ → List ℕ
kept (state.Idle last) before octets = before
kept _ before octets = octets

-- the list's end where the state has this one
abbrev pub listed : SendEnd → (heard : Option LaneUnit) (before : List ℕ) → SendEnd
listed e heard before = record e { heard = heard; octets = kept e.state before e.octets }

-- where a step is asked for, it may be made
abbrev pub MayFollow : Phase → SendEnd → Type 0
MayFollow (phase.AsksStep step) e = s.MayMake e (step_of step)
MayFollow _ e = Unit {0}

-- the rules allow these events, and they lead to this end
abbrev pub Reaches : SendEnd → List SendEvent → Phase → SendEnd → Type 0
Reaches e events phase f =
    (heard : Option LaneUnit) × (before : List ℕ) × s.IsSendingEnd e events (listed f heard before)
    × MayFollow phase (listed f heard before)

-- a session that makes its last step or puts its last unit is followed no more
abbrev pub is_last_phase : Phase → Bool
is_last_phase phase.AsksDenied = true
is_last_phase phase.AsksClose = true
is_last_phase (phase.AsksLast x) = true
is_last_phase (phase.PutsLast x) = true
is_last_phase (phase.Ended x) = true
is_last_phase _ = false

abbrev pub ReachesBy : Bool → SendEnd → List SendEvent → Phase → SendEnd → Type 0
ReachesBy true e events phase f = Unit {0}
ReachesBy false e events phase f = Reaches e events phase f

abbrev pub ReachesAt : SendEnd → List SendEvent → Phase → SendEnd → Type 0
ReachesAt e events phase f = ReachesBy (is_last_phase phase) e events phase f

-- and a unit that is put
abbrev pub with_put : List SendEvent → Part → List SendEvent
with_put events (Of_sender y) = events ++ (s.Put y ∷ [])
with_put events (Of_receiver y) = events
with_put events Of_neither = events

-- A link is new at the Open that an initiator puts, and at the Accept of a responder, who needs no Accept.
abbrev pub with_unit : List SendEvent → AnyUnit → List SendEvent
with_unit events (unit.Open o) = events ++ (s.New_link false ∷ [])
with_unit events (unit.Accept c w a) = events ++ (s.New_link true ∷ [])
with_unit events x = with_put events (part_of x)

abbrev pub with_action : List SendEvent → Action → List SendEvent
with_action events (action.Put x) = with_unit events x
with_action events _ = events

-- a unit that is answered by a refusal is not taken
abbrev pub unless_refused : Wanted → List SendEvent → List SendEvent
unless_refused (Aborts reason) events = []
unless_refused w events = events

-- What is wanted is reached by these events.
abbrev pub SendGoes : SendEnd → List SendEvent → Wanted → Type 0
SendGoes e events (Goes_on u) = Reaches e events phase.Puts u.send
SendGoes e events (Asks a u) = ReachesAt e events u.phase u.send
SendGoes e events (Puts x u) = ReachesAt e (with_unit events x) u.phase u.send
SendGoes e events (Reads u) = ReachesAt e events u.phase u.send
SendGoes e events (Excepts u found) = Reaches e events phase.Puts u.send
SendGoes e events (Aborts reason) = Unit {0}
SendGoes e events (Rejects reason) = Unit {0}
SendGoes e events (Ends x) = Unit {0}
SendGoes e events Never = Unit {0}

-- The step that was asked for is made
abbrev pub StepGoes : Type 0
StepGoes =
    (t : State) (h : Option LaneUnit) (o : List ℕ) (step : OwnStep) → t.send.heard ≡ None →
    MayFollow (phase.AsksStep step) (listed t.send h o) →
    SendGoes (listed t.send h o) (s.Made (step_of step) ∷ []) (on_step t step (Ok tt))

-- An activity is started
abbrev pub StartGoes : Type 0
StartGoes =
    (t : State) (h : Option LaneUnit) (o : List ℕ) (x : Carried) → t.send.heard ≡ None
    → is_idle t.send.state ≡ true →
    t.send.stage ≡ s.Quiet → 1 ≤ length x.octets →
    SendGoes (listed t.send h o) (s.Made (s.Start x.octets) ∷ []) (on_start t (Ok x))

-- The events of the sending end in one call --------------------------------------------------

abbrev pub made_of : OwnStep → Result (Unit {0}) StepFault → List SendEvent
made_of step (Ok v) = s.Made (step_of step) ∷ []
made_of step (Err f) = []

abbrev pub made_by : OwnStep → Reply → List SendEvent
made_by step (reply.Confirm x) = made_of step x
made_by step (reply.Ending x) = made_of step x
made_by step (reply.Sent x) = made_of step x
made_by step (reply.Dropped x) = made_of step x
made_by step (reply.Refused x) = made_of step x
made_by step _ = []

abbrev pub started_by : Reply → List SendEvent
started_by (reply.Start (Ok o)) = s.Made (s.Start o.octets) ∷ []
started_by _ = []

abbrev pub abandoned : State → Option SendState → List SendEvent
abandoned t (Some told) = if is_given_up t told then (s.Made s.Abandon ∷ []) else []
abandoned t None = []

abbrev pub abandoned_by : State → Reply → List SendEvent
abandoned_by t (reply.Recovery told) = abandoned t told
abandoned_by t _ = []

-- what a unit calls for that is got in this phase
abbrev pub called_for : Phase → State → AnyUnit → Wanted
called_for p t x = within (counted t (event.Unit x)) (wanted_of_unit p (counted t (event.Unit x)) x)

-- an Abort speaks to both ends, another unit to the holder of the turn
abbrev pub got_as : (ours : Bool) → AnyUnit → List SendEvent
got_as ours (unit.Abort reason) = s.Got (heard_as (unit.Abort reason)) ∷ []
got_as ours x = if ours then (s.Got (heard_as x) ∷ []) else []

abbrev pub got_by : Phase → (ours : Bool) → State → Event → List SendEvent
got_by p ours t (event.Unit x) = unless_refused (called_for p t x) (got_as ours x)
got_by p ours t _ = []

-- the last step: the activity is denied, or the peer has it
abbrev pub denied_by : Reply → List SendEvent
denied_by (reply.Denied (Ok v)) = s.Made s.Denied ∷ []
denied_by _ = []

abbrev pub last_by : (reason : ℕ) → Reply → List SendEvent
last_by reason (reply.Denied (Ok v)) = if reason == 2 then (s.Made s.Denied ∷ []) else []
last_by reason (reply.Sent (Ok v)) = if reason == 7 then (s.Made s.Sent ∷ []) else []
last_by reason _ = []

abbrev pub told_by : Phase → State → Event → List SendEvent
told_by phase.ReadsAnswer t e = got_by phase.ReadsAnswer true t e
told_by phase.AsksStart t (event.Reply x) = started_by x
told_by (phase.AsksStep step) t (event.Reply x) = made_by step x
told_by phase.AsksState t (event.Reply x) = abandoned_by t x
told_by phase.Reads t e = got_by phase.Reads t.ours t e
told_by phase.ReadsCloseAck t e = got_by phase.ReadsCloseAck true t e
told_by phase.AsksDenied t (event.Reply x) = denied_by x
told_by (phase.AsksLast (end.PeerAborted reason)) t (event.Reply x) = last_by reason x
told_by _ t e = []

-- an open session
abbrev pub is_open : Phase → Bool
is_open phase.Puts = true
is_open phase.Reads = true
is_open phase.AsksDue = true
is_open phase.AsksBatch = true
is_open phase.AsksStart = true
is_open phase.AsksStillIdle = true
is_open (phase.AsksStep step) = true
is_open phase.AsksState = true
is_open (phase.AsksSecure k n) = true
is_open (phase.AsksComplete k n) = true
is_open (phase.AsksDrop k found) = true
is_open phase.PutsClose = true
is_open phase.ReadsCloseAck = true
is_open _ = false

-- Each event of an open session is one of its sending end, by the rules of that end.
abbrev pub EventsGo : Type 0
EventsGo =
    (t : State) (e : Event) (h : Option LaneUnit) (o : List ℕ) → is_open t.phase ≡ true → Fits t
    → Answers t e →
    t.send.heard ≡ None →
    MayFollow t.phase (listed t.send h o)
    → SendGoes (listed t.send h o) (told_by t.phase t e) (wanted (counted t e) e)

-- One call of `step` of an open session: the events of its sending end are allowed, and lead to the end that the
-- state has then.
abbrev pub CallsGo : Type 0
CallsGo =
    (t : State) (e : Event) (a : Action) (new : State) (h : Option LaneUnit) (o : List ℕ)
    → is_open t.phase ≡ true →
    Fits t → Answers t e → t.send.heard ≡ None →
    MayFollow t.phase (listed t.send h o) → Follows t e a new →
    ReachesAt (listed t.send h o) (with_action (told_by t.phase t e) a) new.phase new.send
