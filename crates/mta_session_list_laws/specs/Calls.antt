-- Calls of a session, and what each is in the session's list.
use Rattle.std.specs.Prelude.{ℕ, ◌-◌, ◌*◌, true, false, Option, Some, None, Ok, Err, List, [], ◌∷◌, ◌++◌}
use Rattle.mta_records.specs.declared.fault.CompleteFault.TheVariants.{Bad}
use Rattle.mta_records.specs.declared.lane.LaneRole.{LaneRole}
use Rattle.mta_records.specs.declared.lane.LaneRole.TheVariants.{Initiator, Responder}
use Rattle.mta_units.specs.declared.unit.Unit.{Unit as AnyUnit}
use Rattle.mta_transfer_rules.specs.Lanes as h
use Rattle.mta_transfer_rules.specs.Lanes.{SeenStep}
use Rattle.mta_session.specs.declared.ask.Ask.{Ask}
use Rattle.mta_session.specs.declared.ask.Ask.TheVariants as ask
use Rattle.mta_session.specs.declared.ask.Reply.{Reply}
use Rattle.mta_session.specs.declared.ask.Reply.TheVariants as reply
use Rattle.mta_session.specs.declared.event.Event.{Event}
use Rattle.mta_session.specs.declared.event.Event.TheVariants as event
use Rattle.mta_session.specs.declared.event.Action.{Action}
use Rattle.mta_session.specs.declared.event.Action.TheVariants as action
use Rattle.mta_session.specs.Wanted.{Wanted, Aborts}
use Rattle.mta_session_laws.specs.Turning.{called_for}
use Rattle.mta_session_laws.specs.Runs.{Turn}
use Rattle.mta_transfer_laws.specs.Sessions.{SessionEvent, Got, Refused, Put, Made, Looked}
use Rattle.mta_transfer_laws.specs.Sessions.{Look, Finds, At_sending, No_batch}
use Rattle.mta_transfer_laws.specs.Sessions.{Elsewhere}

-- One call of a session, and the length of the history once its event was made.
pub record Call : Type 0 where
  pub turn : Turn
  pub seen : ℕ

abbrev pub turns_of : List Call → List Turn
turns_of [] = []
turns_of (c ∷ cs) = c.turn ∷ turns_of cs

-- ---- steps

-- a step on a lane, as the lane sees it
pub record StepOn : Type 0 where
  pub lane : ℕ
  pub step : SeenStep

abbrev pub on : (lane : ℕ) → SeenStep → Option StepOn
on lane step = Some (record { lane = lane; step = step })

-- the values of a responder's lane are agreed as it is opened
abbrev pub opened : LaneRole → (checkpoint window : ℕ) → SeenStep
opened Initiator checkpoint window = h.LaneOpen false (1024 * checkpoint) window
opened Responder checkpoint window = h.LaneOpen true (1024 * checkpoint) window

-- The step that was asked for, where the reply says that it was made.
abbrev pub step_told : Ask → Reply → Option StepOn
step_told (ask.LaneOpen role peer reference twa checkpoint window) (reply.LaneOpen (Ok lane)) =
    on lane (opened role checkpoint window)
step_told (ask.LaneAgree lane g checkpoint window) (reply.LaneAgree (Ok x)) =
    on lane (h.LaneAgree (1024 * checkpoint) window)
step_told (ask.Bind lane) (reply.Bind (Ok g)) = on lane (h.Bind g)
step_told (ask.Start lane g batch) (reply.Start (Ok o)) = on lane (h.Start g o.activity o.octets)
step_told (ask.Confirm lane g k n) (reply.Confirm (Ok x)) = on lane (h.Confirm g k n)
step_told (ask.Ending lane g k) (reply.Ending (Ok x)) = on lane (h.To_end g k)
step_told (ask.Sent lane g k) (reply.Sent (Ok x)) = on lane (h.Sent g k)
step_told (ask.Dropped lane g k) (reply.Dropped (Ok x)) = on lane (h.Dropped g k)
step_told (ask.Denied lane g k) (reply.Denied (Ok x)) = on lane (h.Denied g k)
step_told (ask.Refused lane g k kind) (reply.Refused (Ok x)) = on lane (h.Refused g k)
step_told (ask.Secure lane g k n piece) (reply.Secure (Ok x)) = on lane (h.Secure g k n piece)
step_told (ask.Complete lane g k n piece) (reply.Complete (Ok x)) = on lane (h.Complete g k n piece)
step_told (ask.DropActivity lane g k) (reply.DropActivity (Ok x)) = on lane (h.Drop g k)
step_told (ask.CloseLane lane g) (reply.CloseLane (Ok x)) = on lane (h.CloseLane g)
step_told a x = None

-- ---- looks

-- what is looked at, where nothing is found
abbrev pub looked_at : Ask → Look
looked_at (ask.Start lane g batch) = At_sending
looked_at (ask.Confirm lane g k n) = At_sending
looked_at (ask.Ending lane g k) = At_sending
looked_at (ask.Sent lane g k) = At_sending
looked_at (ask.Dropped lane g k) = At_sending
looked_at (ask.Denied lane g k) = At_sending
looked_at (ask.Refused lane g k kind) = At_sending
looked_at (ask.Resumed lane) = At_sending
looked_at (ask.Recovery lane) = At_sending
looked_at a = Elsewhere

-- A reply that tells of no step: octets are none of a message, nothing is to be sent, or a step is refused or a look
-- answered, of the sending half or of something else.
abbrev pub look_told : Ask → Reply → Look
look_told (ask.Secure lane g k n piece) (reply.Secure (Err (Bad f))) = Finds k n piece
look_told (ask.Complete lane g k n piece) (reply.Complete (Err (Bad f))) = Finds k n piece
look_told (ask.BatchFor peer) (reply.BatchFor (Ok None)) = No_batch
look_told a x = looked_at a

-- ---- one event

-- at the last position of the history then, or at its length
abbrev pub told_as : (seen : ℕ) → Option StepOn → Look → SessionEvent
told_as seen (Some x) look = Made (seen - 1) x.lane x.step
told_as seen None look = Looked seen look

-- a unit that is answered by an Abort is not taken
abbrev pub got_as : Wanted → AnyUnit → SessionEvent
got_as (Aborts reason) x = Refused x
got_as w x = Got x

-- what came of an action: a unit was put, wholly or cut, or got, or a question was answered
abbrev pub come_of : Action → Turn → (seen : ℕ) → Event → List SessionEvent
come_of (action.Put x) t seen e = Put x ∷ []
come_of action.Read t seen (event.Unit x) = got_as (called_for t.before.phase t.before x) x ∷ []
come_of (action.Ask a) t seen (event.Reply x) = told_as seen (step_told a x) (look_told a x) ∷ []
come_of a t seen e = []

-- a call with the action that its event comes of
abbrev pub event_of : Action → Call → List SessionEvent
event_of a c = come_of a c.turn c.seen c.turn.event

-- Of calls one after the other, the first of which tells what came of this action: the events, in their order.
abbrev pub list_of : Action → List Call → List SessionEvent
list_of a [] = []
list_of a (c ∷ cs) = event_of a c ++ list_of c.turn.action cs

-- the action of the last call, whose event is yet to come
abbrev pub action_of : Action → List Call → Action
action_of a [] = a
action_of a (c ∷ cs) = action_of c.turn.action cs
