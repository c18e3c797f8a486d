-- What a session does while it is open, call by call, as one list of events of each end of its lane.
use Rattle.std.specs.Prelude.{◌≡◌, ℕ, true, false, Option, None, List, [], ◌∷◌, ◌++◌}
use Rattle.mta_transfer_rules.specs.Units.{LaneUnit}
use Rattle.mta_transfer_rules.specs.Sending.{SendEvent}
use Rattle.mta_transfer_rules.specs.Receiving.{RecvEvent}
use Rattle.mta_session.specs.declared.event.Event.{Event}
use Rattle.mta_session.specs.declared.event.Action.{Action}
use Rattle.mta_session.specs.State.{State}
use Rattle.mta_session.specs.Follows.{Follows}
use Rattle.mta_session.specs.Fits.{Fits, Answers}
use Rattle.mta_session_laws.specs.Turning as sending
use Rattle.mta_session_laws.specs.Turning.{listed, MayFollow, is_open, is_last_phase}
use Rattle.mta_session_laws.specs.TurningRecv as receiving
use Rattle.mta_session_laws.specs.TurningRecv.{whole}

-- One call of `step`
pub record Turn : Type 0 where
  pub before : State
  pub event : Event
  pub action : Action
  pub after : State

-- The event answers the last action, and what is done follows. A session's state keeps no unit that was heard.
pub record IsTurn (x : Turn) : Type 0 where
  pub fits : Fits x.before
  pub heard : x.before.send.heard ≡ None
  pub answers : Answers x.before x.event
  pub follows : Follows x.before x.event x.action x.after
  pub fits_after : Fits x.after

-- Each call goes on from the state that the one before it left, and the session is open before each.
abbrev pub AreTurns : State → List Turn → State → Type 0
AreTurns t [] u = u ≡ t
AreTurns t (x ∷ xs) u = (x.before ≡ t) × (is_open x.before.phase ≡ true) × IsTurn x × AreTurns x.after xs u

abbrev pub sending_events_of : Turn → List SendEvent
sending_events_of x = sending.with_action (sending.told_by x.before.phase x.before x.event) x.action

abbrev pub sending_events : List Turn → List SendEvent
sending_events [] = []
sending_events (x ∷ xs) = sending_events_of x ++ sending_events xs

-- The rules of sending ends allow the events of these turns, in their order, and they lead to the end that the session
-- has then.
abbrev pub SendingRuns : Type 0
SendingRuns =
    (xs : List Turn) (t u : State) (h : Option LaneUnit) (o : List ℕ) → AreTurns t xs u →
    is_last_phase u.phase ≡ false → MayFollow t.phase (listed t.send h o) →
    sending.Reaches (listed t.send h o) (sending_events xs) u.phase u.send

abbrev pub receiving_events_of : Turn → (piece : List ℕ) → List RecvEvent
receiving_events_of x piece = receiving.with_action (receiving.told_by x.before.phase x.before piece x.event) x.action

-- The events of the receiving end, with the piece that each step makes durable
abbrev pub AreReceiving : List Turn → List RecvEvent → Type 0
AreReceiving [] events = events ≡ []
AreReceiving (x ∷ xs) events =
    (piece : List ℕ) × (rest : List RecvEvent) × (events ≡ receiving_events_of x piece ++ rest)
    × AreReceiving xs rest

-- So do those of receiving ends. A piece that is made durable is the one that was taken: the rules say so.
abbrev pub ReceivingRuns : Type 0
ReceivingRuns =
    (xs : List Turn) (t u : State) (piece : List ℕ) → AreTurns t xs u → is_last_phase u.phase ≡ false →
    (events : List RecvEvent) × AreReceiving xs events
    × receiving.Reaches (whole t.phase t.recv piece) events u.phase u.recv
