-- What one call of `step` does to the receiving end of a session's list. The list's end has the piece that the state
-- handed on.
use Rattle.std.specs.Prelude.{◌≡◌, ℕ, if◌then◌else◌, Bool, true, false, Result, Ok, Err, List, []}
use Rattle.std.specs.Prelude.{◌∷◌, ◌++◌}
use Rattle.mta_units.specs.declared.unit.Unit.{Unit as AnyUnit}
use Rattle.mta_units.specs.declared.unit.Unit.TheVariants as unit
use Rattle.mta_lane_recv.specs.declared.state.Last.{Last}
use Rattle.mta_lane_recv.specs.Half.{is_done}
use Rattle.mta_transfer_rules.specs.Units as u
use Rattle.mta_transfer_rules.specs.Receiving as r
use Rattle.mta_transfer_rules.specs.Receiving.{RecvEnd, RecvEvent, RecvStage}
use Rattle.mta_session.specs.declared.ask.Reply.{Reply}
use Rattle.mta_session.specs.declared.ask.Reply.TheVariants as reply
use Rattle.mta_session.specs.declared.event.Event.{Event}
use Rattle.mta_session.specs.declared.event.Event.TheVariants as event
use Rattle.mta_session.specs.declared.event.Action.{Action}
use Rattle.mta_session.specs.declared.event.Action.TheVariants as action
use Rattle.mta_records.specs.declared.fault.StepFault.{StepFault}
use Rattle.mta_records.specs.declared.fault.CompleteFault.{CompleteFault}
use Rattle.mta_records.specs.declared.fault.CompleteFault.TheVariants as piece
use Rattle.mta_session.specs.declared.phase.Phase.{Phase}
use Rattle.mta_session.specs.declared.phase.Phase.TheVariants as phase
use Rattle.mta_session.specs.State.{State}
use Rattle.mta_session.specs.Wanted.{Wanted, Aborts, Rejects, Ends, Puts, Asks, Reads, Goes_on, Excepts, Never, wanted}
use Rattle.mta_session.specs.Follows.{counted, Part, Of_sender, Of_receiver, Of_neither, part_of, Follows}
use Rattle.mta_session.specs.Fits.{Fits, Answers}
use Rattle.mta_session_laws.specs.Turning.{is_last_phase, is_open, called_for}

-- the stage with the piece that was handed on: until EndAck is put, once the activity is done
abbrev pub filled : Last → RecvStage → List ℕ → RecvStage
filled last (r.Ended k n held) piece = if is_done last k then r.Ended k n piece else r.Ended k n held
filled last s piece = s

abbrev pub held_stage : Phase → Last → RecvStage → List ℕ → RecvStage
held_stage (phase.AsksSecure k n) last s piece = r.Synced k n piece
held_stage (phase.AsksComplete k n) last s piece = r.Ended k n piece
held_stage _ last s piece = filled last s piece

-- the list's end where the state has this one
abbrev pub whole : Phase → RecvEnd → (piece : List ℕ) → RecvEnd
whole phase e piece = record e { stage = held_stage phase e.last e.stage piece }

abbrev pub Reaches : RecvEnd → List RecvEvent → Phase → RecvEnd → Type 0
Reaches e events phase f = (piece : List ℕ) × r.IsReceivingEnd e events (whole phase f piece)

abbrev pub ReachesBy : Bool → RecvEnd → List RecvEvent → Phase → RecvEnd → Type 0
ReachesBy true e events phase f = Unit {0}
ReachesBy false e events phase f = Reaches e events phase f

abbrev pub ReachesAt : RecvEnd → List RecvEvent → Phase → RecvEnd → Type 0
ReachesAt e events phase f = ReachesBy (is_last_phase phase) e events phase f

abbrev pub with_put : List RecvEvent → Part → List RecvEvent
with_put events (Of_receiver y) = events ++ (r.Put y ∷ [])
with_put events (Of_sender y) = events
with_put events Of_neither = events

-- A link is new at the Open that an initiator puts, and at the Accept of a responder. Exception stands in no part: it
-- is put for octets that were found.
abbrev pub with_unit : List RecvEvent → AnyUnit → List RecvEvent
with_unit events (unit.Open o) = events ++ (r.New_link ∷ [])
with_unit events (unit.Accept c w a) = events ++ (r.New_link ∷ [])
with_unit events (unit.Exception kind at) = events ++ (r.Put u.Exception ∷ [])
with_unit events x = with_put events (part_of x)

abbrev pub with_action : List RecvEvent → Action → List RecvEvent
with_action events (action.Put x) = with_unit events x
with_action events _ = events

-- The events of the receiving end in one call
abbrev pub taken_as : AnyUnit → List RecvEvent
taken_as (unit.Start k) = r.Took (u.Start k) ∷ []
taken_as (unit.Piece piece) = r.Took (u.Piece piece) ∷ []
taken_as (unit.Sync n) = r.Took (u.Sync n) ∷ []
taken_as (unit.End k) = r.Took (u.End k) ∷ []
taken_as (unit.Resume k n) = r.Took (u.Resume k n) ∷ []
taken_as (unit.Discard k) = r.Took (u.Discard k) ∷ []
taken_as _ = []

-- a unit that is answered by a refusal is not taken
abbrev pub unless_refused : Wanted → List RecvEvent → List RecvEvent
unless_refused (Aborts reason) events = []
unless_refused w events = events

abbrev pub got_by : State → Event → List RecvEvent
got_by t (event.Unit x) = unless_refused (called_for phase.Reads t x) (if t.ours then [] else taken_as x)
got_by t _ = []

abbrev pub secured_by : (activity number : ℕ) (piece : List ℕ) → Result (Unit {0}) CompleteFault
    → List RecvEvent
secured_by k n p (Ok x) = r.Made (r.Secure k n p) ∷ []
secured_by k n p (Err (piece.Bad f)) = r.Finds k n p ∷ []
secured_by k n p (Err (piece.Step f)) = []

abbrev pub completed_by : (activity number : ℕ) (piece : List ℕ) → Result ℕ CompleteFault → List RecvEvent
completed_by k n p (Ok x) = r.Made (r.Complete k n p) ∷ []
completed_by k n p (Err (piece.Bad f)) = r.Finds k n p ∷ []
completed_by k n p (Err (piece.Step f)) = []

abbrev pub dropped_by : (activity : ℕ) → Result (Unit {0}) StepFault → List RecvEvent
dropped_by k (Ok x) = r.Made (r.Drop k) ∷ []
dropped_by k (Err f) = []

abbrev pub replied_by : Phase → (piece : List ℕ) → Reply → List RecvEvent
replied_by (phase.AsksSecure k n) p (reply.Secure x) = secured_by k n p x
replied_by (phase.AsksComplete k n) p (reply.Complete x) = completed_by k n p x
replied_by (phase.AsksDrop k found) p (reply.DropActivity x) = dropped_by k x
replied_by _ p x = []

abbrev pub told_by : Phase → State → (piece : List ℕ) → Event → List RecvEvent
told_by phase.Reads t p e = got_by t e
told_by phase.Puts t p e = []
told_by phase.AsksDue t p e = []
told_by ph t p (event.Reply x) = replied_by ph p x
told_by _ t p e = []

-- One call of `step` of an open session: the events of its receiving end are allowed, and lead to the end that the
-- state has then. A unit that is not taken ends the session.
abbrev pub CallsGo : Type 0
CallsGo =
    (t : State) (e : Event) (a : Action) (new : State) (p : List ℕ) → is_open t.phase ≡ true → Fits t
    → Fits new →
    Answers t e → Follows t e a new →
    ReachesAt (whole t.phase t.recv p) (with_action (told_by t.phase t p e) a) new.phase new.recv

-- What is wanted is reached by these events.
abbrev pub RecvGoes : RecvEnd → List RecvEvent → Wanted → Type 0
RecvGoes e events (Goes_on u) = Reaches e events phase.Puts u.recv
RecvGoes e events (Excepts u found) = Reaches e events phase.Puts u.recv
RecvGoes e events (Asks a u) = ReachesAt e events u.phase u.recv
RecvGoes e events (Puts x u) = ReachesAt e (with_unit events x) u.phase u.recv
RecvGoes e events (Reads u) = ReachesAt e events u.phase u.recv
RecvGoes e events (Aborts reason) = Unit {0}
RecvGoes e events (Rejects reason) = Unit {0}
RecvGoes e events (Ends x) = Unit {0}
RecvGoes e events Never = Unit {0}

-- Each event of an open session is one of its receiving end, by the rules of that end. A unit that is not taken ends
-- the session.
abbrev pub EventsGo : Type 0
EventsGo =
    (t : State) (e : Event) (p : List ℕ) → is_open t.phase ≡ true → Fits t → Answers t e →
    RecvGoes (whole t.phase t.recv p) (told_by t.phase t p e) (wanted (counted t e) e)
