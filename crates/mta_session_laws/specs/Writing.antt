-- What a session puts may be written.
use Rattle.std.specs.Prelude.{◌≡◌, ℕ, Bool, true, false, Option, Some, Ok, List}
use Rattle.mta_ber.specs.declared.text.TextClass.TheVariants.{Ia5}
use Rattle.mta_ber.specs.Strings.{IsText}
use Rattle.mta_units.specs.declared.unit.Unit.TheVariants as unit
use Rattle.mta_units.specs.declared.unit.OpenUnit.{OpenUnit}
use Rattle.mta_units.specs.Canon.{IsWritable}
use Rattle.mta_session.specs.declared.ask.Reply.TheVariants as reply
use Rattle.mta_session.specs.declared.event.Event.{Event}
use Rattle.mta_session.specs.declared.event.Event.TheVariants as event
use Rattle.mta_session.specs.declared.event.Action.{Action}
use Rattle.mta_session.specs.declared.event.Action.TheVariants as action
use Rattle.mta_session.specs.declared.event.Side.{Side}
use Rattle.mta_session.specs.declared.event.Side.TheVariants as side
use Rattle.mta_session.specs.declared.event.InitiatorPlan.{InitiatorPlan}
use Rattle.mta_session.specs.declared.peer.Peer.{Peer}
use Rattle.mta_session.specs.declared.phase.Phase.{Phase}
use Rattle.mta_session.specs.declared.phase.Phase.TheVariants as phase
use Rattle.mta_session.specs.State.{State}
use Rattle.mta_session.specs.Wanted.{request_of, answer_to}
use Rattle.mta_session.specs.Follows.{Follows}
use Rattle.mta_session.specs.Fits.{Fits, ValuesFit}

-- the names and the password of an initiator's plan may be written in an Open
abbrev pub CanOpen : InitiatorPlan → Type 0
CanOpen p =
    (checkpoint window : ℕ) (twa : Bool) → ValuesFit checkpoint window →
    IsWritable (unit.Open (record {
      name = p.own;
      reference = p.reference;
      checkpoint = checkpoint;
      window = window;
      twa = twa;
      request = request_of p;
    }))

-- a responder's name and the peer's password may be written in the Accept that answers this Open
abbrev pub CanAccept : (own : List ℕ) → OpenUnit → Peer → Type 0
CanAccept own o p =
    (checkpoint window : ℕ) → ValuesFit checkpoint window →
    IsWritable (unit.Accept checkpoint window (answer_to own p o.request))

-- what an initiator opens with may be written, and so may a responder's name
abbrev pub SideWrites : Side → Type 0
SideWrites (side.Initiator p) = CanOpen p
SideWrites (side.Responder own) = IsText Ia5 1 32 own

abbrev pub CallWrites : Side → Option OpenUnit → Option Peer → Type 0
CallWrites (side.Responder own) (Some o) (Some p) = CanAccept own o p
CallWrites _ o l = Unit {0}

-- the fault of octets that are none of a message has a number
abbrev pub PhaseWrites : Phase → Type 0
PhaseWrites (phase.AsksDrop k (Some found)) = IsWritable (unit.Exception found.kind found.at)
PhaseWrites _ = Unit {0}

-- no Accept is put from here on, or the peer's line is still to be told
abbrev pub is_silent : Phase → Bool
is_silent phase.Begin = true
is_silent phase.ReadsOpen = true
is_silent phase.AsksPeer = true
is_silent phase.AsksDenied = true
is_silent (phase.AsksLast x) = true
is_silent (phase.PutsLast x) = true
is_silent (phase.Ended x) = true
is_silent _ = false

-- What a session knows may be written.
pub record CanWrite (t : State) : Type 0 where
  pub side : SideWrites t.side
  pub call : is_silent t.phase ≡ false → CallWrites t.side t.opened t.line
  pub found : PhaseWrites t.phase

-- So may what it is told of the peer.
abbrev pub TellsWritable : State → Event → Type 0
TellsWritable t e =
    (own : List ℕ) (o : OpenUnit) (p : Peer) → t.side ≡ side.Responder own → t.opened ≡ Some o →
    e ≡ event.Reply (reply.Peer (Ok (Some p))) → CanAccept own o p

abbrev pub PutsWritable : Action → Type 0
PutsWritable (action.Put x) = IsWritable x
PutsWritable _ = Unit {0}

-- Each unit that is put may be written, call by call.
abbrev pub PutsMayBeWritten : Type 0
PutsMayBeWritten =
    (t : State) (e : Event) (a : Action) (new : State) → Fits t → Fits new → CanWrite t → TellsWritable t e →
    Follows t e a new →
    CanWrite new × PutsWritable a
