-- What a responder is told of a line, and may write then.
use Rattle.std.specs.Prelude.{ℕ, List, IfOk, IfSome}
use Rattle.mta_units.specs.declared.unit.OpenUnit.{OpenUnit}
use Rattle.mta_session.specs.declared.ask.Reply.TheVariants as reply
use Rattle.mta_session.specs.declared.event.Event.{Event}
use Rattle.mta_session.specs.declared.event.Event.TheVariants as event
use Rattle.mta_session.specs.declared.peer.Peer.{Peer}
use Rattle.mta_session.specs.State.{State}
use Rattle.mta_session_laws.specs.Writing.{CanAccept, SideWrites, TellsWritable}
use Rattle.mta_worker.specs.PeerLines.{IsLine}
use Rattle.mta_worker.specs.Names.{IsName}

-- what is told of a peer is a line of tables
abbrev pub TellsLine : Event → Type 0
TellsLine (event.Reply (reply.Peer x)) = IfOk x (λ p. IfSome p IsLine)
TellsLine _ = Unit {0}

-- whatever Open came, the line may be answered
abbrev pub LinesMayBeAccepted : Type 0
LinesMayBeAccepted = (own : List ℕ) (o : OpenUnit) (p : Peer) → IsName own → IsLine p → CanAccept own o p

-- so it may in each state of a session whose own name may be written
abbrev pub LinesMayBeTold : Type 0
LinesMayBeTold = (t : State) (e : Event) → SideWrites t.side → TellsLine e → TellsWritable t e
