-- What a session knows, as contracts see it.
use Rattle.std.specs.Prelude.{ℕ, ◌*◌, Bool, true, false, Option, Some, None, List, []}
use Rattle.mta_units.specs.declared.unit.OpenUnit.{OpenUnit}
use Rattle.mta_transfer_rules.specs.Sending.{SendEnd}
use Rattle.mta_transfer_rules.specs.Receiving as r
use Rattle.mta_transfer_rules.specs.Receiving.{RecvEnd, RecvStage}
use Rattle.mta_session.specs.declared.event.Side.{Side}
use Rattle.mta_session.specs.declared.event.Side.TheVariants as side
use Rattle.mta_session.specs.declared.peer.Peer.{Peer}
use Rattle.mta_session.specs.declared.phase.Phase.{Phase}

pub record State : Type 0 where
  pub phase : Phase
  -- so many units may still come, the one too many included
  pub left : ℕ
  pub side : Side
  -- what a responder was asked, and the peer's line
  pub opened : Option OpenUnit
  pub line : Option Peer
  pub lane : ℕ
  pub generation : ℕ
  -- the values of the lane, proposed or agreed
  pub checkpoint : ℕ
  pub window : ℕ
  pub twa : Bool
  pub agreed : Bool
  -- this end has the turn; Please came (initiator) or was put (responder) since it was given last
  pub ours : Bool
  pub please : Bool
  pub send : SendEnd
  pub recv : RecvEnd

abbrev pub in_phase : State → Phase → State
in_phase s phase = record s { phase = phase }

-- what it held of messages is let go
abbrev pub let_go : State → State
let_go t = record t { send = record t.send { octets = [] }; recv = record t.recv { stage = r.Free } }

abbrev pub is_initiator : Side → Bool
is_initiator (side.Initiator plan) = true
is_initiator (side.Responder own) = false

abbrev pub name_of : Option OpenUnit → List ℕ
name_of (Some o) = o.name
name_of None = []

-- the other end's name
abbrev pub peer_of : Side → Option OpenUnit → List ℕ
peer_of (side.Initiator plan) opened = plan.peer
peer_of (side.Responder own) opened = name_of opened

abbrev pub sized : SendEnd → (checkpoint window : ℕ) → SendEnd
sized e checkpoint window = record e { size = 1024 * checkpoint; window = window }

-- the lane has these values from now on
abbrev pub with_values : State → (checkpoint window : ℕ) → State
with_values s checkpoint window =
    record s { checkpoint = checkpoint; window = window; send = sized s.send checkpoint window }

-- the same at this stage of the other end's transfer
abbrev pub at_stage : State → RecvStage → State
at_stage t stage = record t { recv = record t.recv { stage = stage } }
