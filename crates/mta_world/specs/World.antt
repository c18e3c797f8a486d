-- The two ends of one half lane, and the links between them.
use Rattle.std.specs.Prelude.{ℕ, ◌+◌, ◌==◌, if◌then◌else◌, Bool, false, Option, Some, None, List, []}
use Rattle.std.specs.Prelude.{◌∷◌, ◌++◌}
use Rattle.mta_lane_send.specs.declared.state.SendState.{SendState}
use Rattle.mta_lane_send.specs.declared.state.SendState.TheVariants as state
use Rattle.mta_lane_recv.specs.declared.state.Last.{Last}
use Rattle.mta_lane_recv.specs.declared.state.Last.TheVariants as last
use Rattle.mta_lane_send.specs.Half.{last_of}
use Rattle.mta_transfer_rules.specs.Units.{LaneUnit}
use Rattle.mta_transfer_rules.specs.Sending as s
use Rattle.mta_transfer_rules.specs.Receiving as r

-- One direction of a link: the units that were put and not taken. Where a suffix was lost, only the first
-- `reach` of them can still be taken, so what is put behind a loss is lost too.
pub record Queue : Type 0 where
  pub way : List LaneUnit
  pub reach : Option ℕ

-- What each end did on a link, beside its durable half
pub record SendPart : Type 0 where
  pub accepted : Bool
  pub stage : s.SendStage
  pub heard : Option LaneUnit

pub record RecvPart : Type 0 where
  pub stage : r.RecvStage
  pub from : ℕ
  pub acked : ℕ

-- A link: the queue up goes from the sending end to the receiving end. An end uses the link once it joined
-- it, by opening it or by taking its Open, and until it stops.
pub record Link : Type 0 where
  pub up : Queue
  pub down : Queue
  pub send_joined : Bool
  pub send_stopped : Bool
  pub recv_joined : Bool
  pub recv_stopped : Bool
  pub send : SendPart
  pub recv : RecvPart

-- How an activity was settled
pub data Outcome : Type 0 where
  Unsettled : Outcome
  Was_sent : Outcome
  Was_dropped : Outcome
  Was_refused : Outcome
  Was_denied : Outcome

-- An activity with its octets
pub record Message : Type 0 where
  pub activity : ℕ
  pub octets : List ℕ

pub record World : Type 0 where
  pub sender_opens : Bool  -- the sending end is the lane's initiator
  pub size : ℕ  -- the agreed size of a piece in octets, 0 for one piece
  pub window : ℕ
  -- the sending end's durable half, what became of its activities, and its newest link
  pub state : SendState
  pub octets : ℕ → List ℕ
  pub outcome : ℕ → Outcome
  pub abandoned : ℕ → Bool
  pub sent : List Message  -- of the activities with a step Sent, in order
  pub send_link : Option ℕ
  -- the receiving end's durable half, the messages of its steps Complete in order, and its newest link
  pub high : ℕ
  pub last : Last
  pub pieces : List (List ℕ)  -- those that stand
  pub completed : List Message
  pub recv_link : Option ℕ
  -- the links, and how many were opened
  pub opened : ℕ
  pub links : ℕ → Link

-- the function with this value at i
abbrev pub set_at : {A : Type 0} → (ℕ → A) → ℕ → A → ℕ → A
set_at f i x j = if j == i then x else f j

abbrev pub empty_queue : Queue
empty_queue = record { way = []; reach = None }

abbrev pub new_link : (send_joined recv_joined accepted : Bool) → SendState → Link
new_link send_joined recv_joined accepted state = record {
  up = empty_queue;
  down = empty_queue;
  send_joined = send_joined;
  send_stopped = false;
  recv_joined = recv_joined;
  recv_stopped = false;
  send = record { accepted = accepted; stage = s.stage_on_link state; heard = None };
  recv = record { stage = r.Free; from = 0; acked = 0 };
}

-- Both halves new, and no link yet
abbrev pub first_world : (sender_opens : Bool) (size window : ℕ) → World
first_world sender_opens size window = record {
  sender_opens = sender_opens;
  size = size;
  window = window;
  state = state.Idle 0;
  octets = λ k. [];
  outcome = λ k. Unsettled;
  abandoned = λ k. false;
  sent = [];
  send_link = None;
  high = 0;
  last = last.None;
  pieces = [];
  completed = [];
  recv_link = None;
  opened = 0;
  links = λ i. new_link false false false (state.Idle 0);
}

-- The ends as their rules see them
abbrev pub send_end : World → SendPart → s.SendEnd
send_end w p = record {
  state = w.state;
  octets = w.octets (last_of w.state);
  size = w.size;
  window = w.window;
  accepted = p.accepted;
  stage = p.stage;
  heard = p.heard;
}

abbrev pub recv_end : World → RecvPart → r.RecvEnd
recv_end w p = record { high = w.high; last = w.last; stage = p.stage; from = p.from; acked = p.acked }

abbrev pub send_part : s.SendEnd → SendPart
send_part e = record { accepted = e.accepted; stage = e.stage; heard = e.heard }

abbrev pub recv_part : r.RecvEnd → RecvPart
recv_part e = record { stage = e.stage; from = e.from; acked = e.acked }

-- Queues
abbrev pub put_on : Queue → LaneUnit → Queue
put_on q x = record q { way = q.way ++ x ∷ [] }

-- the unit x is taken from the front
pub data Takes : Queue → LaneUnit → Queue → Type 0 where
  Whole : {x : LaneUnit} {rest : List LaneUnit}
      → Takes (record { way = x ∷ rest; reach = None }) x (record { way = rest; reach = None })
  Cut : {x : LaneUnit} {rest : List LaneUnit} {n : ℕ}
      → Takes (record { way = x ∷ rest; reach = Some (n + 1) }) x (record { way = rest; reach = Some n })
