-- The steps of a history as far as they concern one lane: each as the lane sees it, with the octets that a Start
-- transfers. Which of them are possible, and what they leave of the lane's halves (X.228 clause 7), is said of lanes in
-- `mta_transfer_rules`.
use Rattle.std.specs.Prelude.{◌≡◌, ◌<◌, ℕ, ◌+◌, ◌*◌, Bool, true, List, [], ◌∷◌, length}
use Rattle.std.specs.Prelude.{Option, Some, None, map}
use Rattle.mta_transfer_rules.specs.Lanes.{Seen, On, Elsewhere, Begins, SeenStep, LaneOpen, LaneAgree, Bind, Start}
use Rattle.mta_transfer_rules.specs.Lanes.{Confirm, To_end, Sent, Refused, Denied, Dropped, Abandon, Secure, Complete}
use Rattle.mta_transfer_rules.specs.Lanes.{Drop}
use Rattle.mta_transfer_rules.specs.Lanes.{CloseLane, Halves, Open, unopened, lane_in, LanesAllow}
use Rattle.mta_records.specs.declared.lane.LaneRole.TheVariants.{Responder}
use Rattle.mta_records.specs.declared.step.Step.{Step}
use Rattle.mta_machine.specs.Apdu.{IsApdu}
use Rattle.mta_histories.specs.Classes.{Outcome, was_sent, was_refused, was_denied, was_dropped, LaneStep, agree, bind}
use Rattle.mta_histories.specs.Classes.{start, confirm, to_end, settle, abandon, secure, complete, drop_pieces, close}
use Rattle.mta_histories.specs.Classes.{Class, begins, sets_format, records, accepts, settles, opens, on_lane, class_of}
use Rattle.mta_histories.specs.Lanes.{Transfer, Lane, State, empty, EachLane}
use Rattle.mta_histories.specs.History.{is_role, transfer_of, when, after_step, after, IsHistory}

-- ---- steps

-- the generation that a step tells
abbrev pub told : Option ℕ → ℕ
told None = 0
told (Some generation) = generation

-- the octets in one unit of a checkpoint size
abbrev pub checkpoint_unit : ℕ
checkpoint_unit = 1024

abbrev pub settled_as : Outcome → ℕ → ℕ → SeenStep
settled_as was_sent g k = Sent g k
settled_as (was_refused kind) g k = Refused g k
settled_as was_denied g k = Denied g k
settled_as was_dropped g k = Dropped g k

-- a step on a lane, in the state before it
abbrev pub seen_by : State → ℕ → LaneStep → ℕ → SeenStep
seen_by s g (agree checkpoint window) moment = LaneAgree (checkpoint_unit * checkpoint) window
seen_by s g bind moment = Bind g
seen_by s g (start k i rs) moment = Start g k (transfer_of s.machine i rs moment).octets
seen_by s g (confirm k n) moment = Confirm g k n
seen_by s g (to_end k) moment = To_end g k
seen_by s g (settle outcome k) moment = settled_as outcome g k
seen_by s g (abandon k) moment = Abandon k
seen_by s g (secure k n piece) moment = Secure g k n piece
seen_by s g (complete k n piece) moment = Complete g k n piece
seen_by s g (drop_pieces k) moment = Drop g k
seen_by s g close moment = CloseLane g

-- ---- lanes

abbrev pub transferred : Option Transfer → List ℕ
transferred None = []
transferred (Some t) = t.octets

-- the halves of an open lane
abbrev pub halves_of : Lane → Halves
halves_of lane = record {
  phase = Open;
  generation = lane.generation;
  agreed = lane.agreed;
  size = checkpoint_unit * lane.checkpoint;
  window = lane.window;
  state = lane.sending;
  octets = transferred lane.transfer;
  high = lane.high;
  last = lane.last;
  pieces = lane.pieces;
}

-- an open lane with its number
abbrev pub numbered_halves : Lane → ℕ × Halves
numbered_halves lane = (lane.number, halves_of lane)

-- ---- histories

abbrev pub seen_of : State → Class → ℕ → Seen
seen_of s (begins t) moment = Begins t.lane_count (map numbered_halves t.lanes)
seen_of s sets_format moment = Elsewhere
seen_of s (records text) moment = Elsewhere
seen_of s (accepts octets) moment = Elsewhere
seen_of s (settles how i r) moment = Elsewhere
seen_of s (opens role peer reference twa checkpoint window) moment =
    On (s.lanes.count + 1) (LaneOpen (is_role Responder role) (checkpoint_unit * checkpoint) window)
seen_of s (on_lane n generation step) moment = On n (seen_by s (told generation) step moment)

-- the steps of a history, each as its lane sees it in the state before it
abbrev pub annotated_from : State → List Step → List Seen
annotated_from s [] = []
annotated_from s (step ∷ steps) = seen_of s (class_of step) (when s step) ∷ annotated_from (after_step s step) steps

abbrev pub annotated : List Step → List Seen
annotated steps = annotated_from empty steps

-- ---- the law

-- There is one such step for each step of the history. They lead to the lanes that are open after it, and they are a
-- history as far as each lane goes, for whatever test is true of octets that spell an APDU.
pub record AreSeen (steps : List Step) : Type 0 where
  pub as_many : length (annotated steps) ≡ length steps
  pub opened : EachLane (λ lane. lane_in lane.number (annotated steps) ≡ halves_of lane)
      (after steps).lanes.open_lanes
  pub new : (n : ℕ) → (after steps).lanes.count < n → lane_in n (annotated steps) ≡ unopened
  pub allowed : (spells : List ℕ → Bool) → ((octets : List ℕ) → IsApdu octets → spells octets ≡ true)
      → LanesAllow spells (annotated steps)

-- each history is seen by its lanes
abbrev pub LanesSeeHistories : Type 0
LanesSeeHistories = (steps : List Step) → IsHistory steps → AreSeen steps
