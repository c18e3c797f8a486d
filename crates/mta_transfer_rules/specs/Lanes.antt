-- A lane as a history has it: the steps that concern it, each with the octets that a Start transfers; which of them are
-- possible, and what they leave of the lane's values and of its two halves (X.228 clause 7).
use Rattle.std.specs.Prelude.{◌≡◌, ◌<◌, ◌≤◌, ℕ, ◌+◌, ◌-◌, ◌==◌, if◌then◌else◌, Bool, nat_le}
use Rattle.std.specs.Prelude.{true, false}
use Rattle.std.specs.Prelude.{List, [], ◌∷◌, ◌++◌, length, take}
use Rattle.mta_lane_send.specs.declared.state.SendState.{SendState}
use Rattle.mta_lane_send.specs.declared.state.SendState.TheVariants.{Idle, Sending, Ending, Dropping}
use Rattle.mta_lane_send.specs.Half.{confirmed_of, goes_on, is_ending, is_live, is_idle, is_sending, confirmed_at}
use Rattle.mta_lane_recv.specs.declared.state.Last.{Last}
use Rattle.mta_lane_recv.specs.declared.state.Last.TheVariants as last
use Rattle.mta_lane_recv.specs.Half.{is_partial_of, takes_piece}
use Rattle.mta_transfer_rules.specs.Pieces.{is_last, octets_with}

-- ---- steps

-- a step as its lane sees it; sizes are in octets, and 0 is no limit but the longest activity
pub data SeenStep : Type 0 where
  LaneOpen : (agreed : Bool) (size window : ℕ) → SeenStep
  LaneAgree : (size window : ℕ) → SeenStep
  Bind : (generation : ℕ) → SeenStep
  Start : (generation activity : ℕ) (octets : List ℕ) → SeenStep
  Confirm : (generation activity number : ℕ) → SeenStep
  To_end : (generation activity : ℕ) → SeenStep
  Sent : (generation activity : ℕ) → SeenStep
  Refused : (generation activity : ℕ) → SeenStep
  Denied : (generation activity : ℕ) → SeenStep
  Dropped : (generation activity : ℕ) → SeenStep
  Abandon : (activity : ℕ) → SeenStep
  Secure : (generation activity number : ℕ) (piece : List ℕ) → SeenStep
  Complete : (generation activity number : ℕ) (piece : List ℕ) → SeenStep
  Drop : (generation activity : ℕ) → SeenStep
  CloseLane : (generation : ℕ) → SeenStep

-- ---- lanes

pub data Phase : Type 0 where
  Unopened : Phase
  Open : Phase
  Closed : Phase

-- a lane's values and its two halves, with the octets that they hold
pub record Halves : Type 0 where
  pub phase : Phase
  pub generation : ℕ
  pub agreed : Bool
  pub size : ℕ
  pub window : ℕ
  pub state : SendState
  pub octets : List ℕ
  pub high : ℕ
  pub last : Last
  pub pieces : List (List ℕ)

-- the halves of a lane that was never opened are new
abbrev pub unopened : Halves
unopened = record {
  phase = Unopened;
  generation = 0;
  agreed = false;
  size = 0;
  window = 0;
  state = Idle 0;
  octets = [];
  high = 0;
  last = last.None;
  pieces = [];
}

-- a step of the spool: on the lane of a number; on none; or the snapshot with which a history begins: how many lanes
-- were opened before it, and those that are open, each with its number
pub data Seen : Type 0 where
  On : (lane : ℕ) → SeenStep → Seen
  Elsewhere : Seen
  Begins : (count : ℕ) (lanes : List (ℕ × Halves)) → Seen

-- the halves of a lane that was opened before a snapshot and is in it no more
abbrev pub closed_before : Halves
closed_before = record unopened { phase = Closed }

-- the lane of this number in a snapshot: as it stands there; closed, where so many were opened; else not opened
abbrev pub lane_begun : (count : ℕ) → List (ℕ × Halves) → (lane : ℕ) → Halves
lane_begun count [] i = if nat_le 1 i then (if nat_le i count then closed_before else unopened) else unopened
lane_begun count (l ∷ lanes) i = if l.0 == i then l.1 else lane_begun count lanes i

-- ---- which step is possible, and what it leaves

-- the lane is open and of this generation
abbrev pub IsHeld : Halves → (generation : ℕ) → Type 0
IsHeld l g = (l.phase ≡ Open) × (g ≡ l.generation)

-- `spells` tells whether octets spell an APDU
abbrev pub Allows : (spells : List ℕ → Bool) → Halves → SeenStep → Type 0
Allows spells l (LaneOpen agreed size window) = l.phase ≡ Unopened
Allows spells l (LaneAgree size window) = (l.phase ≡ Open) × (l.agreed ≡ false)
Allows spells l (Bind g) = (l.phase ≡ Open) × (g ≡ l.generation + 1)
Allows spells l (Start g k octets) =
    IsHeld l g × (l.agreed ≡ true) × (l.state ≡ Idle (k - 1)) × (1 ≤ k) × (1 ≤ length octets)
Allows spells l (Confirm g k n) =
    IsHeld l g × (goes_on l.state k ≡ true) × (confirmed_of l.state < n) × (is_last l.size l.octets n ≡ false)
Allows spells l (To_end g k) = IsHeld l g × (is_sending l.state k ≡ true)
Allows spells l (Sent g k) = IsHeld l g × (is_ending l.state k ≡ true)
Allows spells l (Refused g k) = IsHeld l g × (is_live l.state k ≡ true)
Allows spells l (Denied g k) = IsHeld l g × (is_live l.state k ≡ true)
Allows spells l (Dropped g k) = IsHeld l g × (is_live l.state k ≡ true)
Allows spells l (Abandon k) = (l.phase ≡ Open) × (is_sending l.state k ≡ true)
Allows spells l (Secure g k n piece) = IsHeld l g × (l.agreed ≡ true) × (takes_piece l.high l.last k n ≡ true)
Allows spells l (Complete g k n piece) =
    IsHeld l g × (l.agreed ≡ true) × (takes_piece l.high l.last k n ≡ true)
    × (spells (octets_with l.pieces n piece) ≡ true)
Allows spells l (Drop g k) = IsHeld l g × (is_partial_of l.last k ≡ true)
Allows spells l (CloseLane g) = IsHeld l g × (is_idle l.state ≡ true)

abbrev pub settled : Halves → ℕ → Halves
settled l k = record l { state = Idle k; octets = [] }

abbrev pub halves_after : Halves → SeenStep → Halves
halves_after l (LaneOpen agreed size window) = record l {
  phase = Open;
  generation = 1;
  agreed = agreed;
  size = size;
  window = window;
}
halves_after l (LaneAgree size window) = record l { agreed = true; size = size; window = window }
halves_after l (Bind g) = record l { generation = g }
halves_after l (Start g k octets) = record l { state = Sending k 0; octets = octets }
halves_after l (Confirm g k n) = record l { state = confirmed_at l.state n }
halves_after l (To_end g k) = record l { state = Ending k (confirmed_of l.state) }
halves_after l (Sent g k) = settled l k
halves_after l (Refused g k) = settled l k
halves_after l (Denied g k) = settled l k
halves_after l (Dropped g k) = settled l k
halves_after l (Abandon k) = record l { state = Dropping k }
halves_after l (Secure g k n piece) = record l {
  high = k;
  last = last.Partial k n;
  pieces = take (n - 1) l.pieces ++ piece ∷ [];
}
halves_after l (Complete g k n piece) = record l { high = k; last = last.Done k; pieces = [] }
halves_after l (Drop g k) = record l { last = last.None; pieces = [] }
halves_after l (CloseLane g) = record l { phase = Closed }

-- ---- the steps of one lane

-- the steps of the lane of this number
abbrev pub of_lane : (lane : ℕ) → Seen → List SeenStep
of_lane i (On j step) = if j == i then step ∷ [] else []
of_lane i Elsewhere = []
of_lane i (Begins count lanes) = []

abbrev pub of_lane_all : (lane : ℕ) → List Seen → List SeenStep
of_lane_all i [] = []
of_lane_all i (step ∷ steps) = of_lane i step ++ of_lane_all i steps

abbrev pub halves_run : Halves → List SeenStep → Halves
halves_run l [] = l
halves_run l (step ∷ steps) = halves_run (halves_after l step) steps

abbrev pub AreAllowed : (spells : List ℕ → Bool) → Halves → List SeenStep → Type 0
AreAllowed spells l [] = Unit {0}
AreAllowed spells l (step ∷ steps) = Allows spells l step × AreAllowed spells (halves_after l step) steps

-- The lane of this number where a history begins: as the snapshot has it with which it begins, or else not opened. A
-- snapshot that stands elsewhere would say nothing; there is none (`IsPossible` of histories).
abbrev pub lane_at_first : (lane : ℕ) → List Seen → Halves
lane_at_first i [] = unopened
lane_at_first i (On j step ∷ steps) = unopened
lane_at_first i (Elsewhere ∷ steps) = unopened
lane_at_first i (Begins count lanes ∷ steps) = lane_begun count lanes i

-- the lane of this number after a history
abbrev pub lane_in : (lane : ℕ) → List Seen → Halves
lane_in i steps = halves_run (lane_at_first i steps) (of_lane_all i steps)

-- every lane allows its steps, one behind the other
abbrev pub LanesAllow : (spells : List ℕ → Bool) → List Seen → Type 0
LanesAllow spells steps = (lane : ℕ) → AreAllowed spells (lane_at_first lane steps) (of_lane_all lane steps)
