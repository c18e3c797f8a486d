-- What a history, as its lanes see it, says of one half of a lane.
use Rattle.std.specs.Prelude.{◌≡◌, ℕ, ◌+◌, ◌==◌, if◌then◌else◌, Bool, true, List, [], ◌∷◌}
use Rattle.std.specs.Prelude.{◌++◌}
use Rattle.mta_transfer_rules.specs.Lanes.{SeenStep, Seen, On, Elsewhere, Begins, Halves, Unopened, unopened}
use Rattle.mta_transfer_rules.specs.Lanes.{of_lane_all, halves_run, lane_at_first, lane_in, LanesAllow}

-- What a history says of one half of a lane: `which` tells, for a step at this position, what it is for that half.
abbrev pub half_of : {Y : Type 0} → (which : ℕ → SeenStep → List Y) → (lane at : ℕ) → Seen → List Y
half_of which lane at (On j step) = if j == lane then which at step else []
half_of which lane at Elsewhere = []
half_of which lane at (Begins count lanes) = []

-- of the steps from this position on
abbrev pub half_steps : {Y : Type 0} → (which : ℕ → SeenStep → List Y) → (lane at : ℕ) → List Seen
    → List Y
half_steps which lane at [] = []
half_steps which lane at (step ∷ steps) = half_of which lane at step ++ half_steps which lane (at + 1) steps

-- The lane of this number once these steps of a history are done, with which it begins: as the snapshot has it where
-- the
-- history begins with one, also where none of its steps is done.
abbrev pub lane_upto : (history : List Seen) → (lane : ℕ) → (done : List Seen) → Halves
lane_upto history lane done = halves_run (lane_at_first lane history) (of_lane_all lane done)

-- A lane that was not opened where the history begins is new: a snapshot has no other.
abbrev pub BeginsNew : List Seen → Type 0
BeginsNew history =
    (lane : ℕ) → (lane_at_first lane history).phase ≡ Unopened → lane_at_first lane history ≡ unopened

-- a history as lanes see it: it begins so, and every lane allows its steps
pub record IsOfLanes (spells : List ℕ → Bool) (history : List Seen) : Type 0 where
  pub begun : BeginsNew history
  pub allowed : LanesAllow spells history

-- Agreed values stay.
abbrev pub AgreedValuesStay : Type 0
AgreedValuesStay =
    (spells : List ℕ → Bool) (history more : List Seen) (lane : ℕ) → IsOfLanes spells (history ++ more)
    → (lane_in lane history).agreed ≡ true
    → ((lane_in lane (history ++ more)).agreed ≡ true)
    × ((lane_in lane (history ++ more)).size ≡ (lane_in lane history).size)
    × ((lane_in lane (history ++ more)).window ≡ (lane_in lane history).window)
