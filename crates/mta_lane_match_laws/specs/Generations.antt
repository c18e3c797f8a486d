-- Whose a step on a lane is: a lane's generation begins with one step of the history, which one worker made.
use Rattle.std.specs.Prelude.{◌≡◌, ℕ, Bool, List, Some, slice_get}
use Rattle.mta_transfer_rules.specs.Lanes.{Seen, On, LaneOpen, Bind, LanesAllow}

-- the step opens the lane, or binds it into this generation
abbrev pub Begins : (lane generation : ℕ) → Seen → Type 0
Begins n g (On m (LaneOpen agreed size window)) = (m ≡ n) × (g ≡ 1)
Begins n g (On m (Bind h)) = (m ≡ n) × (h ≡ g)
Begins n g _ = ⊥

abbrev pub BeginsAt : (history : List Seen) → (position lane generation : ℕ) → Type 0
BeginsAt history p n g = (step : Seen) × (slice_get history p ≡ Some step) × Begins n g step

-- No two sessions have a lane in one generation.
abbrev pub GenerationsBeginOnce : Type 0
GenerationsBeginOnce =
    (spells : List ℕ → Bool) (history : List Seen) (p q n g : ℕ) → LanesAllow spells history
    → BeginsAt history p n g → BeginsAt history q n g → p ≡ q
