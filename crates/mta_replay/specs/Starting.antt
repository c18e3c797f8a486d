-- When an activity may be started on a lane, and which recipients of an item may go to a peer in one.
use Rattle.std.specs.Prelude.{◌≡◌, ◌≢◌, ◌≤◌, ℕ, ◌+◌, true, List, [], Option, Some, None}
use Rattle.mta_lane_send.specs.Half.{is_idle, last_of}
use Rattle.mta_machine.specs.Items.{names, AreDifferent}
use Rattle.mta_histories.specs.Lanes.{Lane, State, Transfer, lane_at}
use Rattle.mta_histories.specs.History.{CanStart, transfer_of}
use Rattle.mta_histories.specs.Due.{IsToRelay}

-- the next activity of the lane may be started, whatever its number
pub record IsStartable (lane : Lane) (generation : ℕ) : Type 0 where
  pub current : generation ≡ lane.generation
  pub agreed : lane.agreed ≡ true
  pub idle : is_idle lane.sending ≡ true

-- it may be started at a moment on this open lane
pub record IsFreeFor (s : State) (n generation moment : ℕ) (lane : Lane) : Type 0 where
  pub found : lane_at n s.lanes.open_lanes ≡ Some lane
  pub startable : IsStartable lane generation
  pub timely : s.moment ≤ moment

-- the open lane on which it may be started, or none
abbrev pub FreeFor : State → (n generation moment : ℕ) → Option Lane → Type 0
FreeFor s n generation moment None = (lane : Lane) → IsFreeFor s n generation moment lane → ⊥
FreeFor s n generation moment (Some lane) = IsFreeFor s n generation moment lane

-- the next activity of the lane has this number
abbrev pub IsNextOn : Option Lane → ℕ → Type 0
IsNextOn None k = ⊥
IsNextOn (Some lane) k = k ≡ last_of lane.sending + 1

-- The next activity of this lane may be started at a moment for these recipients of the item, whatever its number.
pub record MayStartNext (s : State) (n generation i : ℕ) (rs : List ℕ) (moment : ℕ) : Type 0 where
  pub lane : Lane
  pub lane_is : lane_at n s.lanes.open_lanes ≡ Some lane
  pub current : generation ≡ lane.generation
  pub timely : s.moment ≤ moment
  pub can : CanStart s lane (last_of lane.sending + 1) i rs moment

-- what it transfers; none exactly where it may not be started
abbrev pub TransfersNext : State → (n generation i : ℕ) → List ℕ → (moment : ℕ) → Option Transfer
    → Type 0
TransfersNext s n generation i rs moment None = MayStartNext s n generation i rs moment → ⊥
TransfersNext s n generation i rs moment (Some transfer) =
    MayStartNext s n generation i rs moment × (transfer ≡ transfer_of s.machine i rs moment)

-- each of the numbers is at most this one
abbrev pub AreUpTo : ℕ → List ℕ → Type 0
AreUpTo most rs = (r : ℕ) → names rs r ≡ true → r ≤ most

-- each of the recipients is waiting, and relayed to the peer
abbrev pub AreToRelay : State → List ℕ → (moment i : ℕ) → List ℕ → Type 0
AreToRelay s peer moment i rs = (r : ℕ) → names rs r ≡ true → IsToRelay s peer moment i r

-- some different recipients, of whom each is relayed to the peer
pub record MayGo (s : State) (peer : List ℕ) (moment i : ℕ) (rs : List ℕ) : Type 0 where
  pub some_recipients : rs ≢ []
  pub different : AreDifferent rs
  pub each : AreToRelay s peer moment i rs

-- one of these, or none where they may not go
abbrev pub OneOf : State → List ℕ → (moment i : ℕ) → List ℕ → Option ℕ → Type 0
OneOf s peer moment i rs None = MayGo s peer moment i rs → ⊥
OneOf s peer moment i rs (Some first) = MayGo s peer moment i rs × (names rs first ≡ true)
