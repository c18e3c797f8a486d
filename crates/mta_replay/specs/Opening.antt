-- When a lane has a name.
use Rattle.std.specs.Prelude.{◌≡◌, ℕ, List}
use Rattle.mta_records.specs.Reference.{Identifier}
use Rattle.mta_records.specs.declared.lane.LaneRole.{LaneRole}
use Rattle.mta_histories.specs.Lanes.{Lane}

-- the lane is with the peer in the role, and of the reference
pub record IsNamed (role : LaneRole) (peer : List ℕ) (reference : Identifier) (lane : Lane) : Type 0 where
  pub role_is : lane.role ≡ role
  pub peer_is : lane.peer ≡ peer
  pub reference_is : lane.reference ≡ reference

-- it has another name
abbrev pub IsUnnamed : LaneRole → List ℕ → Identifier → Lane → Type 0
IsUnnamed role peer reference lane = lane.role ≡ role → lane.peer ≡ peer → lane.reference ≡ reference → ⊥
