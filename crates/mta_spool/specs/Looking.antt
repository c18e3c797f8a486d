-- What is looked up among the lanes of a spool.
use Rattle.std.specs.Prelude.{◌≡◌, ◌⊎◌, ℕ, List, [], ◌∷◌, Option, None, Some}
use Rattle.mta_records.specs.Reference.{Identifier}
use Rattle.mta_records.specs.declared.lane.LaneRole.{LaneRole}
use Rattle.mta_records.specs.declared.lane.LaneValues.{LaneValues}
use Rattle.mta_histories.specs.Lanes.{Lane}
use Rattle.mta_lanes.specs.Finds.{IsNamed}

-- the number of the first lane with the peer, in the role, and of the reference, where one is asked for
abbrev pub IsFirstNamed : LaneRole → List ℕ → Option Identifier → List Lane → Option ℕ → Type 0
IsFirstNamed role peer reference [] found = found ≡ None
IsFirstNamed role peer reference (lane ∷ lanes) found =
    (IsNamed role peer reference lane × (found ≡ Some lane.number))
    ⊎ ((IsNamed role peer reference lane → ⊥) × IsFirstNamed role peer reference lanes found)

abbrev pub values_of : Lane → LaneValues
values_of lane = record {
  checkpoint = lane.checkpoint;
  window = lane.window;
  twa = lane.twa;
  agreed = lane.agreed;
}
