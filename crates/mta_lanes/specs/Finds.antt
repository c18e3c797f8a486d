-- What is looked up among the lanes.
use Rattle.std.specs.Prelude.{◌≡◌, ℕ, Bool, true, List, ◌&&◌, ◌==◌, Option, Some, None}
use Rattle.mta_records.specs.Reference.{Identifier}
use Rattle.mta_lane_send.specs.Half.{is_idle}
use Rattle.mta_records.specs.declared.lane.LaneRole.{LaneRole}
use Rattle.mta_histories.specs.Lanes.{Lane, Lanes}
use Rattle.std.specs.List.{concat}
use Rattle.mta_histories.specs.History.{is_with, with_piece}
use Rattle.mta_lanes.specs.declared.lanes.Lanes.{Lanes as OpenLanes}

-- the lanes that are kept
abbrev pub lanes_of : OpenLanes → Lanes
lanes_of l = record { count = l.count; open_lanes = l.open_lanes.items }

-- the lane of this number; the first such lane is `lane_at` of it
abbrev pub has_number : ℕ → Lane → Bool
has_number number lane = number == lane.number

-- the lane is with the peer in the role, and transfers nothing
abbrev pub is_spare : LaneRole → List ℕ → Lane → Bool
is_spare role peer lane = is_with role peer lane && is_idle lane.sending

-- the lane is of the reference, where one is asked for
abbrev pub IsOfReference : Option Identifier → Lane → Type 0
IsOfReference None lane = Unit {0}
IsOfReference (Some reference) lane = reference ≡ lane.reference

-- the lane is with the peer in the role, and of the reference, where one is asked for
abbrev pub IsNamed : LaneRole → List ℕ → Option Identifier → Lane → Type 0
IsNamed role peer reference lane = (is_with role peer lane ≡ true) × IsOfReference reference lane

-- these are the octets of the pieces of a lane before one, and of that one, where there is the lane
abbrev pub AreJoinedOn : Option Lane → (number : ℕ) → List ℕ → List ℕ → Type 0
AreJoinedOn None number piece octets = ⊥
AreJoinedOn (Some lane) number piece octets = octets ≡ concat (with_piece lane.pieces number piece)
