-- The names of lanes.
use Rattle.std.specs.Prelude.{◌≡◌, ◌≤◌, List, count_by}
use Rattle.mta_records.specs.State.{Lane}
use Rattle.mta_histories.specs.Limits.{is_with, most_lanes}

-- they are not of one role, with one peer and of one reference
abbrev pub IsApartFrom : Lane → Lane → Type 0
IsApartFrom lane l = l.role ≡ lane.role → l.peer ≡ lane.peer → l.reference ≡ lane.reference → ⊥

-- there are not too many lanes in the role of this one, with its peer
abbrev pub IsWithFew : List Lane → Lane → Type 0
IsWithFew lanes lane = count_by (is_with lane.role lane.peer) lanes ≤ most_lanes
