-- When an open lane has another name than one that is opened.
use Rattle.std.specs.Prelude.{◌≡◌, ℕ, List}
use Rattle.mta_records.specs.Reference.{Identifier}
use Rattle.mta_records.specs.declared.lane.LaneRole.{LaneRole}
use Rattle.mta_histories.specs.Lanes.{Lane}

-- it has another peer, role or reference
abbrev pub IsOther : LaneRole → List ℕ → Identifier → Lane → Type 0
IsOther role peer name lane = lane.role ≡ role → lane.peer ≡ peer → lane.reference ≡ name → ⊥
