-- Lanes as a snapshot has them, each looked at by itself.
use Rattle.std.specs.Prelude.{◌≡◌, ℕ, ◌≤◌, Bool, true, false, List, length, Option, Some, None}
use Rattle.std.specs.Global.{Vec}
use Rattle.std.specs.List.{AllByRecursion}
use Rattle.mta_lane_send.specs.declared.state.SendState.{SendState}
use Rattle.mta_lane_send.specs.Half.{FitsState, is_idle, last_of}
use Rattle.mta_lane_recv.specs.declared.state.Last.{Last}
use Rattle.mta_lane_recv.specs.declared.state.Last.TheVariants as last
use Rattle.mta_lane_recv.specs.Half.{IsOfHigh}
use Rattle.mta_records.specs.State.{Transfer, Lane}
use Rattle.mta_records.specs.declared.lane.LaneRole.{LaneRole}
use Rattle.mta_records.specs.declared.lane.LaneRole.TheVariants.{Responder}
use Rattle.mta_histories.specs.Limits.{longest_activity, longest_piece}
use Rattle.mta_histories.specs.Kept.{ArePieces, IsWhole, IsFilled}
use Rattle.mta_histories.specs.Sound.{IsPieceOf}

-- what is transferred is told where an activity is under way, and nowhere else
abbrev pub IsTold : (idle : Bool) → Option Transfer → Type 0
IsTold true None = Unit {0}
IsTold true (Some t) = ⊥
IsTold false None = ⊥
IsTold false (Some t) = Unit {0}

-- what the one spelling of a record has of a lane
pub record IsSpelled (lane : Lane) : Type 0 where
  pub high : IsOfHigh lane.high lane.last
  pub pieces : ArePieces lane.last lane.pieces
  pub transfer : IsTold (is_idle lane.sending) lane.transfer

-- The halves of a lane fit what is kept of them, whatever else is in the state. Where the values are not agreed nothing
-- was transferred, an activity under way has a number, and each piece has a size.
pub record IsAlone (lane : Lane) : Type 0 where
  pub whole : IsWhole lane
  pub filled : IsFilled lane
  pub before_agreed : lane.agreed ≡ false → lane.last ≡ last.None
  pub activity : is_idle lane.sending ≡ false → 1 ≤ last_of lane.sending
  pub pieces : AllByRecursion (IsPieceOf lane) lane.pieces

-- what is tested of a lane one by one

pub record HasValues (checkpoint window : ℕ) : Type 0 where
  pub checkpoint_fits : checkpoint ≤ 64
  pub window_fits : (1 ≤ window) × (window ≤ 8)

-- a responder's values are agreed, and before they are nothing is transferred
pub record HoldsTo (role : LaneRole) (agreed : Bool) (sending : SendState) (receiving : Last) : Type 0 where
  pub responder : role ≡ Responder → agreed ≡ true
  pub sends_nothing : agreed ≡ false → is_idle sending ≡ true
  pub has_nothing : agreed ≡ false → receiving ≡ last.None

-- the state of a sending half fits what it transfers, and an activity under way has a number and some octets
pub record Carries (checkpoint : ℕ) (sending : SendState) (total : ℕ) : Type 0 where
  pub fits : FitsState checkpoint sending total
  pub some_octets : is_idle sending ≡ false → 1 ≤ total
  pub not_too_many : is_idle sending ≡ false → total ≤ longest_activity
  pub activity : is_idle sending ≡ false → 1 ≤ last_of sending

abbrev pub HasSize : (checkpoint : ℕ) → List ℕ → Type 0
HasSize checkpoint piece = (1 ≤ length piece) × (length piece ≤ longest_piece checkpoint)

-- these are the lanes in memory; none where one of them is not such
abbrev pub LanesBegin : List Lane → Option (Vec Lane) → Type 0
LanesBegin records None = AllByRecursion IsAlone records → ⊥
LanesBegin records (Some lanes) = AllByRecursion IsAlone records × (lanes.items ≡ records)
