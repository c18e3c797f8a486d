-- What a piece that comes changes.
use Rattle.std.proofs.Common.{◌≡◌, ◌≤◌, ◌<◌, ◌^◌, ◌+◌, ℕ, List, length, Option, Some, None, refl, sym, arith}
use Rattle.mta_records.specs.declared.step.Step.TheVariants as steps
use Rattle.mta_histories.specs.Lanes.{Lane, lane_at}
use Rattle.mta_histories.specs.Classes.{secure}
use Rattle.mta_lanes.specs.declared.change.LaneChange.TheVariants as lane_change
use Rattle.mta_lanes.specs.Pieces.{HasPlace, Room}
use Rattle.mta_state.specs.declared.kept.Kept.{Kept}
use Rattle.mta_state.specs.declared.change.Change.TheVariants as change
use Rattle.mta_state.specs.Kept.{state_of}
use Rattle.mta_state.specs.Prepared.{Prepares, Allows}
use Rattle.mta_state.proofs.OnLane.{on_lane_change, not_open, not_allowed}

module _ (k : Kept) (n g activity number : ℕ) (piece : List ℕ) where
  pub secure_changes : (places : Room) (lane : Lane) → length k.parts.items.items < 2 ^ 32
      → Some lane ≡ lane_at n k.lanes.open_lanes.items → Allows lane (Some g) (secure activity number piece)
      → HasPlace lane.pieces number piece places
      → Prepares (state_of k) (steps.Secure n g activity number piece)
      (Some (change.OnLane n (lane_change.Secure activity number piece places) None))
  secure_changes places lane few found allows room =
      on_lane_change (state_of k) (steps.Secure n g activity number piece) n (Some g) (secure activity number piece)
      lane (lane_change.Secure activity number piece places)
      (record {
        class_is = refl;
        found = sym found;
        current = allows.0;
        needs = allows.1;
        quiet = refl;
        after = refl;
        stays = refl;
        may = (room, allows.1.within);
        timely = omega arith;
        numbers = few;
      })

  pub not_there : None ≡ lane_at n k.lanes.open_lanes.items
      → Prepares (state_of k) (steps.Secure n g activity number piece) None
  not_there none =
      not_open (state_of k) (steps.Secure n g activity number piece) n (Some g) (secure activity number piece) refl
      (sym none)

  pub not_secured : (lane : Lane) → Some lane ≡ lane_at n k.lanes.open_lanes.items
      → (Allows lane (Some g) (secure activity number piece) → ⊥)
      → Prepares (state_of k) (steps.Secure n g activity number piece) None
  not_secured lane found never =
      not_allowed (state_of k) (steps.Secure n g activity number piece) n (Some g) (secure activity number piece) lane
      refl (sym found) (λ current needs. never (current, needs))

pub ruleset secure_laws = (secure_changes, not_secured, not_there)
