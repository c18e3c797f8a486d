-- What each step on a lane changes that looks at its lane alone.
use Rattle.std.proofs.Common.{◌≡◌, ◌≤◌, ◌<◌, ◌^◌, ◌+◌, ℕ, true, List, [], length, Option}
use Rattle.std.proofs.Common.{Some, None, refl, arith}
use Rattle.std.proofs.lemmas.Option.{same_Some}
use Rattle.mta_records.specs.declared.step.Step.TheVariants as steps
use Rattle.mta_histories.specs.Classes.{agree, bind, confirm, to_end, settle, was_dropped, drop_pieces, close}
use Rattle.mta_histories.specs.History.{IsPossible, IsOnLane}
use Rattle.mta_lanes.specs.declared.change.LaneChange.TheVariants as lane_change
use Rattle.mta_state.specs.declared.kept.Kept.{Kept}
use Rattle.mta_state.specs.declared.change.Change.TheVariants as change
use Rattle.mta_state.specs.Kept.{state_of}
use Rattle.mta_state.specs.Prepared.{Prepares}
use Rattle.mta_state.proofs.OnLane.{on_close, on_lane_change}

module _ (k : Kept) (n g : ℕ) (few : length k.parts.items.items < 2 ^ 32) where
  pub agree_changes : (checkpoint window : ℕ)
      → IsOnLane (state_of k) n (Some g) (agree checkpoint window) k.moment → checkpoint ≤ 64
      → Prepares (state_of k) (steps.LaneAgree n g checkpoint window) (Some (change.OnLane n
      (lane_change.Agree checkpoint window) None))
  agree_changes checkpoint window on fits =
      on_lane_change (state_of k) (steps.LaneAgree n g checkpoint window) n (Some g) (agree checkpoint window) on.lane
      (lane_change.Agree checkpoint window)
      (record {
        class_is = refl;
        found = on.lane_is;
        current = on.current;
        needs = on.needs;
        quiet = refl;
        after = refl;
        stays = refl;
        may = on.needs;
        timely = omega arith;
        numbers = few;
      })

  pub no_agree : (checkpoint window : ℕ) → (IsOnLane (state_of k) n (Some g) (agree checkpoint window) k.moment
      → ⊥)
      → Prepares (state_of k) (steps.LaneAgree n g checkpoint window) None
  no_agree checkpoint window never possible = never possible.allowed

  pub bind_changes : IsOnLane (state_of k) n (Some g) bind k.moment → g < 2 ^ 64
      → Prepares (state_of k) (steps.Bind n g) (Some (change.OnLane n lane_change.Bind None))
  bind_changes on fits =
      let next = same_Some g (on.lane.generation + 1) on.current in
      on_lane_change (state_of k) (steps.Bind n g) n (Some g) bind on.lane lane_change.Bind
      (record {
        class_is = refl;
        found = on.lane_is;
        current = on.current;
        needs = on.needs;
        quiet = refl;
        after = refl;
        stays = refl;
        may = omega (arith, fits, next);
        timely = omega arith;
        numbers = few;
      })

  pub no_bind : (IsOnLane (state_of k) n (Some g) bind k.moment → ⊥)
      → Prepares (state_of k) (steps.Bind n g) None
  no_bind never possible = never possible.allowed

  pub confirm_changes : (activity checkpoint : ℕ)
      → IsOnLane (state_of k) n (Some g) (confirm activity checkpoint) k.moment
      → Prepares (state_of k) (steps.Confirm n g activity checkpoint) (Some (change.OnLane n
      (lane_change.Confirm activity checkpoint) None))
  confirm_changes activity checkpoint on =
      on_lane_change (state_of k) (steps.Confirm n g activity checkpoint) n (Some g)
      (confirm activity checkpoint) on.lane (lane_change.Confirm activity checkpoint)
      (record {
        class_is = refl;
        found = on.lane_is;
        current = on.current;
        needs = on.needs;
        quiet = refl;
        after = refl;
        stays = refl;
        may = on.needs;
        timely = omega arith;
        numbers = few;
      })

  pub no_confirm : (activity checkpoint : ℕ)
      → (IsOnLane (state_of k) n (Some g) (confirm activity checkpoint) k.moment → ⊥)
      → Prepares (state_of k) (steps.Confirm n g activity checkpoint) None
  no_confirm activity checkpoint never possible = never possible.allowed

  pub end_changes : (activity : ℕ) → IsOnLane (state_of k) n (Some g) (to_end activity) k.moment
      → Prepares (state_of k) (steps.Ending n g activity) (Some (change.OnLane n (lane_change.ToEnd activity) None))
  end_changes activity on =
      on_lane_change (state_of k) (steps.Ending n g activity) n (Some g) (to_end activity) on.lane
      (lane_change.ToEnd activity)
      (record {
        class_is = refl;
        found = on.lane_is;
        current = on.current;
        needs = on.needs;
        quiet = refl;
        after = refl;
        stays = refl;
        may = on.needs;
        timely = omega arith;
        numbers = few;
      })

  pub no_end : (activity : ℕ) → (IsOnLane (state_of k) n (Some g) (to_end activity) k.moment → ⊥)
      → Prepares (state_of k) (steps.Ending n g activity) None
  no_end activity never possible = never possible.allowed

  pub drop_changes : (activity : ℕ) → IsOnLane (state_of k) n (Some g) (settle was_dropped activity) k.moment
      → Prepares (state_of k) (steps.Dropped n g activity) (Some (change.OnLane n lane_change.Settle None))
  drop_changes activity on =
      on_lane_change (state_of k) (steps.Dropped n g activity) n (Some g)
      (settle was_dropped activity) on.lane lane_change.Settle
      (record {
        class_is = refl;
        found = on.lane_is;
        current = on.current;
        needs = on.needs;
        quiet = refl;
        after = refl;
        stays = refl;
        may = tt;
        timely = omega arith;
        numbers = few;
      })

  pub no_drop : (activity : ℕ) → (IsOnLane (state_of k) n (Some g) (settle was_dropped activity) k.moment → ⊥)
      → Prepares (state_of k) (steps.Dropped n g activity) None
  no_drop activity never possible = never possible.allowed

  pub give_up_changes : (activity : ℕ) → IsOnLane (state_of k) n (Some g) (drop_pieces activity) k.moment
      → Prepares (state_of k) (steps.Drop n g activity) (Some (change.OnLane n lane_change.DropPieces None))
  give_up_changes activity on =
      on_lane_change (state_of k) (steps.Drop n g activity) n (Some g)
      (drop_pieces activity) on.lane lane_change.DropPieces
      (record {
        class_is = refl;
        found = on.lane_is;
        current = on.current;
        needs = on.needs;
        quiet = refl;
        after = refl;
        stays = refl;
        may = tt;
        timely = omega arith;
        numbers = few;
      })

  pub no_give_up : (activity : ℕ) → (IsOnLane (state_of k) n (Some g) (drop_pieces activity) k.moment → ⊥)
      → Prepares (state_of k) (steps.Drop n g activity) None
  no_give_up activity never possible = never possible.allowed

  pub close_changes : IsOnLane (state_of k) n (Some g) close k.moment
      → Prepares (state_of k) (steps.CloseLane n g) (Some (change.Close n))
  close_changes on = on_close (state_of k) n g few on

  pub no_close : (IsOnLane (state_of k) n (Some g) close k.moment → ⊥)
      → Prepares (state_of k) (steps.CloseLane n g) None
  no_close never possible = never possible.allowed
