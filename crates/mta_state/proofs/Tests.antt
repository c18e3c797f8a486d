-- Whether a lane is open that allows a step.
use Rattle.std.proofs.Common.{◌≡◌, ℕ, Option, Some, None, sym, subst, ◌∙◌}
use Rattle.std.specs.Prelude.{◌↔◌}
use Rattle.std.proofs.lemmas.Option.{same_Some}
use Rattle.mta_histories.specs.Lanes.{Lane, State, lane_at}
use Rattle.mta_histories.specs.Classes.{LaneStep}
use Rattle.mta_histories.specs.History.{IsOnLane, IsOfGeneration, LaneNeeds}

pub on_open : (s : State) (n : ℕ) (g : Option ℕ) (ls : LaneStep) (m : ℕ) (lane : Lane) (A : Type 0)
    → Some lane ≡ lane_at n s.lanes.open_lanes → A ↔ (IsOfGeneration lane g ls × LaneNeeds s lane ls m)
    → A ↔ IsOnLane s n g ls m
on_open s n g ls m lane A found same = (
  λ a. let both = same.0 a in record { lane = lane; lane_is = sym found; current = both.0; needs = both.1 },
  λ on.
      let e : on.lane ≡ lane = same_Some on.lane lane (sym on.lane_is ∙ sym found) in
      same.1 (
        subst (λ (l : Lane). IsOfGeneration l g ls) e on.current,
        subst (λ
            (l : Lane). LaneNeeds s l ls m) e on.needs,
      ),
)

pub on_none : (s : State) (n : ℕ) (g : Option ℕ) (ls : LaneStep) (m : ℕ) (A : Type 0)
    → None ≡ lane_at n s.lanes.open_lanes → (A → ⊥) → A ↔ IsOnLane s n g ls m
on_none s n g ls m A none never =
    (λ a. absurd (never a), λ on. let both : None ≡ Some on.lane = none ∙ on.lane_is in absurd cc)
