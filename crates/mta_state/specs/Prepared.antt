-- What is found for a step before it is made.
use Rattle.std.specs.Prelude.{◌≡◌, ℕ, Option, Some, None}
use Rattle.mta_records.specs.declared.step.Step.{Step}
use Rattle.mta_histories.specs.Lanes.{Lane, State, empty}
use Rattle.mta_histories.specs.Classes.{LaneStep}
use Rattle.mta_histories.specs.History.{IsPossible, after_step, IsOfGeneration, LaneNeeds}
use Rattle.mta_lanes.specs.declared.change.LaneChange.{LaneChange}
use Rattle.mta_state.specs.declared.change.Change.{Change}
use Rattle.mta_state.specs.Kept.{changed_state, CanChange}

-- the step is possible, and this is what it changes
pub record IsChangeOf (s : State) (step : Step) (change : Change) : Type 0 where
  pub possible : IsPossible s step
  pub after : changed_state s change ≡ after_step s step
  pub can : CanChange s change

-- what a step changes; none exactly where it is not possible
abbrev pub Prepares : State → Step → Option Change → Type 0
Prepares s step None = IsPossible s step → ⊥
Prepares s step (Some change) = IsChangeOf s step change

-- a lane of this generation may take a step that looks at the lane alone
abbrev pub Allows : Lane → Option ℕ → LaneStep → Type 0
Allows lane g step = IsOfGeneration lane g step × LaneNeeds empty lane step 0
