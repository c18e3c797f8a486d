-- What a step changes for which no rules are made.
use Rattle.std.proofs.Common.{◌≡◌, Bool, false, List, ℕ, None, refl, sym, subst}
use Rattle.mta_records.specs.declared.step.Step.{Step}
use Rattle.mta_histories.specs.Classes.{class_of}
use Rattle.mta_histories.specs.Lanes.{State}
use Rattle.mta_histories.specs.History.{after_step}
use Rattle.mta_state.specs.declared.change.Change.{Change}
use Rattle.mta_state.specs.Prepared.{IsChangeOf}
use Rattle.mta_replay.specs.Ready.{AreMade, IsReady, sets_rules}

pub ready_alone : {R : Type 0} (format : R → ℕ) (text : R → List ℕ) (s : State) (step : Step) (change : Change)
    → sets_rules (class_of step) ≡ false → IsChangeOf s step change → IsReady format text s step change None
ready_alone format text s step change other is = record {
  is_change = is;
  under = subst (λ (b : Bool). AreMade format text b (after_step s step).machine None) (sym other) refl;
  fresh = tt;
  queued = tt;
}
