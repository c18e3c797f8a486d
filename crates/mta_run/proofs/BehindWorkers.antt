-- What a run makes behind its workers is made for no session.
use Rattle.std.proofs.Common.{◌≡◌, ◌<◌, ◌≤◌, ℕ, zero, suc, ◌+◌, ◌-◌, List, [], ◌∷◌, ◌++◌, length, Some, slice_get}
use Rattle.std.proofs.Common.{refl, sym, ap, subst, ◌∙◌, append_assoc, arith, Option}
use Rattle.std.proofs.lemmas.List.{length-append}
use Rattle.mta_transfer_rules.specs.Lanes.{Seen}
use Rattle.mta_records.specs.declared.step.Step.{Step}
use Rattle.mta_histories.specs.Classes.{abandon, begins, Class, class_of, LaneStep, on_lane, opens}
use Rattle.mta_histories.specs.History.{after, after_step, when}
use Rattle.mta_histories.specs.Lanes.{empty, State}
use Rattle.mta_histories.specs.Seen.{annotated, seen_of}
use Rattle.mta_shared.specs.Counts.{row, times}
use Rattle.mta_shared.proofs.Sums.{row_bounds}
use Rattle.mta_worker_list_laws.specs.Histories.{whole}
use Rattle.mta_worker_list_laws.specs.Parts.{AreForNone, IsForNone, plain}
use Rattle.mta_worker_list_laws.proofs.Annotating.{seen_behind}
use Rattle.mta_commands.specs.Submit.{AreOwn, IsOwnOf}
use Rattle.mta_commands.proofs.Added.{after_append}

own_lane_for_none : (tells : ℕ → Type 0) (conf input : List ℕ) (last n : ℕ) (g : Option ℕ) (ls : LaneStep) (s : State)
    (moment at : ℕ) → IsOwnOf tells conf input last (on_lane n g ls) moment → IsForNone (seen_of s (on_lane n g ls) at)
own_lane_for_none tells conf input last n g (abandon k) s moment at own = tt
own_lane_for_none tells conf input last n g any s moment at own = absurd own

own_for_none : (tells : ℕ → Type 0) (conf input : List ℕ) (last : ℕ) (c : Class) (s : State) (moment at : ℕ)
    → IsOwnOf tells conf input last c moment → IsForNone (seen_of s c at)
own_for_none tells conf input last (on_lane n g ls) s moment at own =
    own_lane_for_none tells conf input last n g ls s moment at own
own_for_none tells conf input last (begins t) s moment at own = absurd own
own_for_none tells conf input last (opens role peer name twa size window) s moment at own = absurd own
own_for_none tells conf input last any s moment at own = tt

same_seen : (a b : Seen) → Some a ≡ Some b → a ≡ b
same_seen a b e = cc

-- each of such steps behind others
each_for_none : (tells : ℕ → Type 0) (before steps : List Step) → AreOwn tells [] [] (after before) steps → (i : ℕ)
    → i < length steps → (y : Seen) → slice_get (annotated (before ++ steps)) (length before + i) ≡ Some y → IsForNone y
each_for_none tells before [] own i below y get = absurd (omega (arith, below))
each_for_none tells before (step ∷ steps) own zero below y get =
    let there = seen_behind before step steps in
    let here : slice_get (annotated (before ++ step ∷ steps)) (length before) ≡ Some y =
    ap (λ (n : ℕ). slice_get (annotated (before ++ step ∷ steps)) n) (omega arith) ∙ get in
    subst IsForNone
    (same_seen (seen_of (after before) (class_of step) (when (after before) step)) y (sym there ∙ here))
    (own_for_none tells [] [] (after before).moment (class_of step) (after before) (when (after before) step)
    (when (after before) step) own.0)
each_for_none tells before (step ∷ steps) own (suc i) below y get =
    let long : length (before ++ step ∷ []) ≡ length before + 1 = length-append before (step ∷ []) in
    let place : length (before ++ step ∷ []) + i ≡ length before + suc i = omega (arith, long) in
    let all : (before ++ step ∷ []) ++ steps ≡ before ++ step ∷ steps = append_assoc before (step ∷ []) steps in
    each_for_none tells (before ++ step ∷ []) steps
    (subst (λ (s : State). AreOwn tells [] [] s steps) (sym (after_append empty before (step ∷ []))) own.1) i
    (omega (arith, below)) y
    (ap (λ (xs : List Step). slice_get (annotated xs) (length (before ++ step ∷ []) + i)) all
    ∙ ap (λ (n : ℕ). slice_get (annotated (before ++ step ∷ steps)) n) place ∙ get)

-- so are all entries behind those of the workers
pub behind_for_none : (tells : ℕ → Type 0) (first entries back : List Step)
    → AreOwn tells [] [] (after (first ++ entries)) back
    → AreForNone (whole first (entries ++ back)) (length first) (plain (row (length entries) (length back)))
behind_for_none tells first entries back own = record {
  none = refl;
  entries = λ k y hit get.
      let bounds = row_bounds k (length entries) (length back) hit in
      let low = bounds.0 in
      let high = bounds.1 in
      let long : length (first ++ entries) ≡ length first + length entries = length-append first entries in
      let place : length (first ++ entries) + (k - length entries) ≡ length first + k = omega (arith, long, low) in
      each_for_none tells (first ++ entries) back own (k - length entries) (omega (arith, low, high)) y
      (ap (λ (xs : List Step). slice_get (annotated xs) (length (first ++ entries) + (k - length entries)))
      (append_assoc first entries back)
      ∙ ap (λ (n : ℕ). slice_get (whole first (entries ++ back)) n) place ∙ get);
}
