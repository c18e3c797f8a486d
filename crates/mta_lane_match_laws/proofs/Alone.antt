-- A session that has its lane alone.
use Rattle.std.proofs.Common.{◌≡◌, ℕ, ◌+◌, ◌<◌, List, [], ◌∷◌, ◌++◌, length, Some, refl, sym, ap, subst, ◌∙◌}
use Rattle.std.proofs.Common.{arith}
use Rattle.std.specs.Prelude.{slice_get}
use Rattle.std.proofs.lemmas.Option.{slice_get_within, slice_get-get_or, get_or_from_slice_get}
use Rattle.std.proofs.lemmas.List.{get_or_append_left, get_or-append-add, length-append}
use Rattle.mta_records.specs.declared.step.Step.{Step}
use Rattle.mta_histories.specs.Lanes as spool
use Rattle.mta_histories.specs.History.{ArePossible, after_step, after_from}
use Rattle.mta_histories.specs.Laws.{HistoriesKeep}
use Rattle.mta_lane_match_laws.specs.Matches.{Matches}
use Rattle.mta_lane_match_laws.specs.Laws.{OthersKeepAll}
use Rattle.mta_lane_match_laws.specs.Alone.{AloneBefore, AloneKeeps}

after-append : (s : spool.State) (xs ys : List Step) → after_from s (xs ++ ys) ≡ after_from (after_from s xs) ys
after-append s [] ys = refl
after-append s (x ∷ xs) ys = after-append (after_step s x) xs ys

possible-first : (s : spool.State) (xs ys : List Step) → ArePossible s (xs ++ ys) → ArePossible s xs
possible-first s [] ys may = tt
possible-first s (x ∷ xs) ys may = (may.0, possible-first (after_step s x) xs ys may.1)

possible-rest : (s : spool.State) (xs ys : List Step) → ArePossible s (xs ++ ys) → ArePossible (after_from s xs) ys
possible-rest s [] ys may = may
possible-rest s (x ∷ xs) ys may = possible-rest (after_step s x) xs ys may.1

longer : (xs ys : List Step) → length (xs ++ ys) ≡ length xs + length ys
longer xs ys = length-append xs ys

-- an entry stands in the longer list too
get-first : (xs ys : List Step) (p : ℕ) (x : Step) → slice_get xs p ≡ Some x → slice_get (xs ++ ys) p ≡ Some x
get-first xs ys p x at =
    let within : p < length xs = slice_get_within xs p x at in
    let there : p < length (xs ++ ys) = omega (arith, within, longer xs ys) in
    slice_get-get_or (xs ++ ys) p x there
    ∙ ap Some (get_or_append_left xs ys x p within ∙ get_or_from_slice_get xs p x x at)

get-rest : (xs ys : List Step) (n : ℕ) (x : Step) → slice_get ys n ≡ Some x
    → slice_get (xs ++ ys) (length xs + n) ≡ Some x
get-rest xs ys n x at =
    let within : n < length ys = slice_get_within ys n x at in
    let there : length xs + n < length (xs ++ ys) = omega (arith, within, longer xs ys) in
    slice_get-get_or (xs ++ ys) (length xs + n) x there
    ∙ ap Some (get_or-append-add xs ys n x ∙ get_or_from_slice_get ys n x x at)

pub alone_before : AloneBefore
alone_before l h before more owned owns from same alone p step le at none =
    alone p step le (get-first before more p step at) (same p (slice_get_within before p step at) none)

pub alone_keeps : OthersKeepAll → HistoriesKeep → AloneKeeps
alone_keeps keeps histories t before more owns from history le alone none m =
    let first : ArePossible spool.empty before = possible-first spool.empty before more history in
    subst (λ (s : spool.State). Matches t s) (sym (after-append spool.empty before more))
    (keeps t (after_from spool.empty before) more (histories before first)
    (possible-rest spool.empty before more history)
    (λ n step at. alone (length before + n) step (omega (arith, le)) (get-rest before more n step at)
    (none (length before + n) (omega arith)))
    m)
