-- The octets of the pieces of a lane.
use Rattle.std.proofs.Common.{◌≡◌, ℕ, ◌+◌, ◌≤◌, ◌<◌, true, false, List, [], ◌∷◌, ◌++◌, length, take}
use Rattle.std.proofs.Common.{get_or}
use Rattle.std.proofs.Common.{refl, sym, ap, ◌∙◌, arith}
use Rattle.std.specs.Prelude.{◌↔◌}
use Rattle.std.specs.List.{concat}
use Rattle.std.proofs.lemmas.List.{take_all, take_more}
use Rattle.mta_histories.specs.Limits.{longest_activity}
use Rattle.mta_lanes.proofs.Concats.{front_shorter, length_behind}

module _ (xs : List (List ℕ)) (k size : ℕ) (same : size ≡ length (concat (take k xs))) where
  pub size_more : (piece : List ℕ) → k < length xs → piece ≡ get_or xs k piece
      → size + length piece ≡ length (concat (take (k + 1) xs))
  size_more piece within is =
      omega (arith, same, length_behind (take k xs) piece)
      ∙ ap (λ (ys : List (List ℕ)). length (concat ys))
      (ap (λ (p : List ℕ). take k xs ++ p ∷ []) is ∙ sym (take_more xs k piece within))

  pub too_long : (piece : List ℕ) → k < length xs → piece ≡ get_or xs k piece → longest_activity < size + length piece
      → (false ≡ true) ↔ (length (concat xs) ≤ longest_activity)
  too_long piece within is more = (
    λ e. absurd cc,
    λ few.
        let front = front_shorter (k + 1) xs in
        let next = size_more piece within is in
        absurd (omega (arith, few, front, next, more)),
  )

  pub short_enough : length xs ≤ k → size ≤ longest_activity → (true ≡ true) ↔ (length (concat xs) ≤ longest_activity)
  short_enough past few =
      let all : size ≡ length (concat xs) =
      same ∙ ap (λ (ys : List (List ℕ)). length (concat ys)) (take_all k xs past) in
      (λ e. omega (arith, all, few), λ e. refl)
