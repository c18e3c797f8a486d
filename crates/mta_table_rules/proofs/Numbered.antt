-- What has a number in a list that is counted from 1.
use Rattle.std.proofs.Common.{◌≡◌, ℕ, zero, suc, ◌-◌, ◌<◌, ◌≤◌, List, [], ◌∷◌, length, Some}
use Rattle.std.proofs.Common.{refl, arith, ap, ◌∙◌}
use Rattle.std.specs.Prelude.{slice_get}
use Rattle.std.proofs.lemmas.Option.{slice_get_within}
use Rattle.mta_machine.specs.Items.{numbered}

-- what stands at a place within
pub some_at : {A : Type 0} (xs : List A) (i : ℕ) → i < length xs → (x : A) × (slice_get xs i ≡ Some x)
some_at [] i lt = absurd (omega (arith, lt))
some_at (x ∷ xs) zero lt = (x, refl)
some_at (x ∷ xs) (suc i) lt = some_at xs i (omega (arith, lt))

-- the place of what has a number
pub record IsNumbered {A : Type 0} (xs : List A) (n : ℕ) (x : A) : Type 0 where
  pub some : 1 ≤ n
  pub few : n ≤ length xs
  pub at : slice_get xs (n - 1) ≡ Some x

pub numbered_at : {A : Type 0} (xs : List A) (n : ℕ) (x : A) → numbered xs n ≡ Some x → IsNumbered xs n x
numbered_at xs zero x e = absurd cc
numbered_at xs (suc n) x e =
    let within = slice_get_within xs n x e in
    let place : suc n - 1 ≡ n = omega arith in
    record {
      some = omega arith;
      few = omega (arith, within);
      at = ap (λ k. slice_get xs k) place ∙ e;
    }
