-- The parts of a text, and what holds of a result on a condition.
use Rattle.std.proofs.Common.{◌≡◌, ℕ, ◌+◌, suc, Bool, true, false, not, cond, List, [], ◌∷◌, length, refl, ap, arith}
use Rattle.std.proofs.Common.{Result, Ok, Err}
use Rattle.std.specs.Prelude.{IfOk}
use Rattle.std.specs.List.{slice_split, onto_first, position_or_len}

-- where no element passes, a list is the one part
pub part_alone : (p : ℕ → Bool) (xs : List ℕ) → position_or_len p xs ≡ length xs → slice_split p xs ≡ xs ∷ []
part_alone p [] e = refl
part_alone p (x ∷ xs) e = by (p x) (part_alone p xs) e
  where
    by : (b : Bool) → (position_or_len p xs ≡ length xs → slice_split p xs ≡ xs ∷ [])
        → cond (not b) (1 + position_or_len p xs) 0 ≡ suc (length xs)
        → cond b ([] ∷ slice_split p xs) (onto_first x (slice_split p xs)) ≡ (x ∷ xs) ∷ []
    by true rest f = absurd (omega (arith, f))
    by false rest f = ap (onto_first x) (rest (omega (arith, f)))

-- the condition goes into what is said of the value
pub ok_under : {T E : Type 0} (P : Type 0) (Q : T → Type 0) (r : Result T E) → (P → IfOk r Q) → IfOk r (λ v. P → Q v)
ok_under P Q (Ok v) f = f
ok_under P Q (Err e) f = tt
