-- Numbers that are read digit by digit.
use Rattle.std.proofs.Common.{◌≡◌, ℕ, ◌+◌, ◌-◌, ◌*◌, ◌<◌, ◌≤◌, true, false, leb, List, [], ◌∷◌, Option, Some, None}
use Rattle.std.proofs.Common.{refl, sym, ◌∙◌, inl, inr, arith}
use Rattle.std.specs.Prelude.{nat_le, ◌&&◌, if◌then◌else◌}
use Rattle.std.proofs.lemmas.Bool.{cases_Bool, leb-true, leb-false}
use Rattle.mta_tables.specs.Numbers.{small_from}
use Rattle.mta_tables.specs.Words.{number_from, number_of, is_decimal, is_number}

abbrev some : ℕ → Option ℕ
some n = Some n

some_is : (m n : ℕ) → some m ≡ some n → m ≡ n
some_is m n e = cc

-- further digits make no number smaller
grows : (n : ℕ) (cs : List ℕ) → n ≤ number_from n cs
grows n [] = omega arith
grows n (c ∷ cs) = (let g = grows (n * 10 + (c - 48)) cs in omega arith)

small_is : (n : ℕ) (cs : List ℕ) (m : ℕ) → small_from n cs ≡ Some m → m ≡ number_from n cs
small_is n [] m e = some_is m n (sym e)
small_is n (c ∷ cs) m e =
    elim (cases_Bool (leb (n * 10 + (c - 48)) 99999999)) [
      | inl small ↦ small_is (n * 10 + (c - 48)) cs m (rw small at e)
      | inr large ↦ (let f : None ≡ some m = rw large at e in absurd cc)
    ]

large_is : (n : ℕ) (cs : List ℕ) → n ≤ 99999999 → small_from n cs ≡ None → 99999999 < number_from n cs
large_is n [] l e = absurd cc
large_is n (c ∷ cs) l e =
    elim (cases_Bool (leb (n * 10 + (c - 48)) 99999999)) [
      | inl small ↦ large_is (n * 10 + (c - 48)) cs (leb-true (n * 10 + (c - 48)) 99999999 small) (rw small at e)
      | inr large ↦ (let m = leb-false (n * 10 + (c - 48)) 99999999 large in let g = grows (n * 10 + (c - 48)) cs in
          omega arith)
    ]

pub number_read : (w : List ℕ) (n : ℕ) → small_from 0 w ≡ Some n → number_of w ≡ n
number_read w n e = sym (small_is 0 w n e)

pub number_none : (w : List ℕ) → small_from 0 w ≡ None → 99999999 < number_of w
number_none w e = large_is 0 w (omega arith) e
