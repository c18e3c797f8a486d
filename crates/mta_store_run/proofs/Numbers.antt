-- Numbers that are read digit by digit.
use Rattle.std.proofs.Common.{◌≡◌, ℕ, ◌+◌, ◌-◌, ◌*◌, ◌<◌, ◌≤◌, leb, List, [], ◌∷◌, Option, Some, None}
use Rattle.std.proofs.Common.{sym, inl, inr, arith}
use Rattle.std.proofs.lemmas.Bool.{cases_Bool, leb-true, leb-false}
use Rattle.mta_tables.specs.Words.{number_of, number_from as digits_from}
use Rattle.mta_store_run.specs.Asked.{number_from}

abbrev some : ℕ → Option ℕ
some n = Some n

some_is : (m n : ℕ) → some m ≡ some n → m ≡ n
some_is m n e = cc

-- further digits make no number smaller
grows : (n : ℕ) (cs : List ℕ) → n ≤ digits_from n cs
grows n [] = omega arith
grows n (c ∷ cs) = (let g = grows (n * 10 + (c - 48)) cs in omega arith)

read_is : (n : ℕ) (cs : List ℕ) (m : ℕ) → number_from n cs ≡ Some m → m ≡ digits_from n cs
read_is n [] m e = some_is m n (sym e)
read_is n (c ∷ cs) m e =
    elim (cases_Bool (leb (n * 10 + (c - 48)) 4294967295)) [
      | inl small ↦ read_is (n * 10 + (c - 48)) cs m (rw small at e)
      | inr large ↦ (let f : None ≡ some m = rw large at e in absurd cc)
    ]

large_is : (n : ℕ) (cs : List ℕ) → n ≤ 4294967295 → number_from n cs ≡ None → 4294967295 < digits_from n cs
large_is n [] l e = absurd cc
large_is n (c ∷ cs) l e =
    elim (cases_Bool (leb (n * 10 + (c - 48)) 4294967295)) [
      | inl small ↦ large_is (n * 10 + (c - 48)) cs (leb-true (n * 10 + (c - 48)) 4294967295 small) (rw small at e)
      | inr large ↦ (let m = leb-false (n * 10 + (c - 48)) 4294967295 large in
          let g = grows (n * 10 + (c - 48)) cs in omega arith)
    ]

pub number_read : (w : List ℕ) (n : ℕ) → number_from 0 w ≡ Some n → number_of w ≡ n
number_read w n e = sym (read_is 0 w n e)

pub number_none : (w : List ℕ) → number_from 0 w ≡ None → 4294967295 < number_of w
number_none w e = large_is 0 w (omega arith) e
