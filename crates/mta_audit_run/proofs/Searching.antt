-- A search by halves for the account of a lane.
use Rattle.std.proofs.Common.{ℕ, zero, suc, ◌≤◌, ◌<◌, List, [], ◌∷◌, length, get_or, Result, Ok, Err}
use Rattle.std.proofs.Common.{inl, inr, sym, arith}
use Rattle.std.specs.Result.{result_ok}
use Rattle.std.specs.List.Sorted.{IsSearchInRange, IsBinarySearchResult, IsNonDecreasingBy}
use Rattle.std.specs.Ordering.{nat_cmp, ordering_index}
use Rattle.std.proofs.lemmas.Bool.{cases_lt}
use Rattle.std.proofs.lemmas.Bool.Decides.{nat_tests}
use Rattle.std.proofs.lemmas.Cmp.{ranked}
use Rattle.mta_audit_run.specs.declared.account.Account.{Account}
use Rattle.mta_audit_run.specs.Account.{AreAscending, AreNumbered}
use Rattle.mta_audit_run.specs.Places.{IsPlaceOf}
use Rattle.mta_audit_run.proofs.Changing.{above_all}

-- a number is at most a later one
rises : (above most : ℕ) (xs : List Account) (i j : ℕ) (d : Account) → AreNumbered above xs most → i ≤ j
    → j < length xs → (get_or xs i d).number ≤ (get_or xs j d).number
rises above most [] i j d each le inside = absurd (omega (arith, inside))
rises above most (x ∷ xs) zero zero d each le inside = omega arith
rises above most (x ∷ xs) zero (suc j) d each le inside =
    let more = above_all x.number most xs j d each.1 (omega (arith, inside)) in omega (arith, more)
rises above most (x ∷ xs) (suc i) zero d each le inside = absurd (omega (arith, le))
rises above most (x ∷ xs) (suc i) (suc j) d each le inside =
    rises x.number most xs i j d each.1 (omega (arith, le)) (omega (arith, inside))

index-rises : (m k n : ℕ) → m ≤ k → ordering_index (nat_cmp m n) ≤ ordering_index (nat_cmp k n)
index-rises m k n le = grind (arith, nat_tests)

module _ (n : ℕ) (xs : List Account) (each : AreAscending xs) where
  comparisons-rise : IsNonDecreasingBy (λ (a : Account). ordering_index (nat_cmp a.number n)) xs
  comparisons-rise i j d le inside =
      index-rises (get_or xs i d).number (get_or xs j d).number n (rises 0 each.0 xs i j d each.1 le inside)

  pub searched : (r : Result ℕ ℕ) → IsSearchInRange r (length xs)
      → IsBinarySearchResult (λ (a : Account). nat_cmp a.number n) xs r → IsPlaceOf n xs (result_ok r)
  searched (Ok at) inside equal = record { within = inside; number = λ d. ranked _ n _ (sym (equal d)) }
  searched (Err at) inside parted = λ k d within same.
      let parts = parted comparisons-rise in
      elim (cases_lt k at) [
        | inl before ↦ let less : (get_or xs k d).number < n = ranked _ n _ (sym (parts.0 k d (omega arith) before)) in
            omega (arith, less, same)
        | inr behind ↦ let more : n < (get_or xs k d).number = ranked _ n _ (sym (parts.1 k d behind within)) in
            omega (arith, more, same)
      ]
