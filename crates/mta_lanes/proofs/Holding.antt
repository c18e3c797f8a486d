-- Whether some lane holds a recipient, and how many do.
use Rattle.std.proofs.Common.{◌≡◌, ◌+◌, ℕ, Bool, true, false, cond, not, List, [], ◌∷◌}
use Rattle.std.proofs.Common.{refl, arith}
use Rattle.std.specs.Prelude.{◌↔◌, ◌||◌}
use Rattle.std.specs.List.{list_any}
use Rattle.std.proofs.lemmas.List.Sums.{sum_by-cons}
use Rattle.mta_histories.specs.Lanes.{Lane, holds, activities_of}

count-cons : (lane : Lane) (lanes : List Lane) (i r : ℕ)
    → activities_of (lane ∷ lanes) i r ≡ cond (holds i r lane) 1 0 + activities_of lanes i r
count-cons lane lanes i r = sum_by-cons (λ (x : Lane). cond (holds i r x) 1 0) lane lanes

pub none_holds : (i r : ℕ) (lanes : List Lane)
    → (not (list_any (holds i r) lanes) ≡ true) ↔ (activities_of lanes i r ≡ 0)
none_holds i r [] = (λ e. refl, λ e. refl)
none_holds i r (lane ∷ lanes) = by_first (none_holds i r lanes) (holds i r lane) (count-cons lane lanes i r)
  where
    by_first : (not (list_any (holds i r) lanes) ≡ true) ↔ (activities_of lanes i r ≡ 0) → (b : Bool)
        → activities_of (lane ∷ lanes) i r ≡ cond b 1 0 + activities_of lanes i r
        → (not (b || list_any (holds i r) lanes) ≡ true) ↔ (activities_of (lane ∷ lanes) i r ≡ 0)
    by_first more true count = (λ e. absurd cc, λ e. absurd (omega (arith, count, e)))
    by_first more false count =
        (λ e. let none = more.0 e in omega (arith, count, none), λ e. more.1 (omega (arith, count, e)))
