-- Which lanes are covered.
use Rattle.std.proofs.Common.{◌≡◌, Bool, true, false, List, [], ◌∷◌, refl, ap, ◌∙◌}
use Rattle.std.specs.Prelude.{◌&&◌, ◌||◌, not, if◌then◌else◌}
use Rattle.std.specs.List.{filter, list_any}
use Rattle.mta_audit_run.specs.declared.account.Account.{Account}
use Rattle.mta_audit_run.specs.Partners.{in_snapshot, is_covered, is_without}

-- there is none among those that pass a test where none passes it
without-any : (p : Account → Bool) (xs : List Account) → not (list_any p xs) ≡ is_without (filter p xs)
without-any p [] = refl
without-any p (x ∷ xs) = by (p x) (without-any p xs)
  where
    by : (b : Bool) → not (list_any p xs) ≡ is_without (filter p xs)
        → not (b || list_any p xs) ≡ is_without (if b then x ∷ filter p xs else filter p xs)
    by true more = refl
    by false more = more

-- one that passes it stands in a snapshot
begun-any : (p : Account → Bool) (xs : List Account)
    → list_any (λ x. in_snapshot x && p x) xs ≡ list_any in_snapshot (filter p xs)
begun-any p [] = refl
begun-any p (x ∷ xs) = by (p x) (in_snapshot x) refl (begun-any p xs)
  where
    by : (b c : Bool) → in_snapshot x ≡ c → list_any (λ y. in_snapshot y && p y) xs ≡ list_any in_snapshot (filter p xs)
        → ((c && b) || list_any (λ y. in_snapshot y && p y) xs)
        ≡ list_any in_snapshot (if b then x ∷ filter p xs else filter p xs)
    by true true e more = rw e refl
    by true false e more = rw e more
    by false true e more = more
    by false false e more = more

-- so it is found whether a lane is covered
pub covered_so : (p : Account → Bool) (begun : Bool) (a : Account) (xs : List Account)
    (begun_end some_end covered : Bool)
    → begun_end ≡ list_any (λ x. in_snapshot x && p x) xs → some_end ≡ list_any p xs
    → covered ≡ (not a.in_snapshot && (not begun_end && not (begun && not some_end)))
    → covered ≡ is_covered begun a (filter p xs)
covered_so p begun a xs begun_end some_end covered begun_is some_is is =
    is
    ∙ ap (λ (b : Bool). not a.in_snapshot && (not b && not (begun && not some_end))) (begun_is ∙ begun-any p xs)
    ∙ ap (λ (b : Bool). not a.in_snapshot && (not (list_any in_snapshot (filter p xs)) && not (begun && b)))
    (ap not some_is ∙ without-any p xs)
