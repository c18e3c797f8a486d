-- Numbers in a row, of which the first are gone.
use Rattle.std.proofs.Common.{◌≡◌, ◌+◌, ℕ, zero, suc, List, [], ◌∷◌, ◌++◌, drop, take, remove, refl, sym, ap, subst}
use Rattle.std.proofs.Common.{◌∙◌, arith}
use Rattle.std.proofs.lemmas.List.{drop-drop}

pub first_goes : (g : ℕ) (xs ys : List ℕ) → ys ≡ drop (g + 1) xs → ys ≡ remove (drop g xs) 0
first_goes g xs ys is = is ∙ sym (drop-drop 1 g xs)

drop_remove : (g place k : ℕ) (xs : List ℕ) → k ≡ g + place → drop g (remove xs k) ≡ remove (drop g xs) place
drop_remove zero place k xs is =
    let same : k ≡ place = omega (arith, is) in ap (λ (p : ℕ). remove xs p) same
drop_remove (suc g) place zero xs is = absurd (omega (arith, is))
drop_remove (suc g) zero (suc k) [] is = refl
drop_remove (suc g) (suc place) (suc k) [] is = refl
drop_remove (suc g) place (suc k) (x ∷ xs) is = drop_remove g place k xs (omega (arith, is))

pub later_goes : (g place : ℕ) (xs ys : List ℕ) → ys ≡ remove xs (g + place) → drop g ys ≡ remove (drop g xs) place
later_goes g place xs ys is = ap (λ (zs : List ℕ). drop g zs) is ∙ drop_remove g place (g + place) xs refl
