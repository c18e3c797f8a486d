-- Components of binds that are neighbours may change places.
use Rattle.std.proofs.Common.{ℕ, true, List, Some, refl, inl, inr}
use Rattle.std.specs.Prelude.{is_some}
use Rattle.mta_rtse.specs.declared.bind.BindParts.{BindParts}
use Rattle.mta_rtse.specs.Spelling.{MakesBind}
use Rattle.mta_set_laws.specs.Orders.{ChangePlaces}
use Rattle.mta_set_laws.proofs.Fills.{Place, Swaps, change, once, neighbours_change}

abbrev name_place : Place BindParts (List ℕ)
name_place = record { taken = λ s. is_some s.name; put = λ x s. record s { name = Some x } }

abbrev password_place : Place BindParts (List ℕ)
password_place = record { taken = λ s. is_some s.password; put = λ x s. record s { password = Some x } }

abbrev context_place : Place BindParts (Unit {0})
context_place = record { taken = λ s. s.context; put = λ _ s. record s { context = true } }

swapped : Swaps MakesBind
swapped depth s t u g c o g' c' o' (inl m) (inl n) =
    absurd (once name_place (λ s x. refl) m n)
swapped depth s t u g c o g' c' o' (inl m) (inr (inl n)) =
    let w = change name_place password_place ((λ s x. refl), (λ s y. refl), (λ s x y. refl)) m n in
    (password_place.put n.value s, inr (inl w.0), inl w.1)
swapped depth s t u g c o g' c' o' (inl m) (inr (inr n)) =
    let w = change name_place context_place ((λ s x. refl), (λ s y. refl), (λ s x y. refl)) m n in
    (context_place.put n.value s, inr (inr w.0), inl w.1)
swapped depth s t u g c o g' c' o' (inr (inl m)) (inl n) =
    let w = change password_place name_place ((λ s x. refl), (λ s y. refl), (λ s x y. refl)) m n in
    (name_place.put n.value s, inl w.0, inr (inl w.1))
swapped depth s t u g c o g' c' o' (inr (inl m)) (inr (inl n)) =
    absurd (once password_place (λ s x. refl) m n)
swapped depth s t u g c o g' c' o' (inr (inl m)) (inr (inr n)) =
    let w = change password_place context_place ((λ s x. refl), (λ s y. refl), (λ s x y. refl)) m n in
    (context_place.put n.value s, inr (inr w.0), inr (inl w.1))
swapped depth s t u g c o g' c' o' (inr (inr m)) (inl n) =
    let w = change context_place name_place ((λ s x. refl), (λ s y. refl), (λ s x y. refl)) m n in
    (name_place.put n.value s, inl w.0, inr (inr w.1))
swapped depth s t u g c o g' c' o' (inr (inr m)) (inr (inl n)) =
    let w = change context_place password_place ((λ s x. refl), (λ s y. refl), (λ s x y. refl)) m n in
    (password_place.put n.value s, inr (inl w.0), inr (inr w.1))
swapped depth s t u g c o g' c' o' (inr (inr m)) (inr (inr n)) =
    absurd (once context_place (λ s x. refl) m n)

pub binds_change : ChangePlaces MakesBind
binds_change = neighbours_change MakesBind swapped
