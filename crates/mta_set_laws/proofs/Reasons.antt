-- Components of RTORJ and of RTAB that are neighbours may change places.
use Rattle.std.proofs.Common.{◌≡◌, ℕ, true, List, Some, refl, subst, inl, inr}
use Rattle.std.specs.Prelude.{is_some}
use Rattle.mta_ber.specs.declared.tag.Tag.{Tag}
use Rattle.mta_ber.specs.Parts.{is_tag}
use Rattle.mta_rtse.specs.declared.reason.ReasonParts.{ReasonParts}
use Rattle.mta_rtse.specs.Spelling.{Fills, SpellsAnything, MakesSecond, MakesReason}
use Rattle.mta_set_laws.specs.Orders.{ChangePlaces}
use Rattle.mta_set_laws.proofs.Fills.{Place, Swaps, change, once, neighbours_change}

abbrev reason_place : Place ReasonParts ℕ
reason_place = record { taken = λ s. is_some s.reason; put = λ x s. record s { reason = Some x } }

abbrev first_place : Place ReasonParts (Unit {0})
first_place = record { taken = λ s. s.first; put = λ _ s. record s { first = true } }

abbrev second_place : Place ReasonParts (Unit {0})
second_place = record { taken = λ s. s.second; put = λ _ s. record s { second = true } }

-- the component `[2]`, which stands in RTAB alone
abbrev FillsSecond : ℕ → ReasonParts → Tag → List ℕ → List ℕ → ReasonParts → Type 0
FillsSecond = Fills (is_tag 2 2) second_place.taken second_place.put SpellsAnything

still_aborts : {s t : ReasonParts} → s ≡ t → s.aborts ≡ true → t.aborts ≡ true
still_aborts e a = subst (λ r. r.aborts ≡ true) e a

as_fills : (depth : ℕ) (c o : List ℕ) {s t : ReasonParts} {g : Tag} → MakesSecond s g t
    → FillsSecond depth s g c o t
as_fills depth c o m =
    record { is_tag_of = m.is_tag_of; absent = m.absent; value = tt; spelled = tt; after_is = m.after_is }

as_second : {depth : ℕ} {s t : ReasonParts} {g : Tag} {c o : List ℕ} → s.aborts ≡ true
    → FillsSecond depth s g c o t → MakesSecond s g t
as_second e m = record { aborts = e; is_tag_of = m.is_tag_of; absent = m.absent; after_is = m.after_is }

swapped : Swaps MakesReason
swapped depth s t u g c o g' c' o' (inl m) (inl n) =
    absurd (once reason_place (λ s x. refl) m n)
swapped depth s t u g c o g' c' o' (inl m) (inr (inl n)) =
    let w = change reason_place first_place ((λ s x. refl), (λ s y. refl), (λ s x y. refl)) m n in
    (first_place.put n.value s, inr (inl w.0), inl w.1)
swapped depth s t u g c o g' c' o' (inl m) (inr (inr n)) =
    let w = change reason_place second_place
    ((λ s x. refl), (λ s y. refl), (λ s x y. refl)) m (as_fills depth c' o' n) in
    (second_place.put tt s, inr (inr (as_second (still_aborts m.after_is n.aborts) w.0)), inl w.1)
swapped depth s t u g c o g' c' o' (inr (inl m)) (inl n) =
    let w = change first_place reason_place ((λ s x. refl), (λ s y. refl), (λ s x y. refl)) m n in
    (reason_place.put n.value s, inl w.0, inr (inl w.1))
swapped depth s t u g c o g' c' o' (inr (inl m)) (inr (inl n)) =
    absurd (once first_place (λ s x. refl) m n)
swapped depth s t u g c o g' c' o' (inr (inl m)) (inr (inr n)) =
    let w = change first_place second_place
    ((λ s x. refl), (λ s y. refl), (λ s x y. refl)) m (as_fills depth c' o' n) in
    (second_place.put tt s, inr (inr (as_second (still_aborts m.after_is n.aborts) w.0)), inr (inl w.1))
swapped depth s t u g c o g' c' o' (inr (inr m)) (inl n) =
    let w = change second_place reason_place
    ((λ s x. refl), (λ s y. refl), (λ s x y. refl)) (as_fills depth c o m) n in
    (reason_place.put n.value s, inl w.0, inr (inr (as_second m.aborts w.1)))
swapped depth s t u g c o g' c' o' (inr (inr m)) (inr (inl n)) =
    let w = change second_place first_place
    ((λ s x. refl), (λ s y. refl), (λ s x y. refl)) (as_fills depth c o m) n in
    (first_place.put n.value s, inr (inl w.0), inr (inr (as_second m.aborts w.1)))
swapped depth s t u g c o g' c' o' (inr (inr m)) (inr (inr n)) =
    absurd (once second_place (λ s x. refl) (as_fills depth c o m) (as_fills depth c' o' n))

pub reasons_change : ChangePlaces MakesReason
reasons_change = neighbours_change MakesReason swapped
