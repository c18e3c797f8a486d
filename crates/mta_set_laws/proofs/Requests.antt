-- Components of RTORQ that are neighbours may change places.
use Rattle.std.proofs.Common.{ℕ, Bool, true, Some, refl, inl, inr}
use Rattle.std.specs.Prelude.{is_some}
use Rattle.mta_rtse.specs.declared.types.Request.{Request}
use Rattle.mta_rtse.specs.declared.request.RequestParts.{RequestParts}
use Rattle.mta_rtse.specs.Spelling.{MakesRequest}
use Rattle.mta_set_laws.specs.Orders.{ChangePlaces}
use Rattle.mta_set_laws.proofs.Fills.{Place, Swaps, change, once, neighbours_change}

abbrev checkpoint_place : Place RequestParts ℕ
checkpoint_place = record { taken = λ s. is_some s.checkpoint; put = λ x s. record s { checkpoint = Some x } }

abbrev window_place : Place RequestParts ℕ
window_place = record { taken = λ s. is_some s.window; put = λ x s. record s { window = Some x } }

abbrev mode_place : Place RequestParts Bool
mode_place = record { taken = λ s. is_some s.twa; put = λ x s. record s { twa = Some x } }

abbrev data_place : Place RequestParts Request
data_place = record { taken = λ s. is_some s.request; put = λ x s. record s { request = Some x } }

abbrev protocol_place : Place RequestParts (Unit {0})
protocol_place = record { taken = λ s. s.protocol; put = λ _ s. record s { protocol = true } }

swapped : Swaps MakesRequest
swapped depth s t u g c o g' c' o' (inl m) (inl n) =
    absurd (once checkpoint_place (λ s x. refl) m n)
swapped depth s t u g c o g' c' o' (inl m) (inr (inl n)) =
    let w = change checkpoint_place window_place ((λ s x. refl), (λ s y. refl), (λ s x y. refl)) m n in
    (window_place.put n.value s, inr (inl w.0), inl w.1)
swapped depth s t u g c o g' c' o' (inl m) (inr (inr (inl n))) =
    let w = change checkpoint_place mode_place ((λ s x. refl), (λ s y. refl), (λ s x y. refl)) m n in
    (mode_place.put n.value s, inr (inr (inl w.0)), inl w.1)
swapped depth s t u g c o g' c' o' (inl m) (inr (inr (inr (inl n)))) =
    let w = change checkpoint_place data_place ((λ s x. refl), (λ s y. refl), (λ s x y. refl)) m n in
    (data_place.put n.value s, inr (inr (inr (inl w.0))), inl w.1)
swapped depth s t u g c o g' c' o' (inl m) (inr (inr (inr (inr n)))) =
    let w = change checkpoint_place protocol_place ((λ s x. refl), (λ s y. refl), (λ s x y. refl)) m n in
    (protocol_place.put n.value s, inr (inr (inr (inr w.0))), inl w.1)
swapped depth s t u g c o g' c' o' (inr (inl m)) (inl n) =
    let w = change window_place checkpoint_place ((λ s x. refl), (λ s y. refl), (λ s x y. refl)) m n in
    (checkpoint_place.put n.value s, inl w.0, inr (inl w.1))
swapped depth s t u g c o g' c' o' (inr (inl m)) (inr (inl n)) =
    absurd (once window_place (λ s x. refl) m n)
swapped depth s t u g c o g' c' o' (inr (inl m)) (inr (inr (inl n))) =
    let w = change window_place mode_place ((λ s x. refl), (λ s y. refl), (λ s x y. refl)) m n in
    (mode_place.put n.value s, inr (inr (inl w.0)), inr (inl w.1))
swapped depth s t u g c o g' c' o' (inr (inl m)) (inr (inr (inr (inl n)))) =
    let w = change window_place data_place ((λ s x. refl), (λ s y. refl), (λ s x y. refl)) m n in
    (data_place.put n.value s, inr (inr (inr (inl w.0))), inr (inl w.1))
swapped depth s t u g c o g' c' o' (inr (inl m)) (inr (inr (inr (inr n)))) =
    let w = change window_place protocol_place ((λ s x. refl), (λ s y. refl), (λ s x y. refl)) m n in
    (protocol_place.put n.value s, inr (inr (inr (inr w.0))), inr (inl w.1))
swapped depth s t u g c o g' c' o' (inr (inr (inl m))) (inl n) =
    let w = change mode_place checkpoint_place ((λ s x. refl), (λ s y. refl), (λ s x y. refl)) m n in
    (checkpoint_place.put n.value s, inl w.0, inr (inr (inl w.1)))
swapped depth s t u g c o g' c' o' (inr (inr (inl m))) (inr (inl n)) =
    let w = change mode_place window_place ((λ s x. refl), (λ s y. refl), (λ s x y. refl)) m n in
    (window_place.put n.value s, inr (inl w.0), inr (inr (inl w.1)))
swapped depth s t u g c o g' c' o' (inr (inr (inl m))) (inr (inr (inl n))) =
    absurd (once mode_place (λ s x. refl) m n)
swapped depth s t u g c o g' c' o' (inr (inr (inl m))) (inr (inr (inr (inl n)))) =
    let w = change mode_place data_place ((λ s x. refl), (λ s y. refl), (λ s x y. refl)) m n in
    (data_place.put n.value s, inr (inr (inr (inl w.0))), inr (inr (inl w.1)))
swapped depth s t u g c o g' c' o' (inr (inr (inl m))) (inr (inr (inr (inr n)))) =
    let w = change mode_place protocol_place ((λ s x. refl), (λ s y. refl), (λ s x y. refl)) m n in
    (protocol_place.put n.value s, inr (inr (inr (inr w.0))), inr (inr (inl w.1)))
swapped depth s t u g c o g' c' o' (inr (inr (inr (inl m)))) (inl n) =
    let w = change data_place checkpoint_place ((λ s x. refl), (λ s y. refl), (λ s x y. refl)) m n in
    (checkpoint_place.put n.value s, inl w.0, inr (inr (inr (inl w.1))))
swapped depth s t u g c o g' c' o' (inr (inr (inr (inl m)))) (inr (inl n)) =
    let w = change data_place window_place ((λ s x. refl), (λ s y. refl), (λ s x y. refl)) m n in
    (window_place.put n.value s, inr (inl w.0), inr (inr (inr (inl w.1))))
swapped depth s t u g c o g' c' o' (inr (inr (inr (inl m)))) (inr (inr (inl n))) =
    let w = change data_place mode_place ((λ s x. refl), (λ s y. refl), (λ s x y. refl)) m n in
    (mode_place.put n.value s, inr (inr (inl w.0)), inr (inr (inr (inl w.1))))
swapped depth s t u g c o g' c' o' (inr (inr (inr (inl m)))) (inr (inr (inr (inl n)))) =
    absurd (once data_place (λ s x. refl) m n)
swapped depth s t u g c o g' c' o' (inr (inr (inr (inl m)))) (inr (inr (inr (inr n)))) =
    let w = change data_place protocol_place ((λ s x. refl), (λ s y. refl), (λ s x y. refl)) m n in
    (protocol_place.put n.value s, inr (inr (inr (inr w.0))), inr (inr (inr (inl w.1))))
swapped depth s t u g c o g' c' o' (inr (inr (inr (inr m)))) (inl n) =
    let w = change protocol_place checkpoint_place ((λ s x. refl), (λ s y. refl), (λ s x y. refl)) m n in
    (checkpoint_place.put n.value s, inl w.0, inr (inr (inr (inr w.1))))
swapped depth s t u g c o g' c' o' (inr (inr (inr (inr m)))) (inr (inl n)) =
    let w = change protocol_place window_place ((λ s x. refl), (λ s y. refl), (λ s x y. refl)) m n in
    (window_place.put n.value s, inr (inl w.0), inr (inr (inr (inr w.1))))
swapped depth s t u g c o g' c' o' (inr (inr (inr (inr m)))) (inr (inr (inl n))) =
    let w = change protocol_place mode_place ((λ s x. refl), (λ s y. refl), (λ s x y. refl)) m n in
    (mode_place.put n.value s, inr (inr (inl w.0)), inr (inr (inr (inr w.1))))
swapped depth s t u g c o g' c' o' (inr (inr (inr (inr m)))) (inr (inr (inr (inl n)))) =
    let w = change protocol_place data_place ((λ s x. refl), (λ s y. refl), (λ s x y. refl)) m n in
    (data_place.put n.value s, inr (inr (inr (inl w.0))), inr (inr (inr (inr w.1))))
swapped depth s t u g c o g' c' o' (inr (inr (inr (inr m)))) (inr (inr (inr (inr n)))) =
    absurd (once protocol_place (λ s x. refl) m n)

pub requests_change : ChangePlaces MakesRequest
requests_change = neighbours_change MakesRequest swapped
