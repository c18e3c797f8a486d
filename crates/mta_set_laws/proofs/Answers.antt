-- Components of RTOAC that are neighbours may change places.
use Rattle.std.proofs.Common.{ℕ, Some, refl, inl, inr}
use Rattle.std.specs.Prelude.{is_some}
use Rattle.mta_rtse.specs.declared.types.Answer.{Answer}
use Rattle.mta_rtse.specs.declared.answer.AnswerParts.{AnswerParts}
use Rattle.mta_rtse.specs.Spelling.{MakesAnswer}
use Rattle.mta_set_laws.specs.Orders.{ChangePlaces}
use Rattle.mta_set_laws.proofs.Fills.{Place, Swaps, change, once, neighbours_change}

abbrev checkpoint_place : Place AnswerParts ℕ
checkpoint_place = record { taken = λ s. is_some s.checkpoint; put = λ x s. record s { checkpoint = Some x } }

abbrev window_place : Place AnswerParts ℕ
window_place = record { taken = λ s. is_some s.window; put = λ x s. record s { window = Some x } }

abbrev data_place : Place AnswerParts Answer
data_place = record { taken = λ s. is_some s.answer; put = λ x s. record s { answer = Some x } }

swapped : Swaps MakesAnswer
swapped depth s t u g c o g' c' o' (inl m) (inl n) =
    absurd (once checkpoint_place (λ s x. refl) m n)
swapped depth s t u g c o g' c' o' (inl m) (inr (inl n)) =
    let w = change checkpoint_place window_place ((λ s x. refl), (λ s y. refl), (λ s x y. refl)) m n in
    (window_place.put n.value s, inr (inl w.0), inl w.1)
swapped depth s t u g c o g' c' o' (inl m) (inr (inr n)) =
    let w = change checkpoint_place data_place ((λ s x. refl), (λ s y. refl), (λ s x y. refl)) m n in
    (data_place.put n.value s, inr (inr w.0), inl w.1)
swapped depth s t u g c o g' c' o' (inr (inl m)) (inl n) =
    let w = change window_place checkpoint_place ((λ s x. refl), (λ s y. refl), (λ s x y. refl)) m n in
    (checkpoint_place.put n.value s, inl w.0, inr (inl w.1))
swapped depth s t u g c o g' c' o' (inr (inl m)) (inr (inl n)) =
    absurd (once window_place (λ s x. refl) m n)
swapped depth s t u g c o g' c' o' (inr (inl m)) (inr (inr n)) =
    let w = change window_place data_place ((λ s x. refl), (λ s y. refl), (λ s x y. refl)) m n in
    (data_place.put n.value s, inr (inr w.0), inr (inl w.1))
swapped depth s t u g c o g' c' o' (inr (inr m)) (inl n) =
    let w = change data_place checkpoint_place ((λ s x. refl), (λ s y. refl), (λ s x y. refl)) m n in
    (checkpoint_place.put n.value s, inl w.0, inr (inr w.1))
swapped depth s t u g c o g' c' o' (inr (inr m)) (inr (inl n)) =
    let w = change data_place window_place ((λ s x. refl), (λ s y. refl), (λ s x y. refl)) m n in
    (window_place.put n.value s, inr (inl w.0), inr (inr w.1))
swapped depth s t u g c o g' c' o' (inr (inr m)) (inr (inr n)) =
    absurd (once data_place (λ s x. refl) m n)

pub answers_change : ChangePlaces MakesAnswer
answers_change = neighbours_change MakesAnswer swapped
