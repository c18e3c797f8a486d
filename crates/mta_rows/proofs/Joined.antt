-- Octets of words, one behind another.
use Rattle.std.proofs.Common.{◌≡◌, ℕ, zero, suc, ◌+◌, ◌<◌, List, [], ◌∷◌, ◌++◌, map, take, drop, length, Bor}
use Rattle.std.proofs.Common.{refl, sym, ap, subst, ◌∙◌, append_assoc, append-nil, add-one}
use Rattle.std.specs.List.{repeat, slice_index_or}
use Rattle.std.proofs.lemmas.List.{map-append, take_more, take-append-drop}
use Rattle.std.proofs.Math.Seq.{drop-cons}
use Rattle.mta_rows.specs.Texts.{Joined}

repeat_again : (n : ℕ) (xs : List ℕ) → repeat n xs ++ xs ≡ xs ++ repeat n xs
repeat_again zero xs = sym (append-nil xs)
repeat_again (suc n) xs = append_assoc xs (repeat n xs) xs ∙ ap (λ (ys : List ℕ). xs ++ ys) (repeat_again n xs)

-- once more is the same behind
pub repeat_more : (n : ℕ) (xs : List ℕ) → repeat n xs ++ xs ≡ repeat (n + 1) xs
repeat_more n xs = rw add-one (repeat_again n xs)

-- one word more has the octets behind
joined_more : (Is : List ℕ → List ℕ → Type 0) (words : List (List ℕ)) (word octets more : List ℕ)
    → Joined Is words octets → Is word more → Joined Is (words ++ word ∷ []) (octets ++ more)
joined_more Is [] word octets more j k = (more, [], k, refl, ap (λ o. o ++ more) j ∙ sym (append-nil more))
joined_more Is (w ∷ words) word octets more j k = (
  j.0,
  j.1 ++ more,
  j.2,
  joined_more Is words word j.1 more j.3 k,
  ap (λ o. o ++ more) j.4 ∙ append_assoc j.0 j.1 more,
)

-- where words have octets each of them has
joined_at : (Is : List ℕ → List ℕ → Type 0) (before : List (List ℕ)) (word : List ℕ)
    (behind : List (List ℕ)) (octets : List ℕ) → Joined Is (before ++ word ∷ behind) octets
    → (a : List ℕ) × Is word a
joined_at Is [] word behind octets j = (j.0, j.2)
joined_at Is (w ∷ before) word behind octets j = joined_at Is before word behind j.1 j.3

texts_of : List (Bor (List ℕ)) → List (List ℕ)
texts_of items = map (λ x. x.now) items

-- the words so far, and the next one
pub joined_next : (Is : List ℕ → List ℕ → Type 0) (items : List (Bor (List ℕ))) (i : ℕ) (d : Bor (List ℕ))
    (octets new : List ℕ) → i < length items → Joined Is (map (λ x. x.now) (take i items)) octets
    → (a : List ℕ) × Is (slice_index_or items i d).now a × (new ≡ octets ++ a)
    → Joined Is (map (λ x. x.now) (take (i + 1) items)) new
unfolding texts_of
joined_next Is items i d octets new lt j h =
    let one = slice_index_or items i d in
    let e : map (λ x. x.now) (take (i + 1) items) ≡ texts_of (take i items) ++ one.now ∷ [] =
    ap texts_of (take_more items i d lt) ∙ map-append (λ x. x.now) (take i items) (one ∷ []) in
    subst (λ words. Joined Is words new) (sym e)
    (subst (Joined Is (texts_of (take i items) ++ one.now ∷ [])) (sym h.2)
    (joined_more Is (texts_of (take i items)) one.now octets h.0 j h.1))

-- Where one of the words of a text has no octets the text has none.
pub none_joined : (Is : List ℕ → List ℕ → Type 0) (items : List (Bor (List ℕ))) (words : List (List ℕ))
    (i : ℕ) (d : Bor (List ℕ)) (octets : List ℕ) → i < length items → map (λ x. x.now) items ≡ words
    → ((a : List ℕ) → Is (slice_index_or items i d).now a → ⊥) → Joined Is words octets → ⊥
unfolding texts_of
none_joined Is items words i d octets lt e none j =
    let one = slice_index_or items i d in
    let rest = drop (suc i) items in
    let parts : words ≡ texts_of (take i items) ++ one.now ∷ texts_of rest =
    sym e ∙ ap texts_of (sym (take-append-drop i items) ∙ ap (λ ys. take i items ++ ys) (drop-cons items i d lt))
    ∙ map-append (λ x. x.now) (take i items) (one ∷ rest) in
    let at = joined_at Is (texts_of (take i items)) one.now (texts_of rest) octets
    (subst (λ w. Joined Is w octets) parts j) in
    none at.0 at.1
