-- How many octets lists have that are written, item by item.
use Rattle.std.proofs.Common.{◌≡◌, ℕ, ◌+◌, ◌<◌, ◌≤◌, List, [], ◌∷◌, ◌++◌, length, take, get_or, sym, ap, ◌∙◌}
use Rattle.std.proofs.Common.{append-nil}
use Rattle.std.specs.List.{flat_map}
use Rattle.std.proofs.lemmas.Grind.{flat_map-append}
use Rattle.std.proofs.lemmas.List.{take_more, take_all}
use Rattle.mta_ber.specs.Lengths.{octet_length}

-- what the items before a place have
abbrev pub IsToldTo : {X : Type 0} → (X → List ℕ) → List X → ℕ → ℕ → Type 0
IsToldTo f xs i total = total ≡ octet_length (flat_map f (take i xs))

pub told_more : {X : Type 0} (f : X → List ℕ) (xs : List X) (i : ℕ) (x : X) (next : ℕ) → i < length xs
    → x ≡ get_or xs i x → next ≡ octet_length (flat_map f (take i xs) ++ f x) → IsToldTo f xs (i + 1) next
told_more f xs i x next lt is e =
    let front : take (i + 1) xs ≡ take i xs ++ x ∷ [] = take_more xs i x lt ∙ ap (λ y. take i xs ++ y ∷ []) (sym is) in
    let octets : flat_map f (take (i + 1) xs) ≡ flat_map f (take i xs) ++ f x =
    ap (flat_map f) front ∙ flat_map-append f (take i xs) (x ∷ [])
    ∙ ap (λ l. flat_map f (take i xs) ++ l) (append-nil (f x)) in
    e ∙ ap octet_length (sym octets)

pub told_all : {X : Type 0} (f : X → List ℕ) (xs : List X) (i total : ℕ) → length xs ≤ i → IsToldTo f xs i total
    → total ≡ octet_length (flat_map f xs)
told_all f xs i total le e = e ∙ ap (λ l. octet_length (flat_map f l)) (take_all i xs le)
