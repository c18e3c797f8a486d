-- How many octets pieces have.
use Rattle.std.proofs.Common.{◌≡◌, ◌≤◌, ◌+◌, ℕ, zero, suc, List, [], ◌∷◌, ◌++◌}
use Rattle.std.proofs.Common.{length, take, sym, ap, ◌∙◌, arith, length-append, append-nil, append_assoc}
use Rattle.std.specs.List.{concat}

-- a piece behind others
pub length_behind : (xs : List (List ℕ)) (piece : List ℕ)
    → length (concat (xs ++ piece ∷ [])) ≡ length (concat xs) + length piece
length_behind [] piece = rw (length-append piece []) (omega arith)
length_behind (x ∷ xs) piece =
    let more = length_behind xs piece in
    rw (length-append x (concat (xs ++ piece ∷ []))) (rw (length-append x (concat xs)) (omega (arith, more)))

-- the first pieces have no more octets than all
pub front_shorter : (n : ℕ) (xs : List (List ℕ)) → length (concat (take n xs)) ≤ length (concat xs)
front_shorter zero xs = omega arith
front_shorter (suc n) [] = omega arith
front_shorter (suc n) (x ∷ xs) =
    let more = front_shorter n xs in
    rw (length-append x (concat (take n xs))) (rw (length-append x (concat xs)) (omega (arith, more)))

-- the octets of a piece more
pub joined_behind : (xs : List (List ℕ)) (piece : List ℕ) → concat (xs ++ piece ∷ []) ≡ concat xs ++ piece
joined_behind [] piece = append-nil piece
joined_behind (x ∷ xs) piece =
    ap (λ (more : List ℕ). x ++ more) (joined_behind xs piece) ∙ sym (append_assoc x (concat xs) piece)
