-- What a link in memory gives.
use Rattle.std.proofs.Common.{inl, inr, ⊎_elim, ◌≡◌, ◌⊎◌, ℕ, ◌+◌, ◌≤◌, ◌<◌, List, [], ◌∷◌, ◌++◌, length, take, drop}
use Rattle.std.proofs.Common.{refl, sym, ap, ◌∙◌, arith, append_assoc, append-nil, length-append}
use Rattle.std.proofs.lemmas.Bool.{cases_lt}
use Rattle.std.proofs.lemmas.List.{take_at, take_all, drop_all, take-append-drop, drop-drop, length-take-le}
use Rattle.mta_links.specs.Links.{Gets, Talk}

none_left : (l : List ℕ) → length l ≡ 0 → l ≡ []
none_left [] e = refl
none_left (x ∷ l) e = absurd (omega (arith, e))

within : (xs : List ℕ) (at n : ℕ) → at ≤ length xs → n ≤ length (drop at xs)
    → take (at + n) xs ≡ take at xs ++ take n (drop at xs)
within xs at n le fits =
    let rest : List ℕ = drop at xs in
    let front : List ℕ = take at xs ++ take n rest in
    let parts : take n rest ++ drop n rest ≡ rest = take-append-drop n rest in
    let whole : front ++ drop n rest ≡ xs =
    append_assoc (take at xs) (take n rest) (drop n rest) ∙ ap (λ (l : List ℕ). take at xs ++ l) parts
    ∙ take-append-drop at xs in
    let sizes : length (take at xs) + length (take n rest) ≡ at + n =
    omega (arith, length-take-le at xs le, length-take-le n rest fits) in
    let size : length front ≡ at + n = length-append (take at xs) (take n rest) ∙ sizes in
    ap (take (at + n)) (sym whole) ∙ take_at front (drop n rest) (at + n) size

past : (xs : List ℕ) (at n : ℕ) → length xs < at → take (at + n) xs ≡ take at xs ++ take n (drop at xs)
past xs at n lt =
    let none : take n (drop at xs) ≡ [] =
    ap (take n) (drop_all at xs (omega (arith, lt))) ∙ take_all n [] (omega arith) in
    let same : take (at + n) xs ≡ take at xs =
    take_all (at + n) xs (omega (arith, lt)) ∙ sym (take_all at xs (omega (arith, lt))) in
    same ∙ sym (append-nil (take at xs)) ∙ ap (λ (l : List ℕ). take at xs ++ l) (sym none)

pub take-plus : (xs : List ℕ) (at n : ℕ) → n ≤ length (drop at xs)
    → take (at + n) xs ≡ take at xs ++ take n (drop at xs)
take-plus xs at n fits = ⊎_elim {C = take (at + n) xs ≡ take at xs ++ take n (drop at xs)} (λ lt. past xs at n lt)
    (λ (le : at ≤ length xs). within xs at n le fits) (cases_lt (length xs) at)

-- a link that has given so many octets of these
abbrev pub talk_at : List ℕ → ℕ → List ℕ → Talk
talk_at input at put = record { got = take at input; left = drop at input; put = put }

-- Where nothing was given, the buffer is empty or nothing is left.
empty : (input : List ℕ) (at n : ℕ) (into : List ℕ) → (n ≡ length into) ⊎ (n ≡ length (drop at input)) → n ≡ 0
    → (length into ≡ 0) ⊎ (drop at input ≡ [])
empty input at n into most none = ⊎_elim {C = (length into ≡ 0) ⊎ (drop at input ≡ [])}
    (λ whole. inl (sym whole ∙ none)) (λ all. inr (none_left (drop at input) (sym all ∙ none))) most

pub gets : (input : List ℕ) (at n : ℕ) (put into : List ℕ) → n ≤ length (drop at input)
    → take n into ≡ take n (drop at input) → (n ≡ length into) ⊎ (n ≡ length (drop at input))
    → Gets n into (talk_at input at put) (talk_at input (at + n) put)
gets input at n put into fits moved most = record {
  fits = fits;
  moved = moved;
  got = take-plus input at n fits;
  left = sym (drop-drop n at input);
  put = refl;
  some = empty input at n into most;
}
