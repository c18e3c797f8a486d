-- Elements whose headers have two octets.
use Rattle.std.proofs.Common.{◌≡◌, ℕ, ◌+◌, ◌-◌, ◌/◌, ◌%◌, ◌≤◌, ◌<◌, Bool, true, false, ltb, eqb, List, [], ◌∷◌}
use Rattle.std.proofs.Common.{length, take, drop, Option, Some, None, Ok, refl, ap, subst, ◌∙◌, arith, slice_index_or}
use Rattle.std.proofs.lemmas.Bool.{lt-ltb, le-ltb}
use Rattle.std.proofs.lemmas.List.{take_all}
use Rattle.mta_ber.specs.Head.{◌>>=◌, ident, length_at, is_constructed, tag_of, header_from, head}
use Rattle.mta_ber.specs.Element.{content_size, element_size}
use Rattle.mta_ber.specs.Short.{HasSize, IsMarked}
use Rattle.mta_ber.proofs.HeadLaws.{length_short, length_open}

short_ident : (f : ℕ) (rest : List ℕ) → f % 32 < 31 → ident (f ∷ rest) ≡ Some (f, [], rest)
unfolding ident
short_ident f rest low = rw (lt-ltb (f % 32) 31 low) refl

-- a header of a low tag number, whose length octets are read
short_head : (at depth f : ℕ) (c : Bool) (rest body : List ℕ) (count : Option ℕ) → f % 32 < 31
    → is_constructed f ≡ c → length_at at c rest ≡ Ok (count, body) → depth ≤ 16
    → head at depth (f ∷ rest) ≡ Ok (record { tag = tag_of f []; count = count; body = body })
unfolding head
short_head at depth f c rest body count low form len level =
    let shallow : ltb 16 depth ≡ false = le-ltb 16 depth level in
    let l : length_at at (is_constructed f) rest ≡ Ok (count, body) = rw form len in
    ap (header_from at depth) (short_ident f rest low) ∙ rw (l, shallow) refl

primitive : (f : ℕ) → f % 64 < 31 → is_constructed f ≡ false
primitive f low = let e : f / 32 % 2 ≡ 0 = omega arith in ap (λ v. eqb v 1) e

pub short_size : (f n : ℕ) (rest : List ℕ) → f % 64 < 31 → n < 128 → n ≤ length rest → HasSize (2 + n) (f ∷ n ∷ rest)
unfolding element_size content_size
short_size f n rest low few fits inside depth at level =
    let form = primitive f low in
    let number : f % 32 < 31 = omega arith in
    let h = short_head at depth f false (n ∷ rest) rest (Some n) number form (length_short at n false rest few fits)
    level in
    let size : length (f ∷ n ∷ rest) - length rest + n ≡ 2 + n = omega arith in
    rw (h, form) (ap Ok size)

pub short_row : (f : ℕ) (rest : List ℕ) → f / 32 % 2 ≡ 1 → f % 32 < 31 → IsMarked rest (f ∷ 128 ∷ rest)
unfolding element_size content_size
short_row f rest form number inside depth at level =
    let c : is_constructed f ≡ true = ap (λ v. eqb v 1) form in
    let h = short_head at depth f true (128 ∷ rest) rest None number c (length_open at rest) level in
    let size : length (f ∷ 128 ∷ rest) - length rest ≡ 2 = omega arith in
    rw h (ap (λ (k : ℕ). inside true (at + k) rest >>= λ n. Ok (k + n)) size)

-- ---- as the code has them

pub size_in : (bytes : List ℕ) → 2 ≤ length bytes → slice_index_or bytes 0 0 % 64 < 31 → slice_index_or bytes 1 0 < 128
    → slice_index_or bytes 1 0 ≤ length (take (length bytes - 2) (drop 2 bytes))
    → HasSize (2 + slice_index_or bytes 1 0) bytes
size_in [] two low few fits = absurd (omega arith)
size_in (f ∷ []) two low few fits = absurd (omega arith)
size_in (f ∷ n ∷ rest) two low few fits =
    let all : take (length (f ∷ n ∷ rest) - 2) rest ≡ rest = take_all (length (f ∷ n ∷ rest) - 2) rest (omega arith) in
    short_size f n rest low few (subst (λ (r : List ℕ). n ≤ length r) all fits)

pub row_in : (bytes : List ℕ) → 2 ≤ length bytes → slice_index_or bytes 0 0 / 32 % 2 ≡ 1
    → slice_index_or bytes 0 0 % 32 < 31 → slice_index_or bytes 1 0 ≡ 128
    → IsMarked (take (length bytes - 2) (drop 2 bytes)) bytes
row_in [] two form low count = absurd (omega arith)
row_in (f ∷ []) two form low count = absurd (omega arith)
row_in (f ∷ n ∷ rest) two form low count =
    let all : take (length (f ∷ n ∷ rest) - 2) rest ≡ rest = take_all (length (f ∷ n ∷ rest) - 2) rest (omega arith) in
    rw (all, count) (short_row f rest form low)
