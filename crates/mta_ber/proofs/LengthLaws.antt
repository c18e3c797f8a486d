-- How many octets an element has.
use Rattle.std.proofs.Common.{◌≡◌, ℕ, ◌+◌, ◌-◌, ◌*◌, ◌≤◌, ◌<◌, ◌^◌, Bool, true, false, leb, min, List, ◌++◌, length}
use Rattle.std.proofs.Common.{refl, ap, ◌∙◌, arith, inl, inr, ◌⊎◌}
use Rattle.std.proofs.lemmas.Bool.{lt-ltb}
use Rattle.std.proofs.lemmas.List.{length-append}
use Rattle.mta_ber.specs.declared.tag.Tag.{Tag}
use Rattle.mta_ber.specs.Bits.{BitString}
use Rattle.mta_ber.specs.Canon.{element, ident_octets, length_octets}
use Rattle.mta_ber.specs.Contents.{octet_count, unused_bits, bits_content}
use Rattle.mta_ber.specs.Lengths.{octet_length}
use Rattle.mta_ber.proofs.ValueLaws.{length_bytes}

-- the number that is greatest of those of 64 bits
abbrev most : ℕ
most = 2 ^ 64 - 1

one_octet : (t : Tag) → t.number < 31 → length (ident_octets t) ≡ 1
unfolding ident_octets
one_octet t low = let e = lt-ltb t.number 31 low in rw e refl

element_size : (t : Tag) (c : List ℕ) → t.number < 31
    → length (element t c) ≡ 1 + (length (length_octets (length c)) + length c)
unfolding element
element_size t c low =
    omega (
      arith,
      length-append (ident_octets t) (length_octets (length c) ++ c),
      length-append (length_octets (length c)) c,
      one_octet t low,
    )

over : (k n h r size : ℕ) → k ≤ n → r ≡ min (k + (1 + h)) k → k ≤ size → r ≡ min size k
over k n h r size le is more = omega arith

few_or_many : (n k : ℕ) → (n ≤ k) ⊎ (k ≤ n)
few_or_many n k = go (leb n k) refl
  where
    go : (b : Bool) → leb n k ≡ b → (n ≤ k) ⊎ (k ≤ n)
    go true e = inl (grind arith)
    go false e = inr (grind arith)

pub element_counted : (t : Tag) (c : List ℕ) (n h r : ℕ) → t.number < 31 → n ≡ octet_length c
    → h ≡ length (length_octets n) → r ≡ min (n + (1 + h)) most → r ≡ octet_length (element t c)
element_counted t c n h r low n_is h_is r_is =
    elim (few_or_many (length c) most) [
      | inl few ↦ (let same : n ≡ length c = omega (arith, n_is, few) in
          let head : h ≡ length (length_octets (length c)) = h_is ∙ ap (λ k. length (length_octets k)) same in
          omega (arith, same, head, r_is, element_size t c low))
      | inr many ↦ (let all : n ≡ most = omega (arith, n_is, many) in
          omega (arith, all, r_is, many, element_size t c low))
    ]

pub bits_size : (b : BitString) → length (bits_content b) ≡ 1 + octet_count b.count
unfolding bits_content
bits_size b = omega (arith, length_bytes (octet_count b.count) (b.word * 2 ^ unused_bits b.count))
