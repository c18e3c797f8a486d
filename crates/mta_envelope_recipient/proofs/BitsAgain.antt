-- Indicators that are written are spelled so.
use Rattle.std.proofs.Common.{◌≡◌, ℕ, zero, suc, ◌+◌, ◌-◌, ◌*◌, ◌/◌, ◌%◌, ◌≤◌, ◌<◌, ◌^◌, ◌⊎◌, true, false, cond, ltb}
use Rattle.std.proofs.Common.{◌∷◌, length, refl, sym, ap, subst, ◌∙◌, arith, inl, inr}
use Rattle.std.specs.Prelude.{max}
use Rattle.std.specs.Int.{bytes_high_first}
use Rattle.std.proofs.Math.Nat.{mod-eq_of_lt}
use Rattle.std.proofs.lemmas.Nat.{shl-shr, shl_below}
use Rattle.std.proofs.lemmas.Bool.{cases_lt, le-ltb}
use Rattle.mta_ber.specs.Head.{base}
use Rattle.mta_ber.specs.Bits.{BitString, no_bits, with_bits, at_most_64, too_many, padded}
use Rattle.mta_ber.specs.Contents.{octet_count, unused_bits, bits_content}
use Rattle.mta_ber.specs.Segmented.{AddsBits, SpellsString, SpellsBits}
use Rattle.mta_ber.proofs.BitLaws.{octets_as_bits}
use Rattle.mta_ber.proofs.CanonLaws.{digits_of}
use Rattle.mta_envelope_common.specs.Indicators.{IsIndicators, SpellsIndicators}

length_bytes : (k n : ℕ) → length (bytes_high_first k n) ≡ k
length_bytes zero n = refl
length_bytes (suc k) n = ap (λ x. suc x) (length_bytes k n)

made_is : (c c' w w' : ℕ) → c ≡ c' → w ≡ w'
    → ◌≡◌ {A = BitString} (record { count = c; word = w }) (record { count = c'; word = w' })
made_is c c' w w' a b = cc

pub bits_spelled : (depth : ℕ) (b : BitString) → depth ≤ 16 → b.count ≤ 64 → b.word < 2 ^ b.count
    → SpellsBits depth false (bits_content b) b
unfolding bits_content
bits_spelled depth b d few below =
    let unused = unused_bits b.count in
    let count = octet_count b.count in
    let number = b.word * 2 ^ unused in
    let octets = bytes_high_first count number in
    let size = length_bytes count number in
    let whole : b.count + unused ≡ 8 * count = omega arith in
    let small : number < 256 ^ count =
    omega (arith, shl_below b.word b.count unused below, ap (λ k. 2 ^ k) whole, octets_as_bits count) in
    let value : base 256 octets ≡ number = digits_of count 0 number
    ∙ (let e : 0 * 256 ^ count + number % 256 ^ count ≡ number = ap (λ x. 0 * 256 ^ count + x) (mod-eq_of_lt small)
    ∙ (let z : 0 * 256 ^ count + number ≡ number = omega arith in z) in e) in
    let word : base 256 octets / 2 ^ unused ≡ b.word = ap (λ x. x / 2 ^ unused) value ∙ shl-shr b.word unused in
    let count_is : 8 * length octets - unused ≡ b.count = omega (arith, size) in
    let adds : AddsBits true no_bits (unused ∷ octets) b =
    record {
      unused = unused;
      octets = octets;
      content_is = refl;
      few = omega arith;
      some =
          some_unused b.count count number size;
      after_is =
          joined_is b (8 * length octets - unused) (base 256 octets / 2 ^ unused) few count_is word;
    } in
    let left : suc (16 - depth) ≡ 17 - depth = omega arith in
    record {
      spelled = subst (λ k. SpellsString AddsBits 3 3 k false true no_bits (unused ∷ octets) b) left adds;
      few =
          few;
    }
  where
    some_unused : (bits count number : ℕ) → length (bytes_high_first (octet_count bits) number) ≡ octet_count bits
        → (unused_bits bits ≡ 0) ⊎ ((true ≡ true) × (1 ≤ length (bytes_high_first (octet_count bits) number)))
    some_unused bits count number size =
        elim (cases_lt 0 bits) [ inl some ↦ inr (refl, omega (arith, size)) | inr none ↦ inl (omega arith) ]

    joined_is : (b : BitString) (c w : ℕ) → b.count ≤ 64 → c ≡ b.count → w ≡ b.word
        → b ≡ at_most_64 (with_bits no_bits (record { count = c; word = w }))
    joined_is b c w few ce we =
        let small : ltb 64 (0 + c) ≡ false = le-ltb 64 (0 + c) (omega arith) in
        let count_is : 0 + c ≡ b.count = omega arith in
        let word_is : 0 * 2 ^ c + w ≡ b.word = omega arith in
        sym (ap (λ t. cond t too_many (with_bits no_bits (record { count = c; word = w }))) small
        ∙ made_is (0 + c) b.count (0 * 2 ^ c + w) b.word count_is word_is)

-- eight bits or more are padded to themselves
padded_same : (b : BitString) → 8 ≤ b.count → b ≡ padded 8 b
padded_same b some =
    let count : b.count ≡ max 8 b.count = omega arith in
    let none : 8 - b.count ≡ 0 = omega arith in
    let word : b.word ≡ b.word * 2 ^ (8 - b.count) =
    sym (ap (λ k. b.word * 2 ^ k) none ∙ (let one : b.word * 1 ≡ b.word = omega arith in one)) in
    made_is b.count (max 8 b.count) b.word (b.word * 2 ^ (8 - b.count)) count word

pub indicators_spelled : (depth : ℕ) (b : BitString) → IsIndicators b → depth ≤ 16
    → SpellsIndicators depth false (bits_content b) b
indicators_spelled depth b h d =
    record { bits = b; spelled = bits_spelled depth b d h.at_most h.within; value = padded_same b h.at_least }
