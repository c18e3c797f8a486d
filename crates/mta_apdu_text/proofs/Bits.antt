-- Bits that are printed one by one.
use Rattle.std.proofs.Common.{◌≡◌, ℕ, suc, ◌+◌, ◌-◌, ◌<◌, List, [], ◌∷◌, ◌++◌, sym, ap, ◌∙◌, append_assoc, arith}
use Rattle.mta_ber.specs.Bits.{BitString, bit}
use Rattle.mta_apdu_text.specs.Pieces.{bit_digit, bits_from}

-- what is left to be printed of bits, behind what was printed
abbrev pub BitsLeft : BitString → ℕ → List ℕ → ℕ → List ℕ → Type 0
BitsLeft b count begun place now = now ++ bits_from b place (count - place) ≡ begun ++ bits_from b 0 count

pub one_bit_less : (b : BitString) (count place : ℕ) (begun now then : List ℕ) → place < count → then ≡ now
    ++ bit_digit (bit b place) ∷ [] → BitsLeft b count begun place now → BitsLeft b count begun (place + 1) then
one_bit_less b count place begun now then lt e h =
    let left : count - place ≡ suc (count - (place + 1)) = omega arith in
    let one : bits_from b place (count - place) ≡ bit_digit (bit b place) ∷
    bits_from b (place + 1) (count - (place + 1)) = ap (λ k. bits_from b place k) left in
    ap (λ x. x ++ bits_from b (place + 1) (count - (place + 1))) e
    ∙ append_assoc now (bit_digit (bit b place) ∷ []) (bits_from b (place + 1) (count - (place + 1)))
    ∙ sym (ap (λ x. now ++ x) one)
    ∙ h
