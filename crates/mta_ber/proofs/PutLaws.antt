-- The contents of what is put.
use Rattle.std.proofs.Common.{◌≡◌, ℕ, zero, suc, ◌+◌, ◌-◌, ◌*◌, ◌/◌, ◌≤◌, ◌^◌, List, [], ◌∷◌, ◌++◌, take, drop, refl}
use Rattle.std.proofs.Common.{ap, ◌∙◌, arith}
use Rattle.std.specs.Int.{w64, to_be_bytes, bytes_high_first}
use Rattle.mta_ber.specs.Bits.{BitString, padded}
use Rattle.mta_ber.specs.Contents.{octet_count, unused_bits, bits_content}

last_bytes : (n x : ℕ) → n ≤ 8 → take (8 - (8 - n)) (drop (8 - n) (to_be_bytes w64 x)) ≡ bytes_high_first n x
last_bytes zero x le = refl
last_bytes (suc zero) x le = refl
last_bytes (suc (suc zero)) x le = refl
last_bytes (suc (suc (suc zero))) x le = refl
last_bytes (suc (suc (suc (suc zero)))) x le = refl
last_bytes (suc (suc (suc (suc (suc zero))))) x le = refl
last_bytes (suc (suc (suc (suc (suc (suc zero)))))) x le = refl
last_bytes (suc (suc (suc (suc (suc (suc (suc zero))))))) x le = refl
last_bytes (suc (suc (suc (suc (suc (suc (suc (suc zero)))))))) x le = refl
last_bytes (suc (suc (suc (suc (suc (suc (suc (suc (suc n))))))))) x le = absurd (omega arith)

pub bits_content_is : (b : BitString) (word : ℕ) (octets : List ℕ) → b.count ≤ 64
    → word ≡ b.word * 2 ^ unused_bits b.count → octets ≡ to_be_bytes w64 word
    → unused_bits b.count ∷ take (8 - (8 - octet_count b.count))
    (drop (8 - octet_count b.count) octets) ≡ bits_content b
unfolding bits_content
bits_content_is b word octets few w e =
    ap (λ o. unused_bits b.count ∷ take (8 - (8 - octet_count b.count)) (drop (8 - octet_count b.count) o))
    (e ∙ ap (to_be_bytes w64) w)
    ∙ ap (λ o. unused_bits b.count ∷ o)
    (last_bytes (octet_count b.count) (b.word * 2 ^ unused_bits b.count) (omega arith))

-- the same, by what the code counted
pub bits_put : (b p : BitString) (r word : ℕ) (octets content whole : List ℕ) → r ≤ 64 → r ≡ b.count
    → p ≡ padded (8 * ((r + 7) / 8)) b → word ≡ p.word → octets ≡ to_be_bytes w64 word
    → content ≡ (8 * ((r + 7) / 8) - r) ∷ [] → whole ≡ content
    ++ take (8 - (8 - (r + 7) / 8)) (drop (8 - (r + 7) / 8) octets) → whole ≡ bits_content b
bits_put b p r word octets content whole few e padded_is word_is octets_are content_is whole_is =
    let word_so : word ≡ b.word * 2 ^ unused_bits b.count = word_is ∙ ap (λ (x : BitString). x.word) padded_is
    ∙ ap (λ k. b.word * 2 ^ (8 * ((k + 7) / 8) - b.count)) e in
    whole_is
    ∙ ap (λ l. l ++ take (8 - (8 - (r + 7) / 8)) (drop (8 - (r + 7) / 8) octets)) content_is
    ∙ ap (λ k. (8 * ((k + 7) / 8) - k) ∷ take (8 - (8 - (k + 7) / 8)) (drop (8 - (k + 7) / 8) octets)) e
    ∙ bits_content_is b word octets (omega (arith, e, few)) word_so octets_are
