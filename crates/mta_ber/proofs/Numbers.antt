-- Numbers of a few digits.
use Rattle.std.proofs.Common.{◌≡◌, ℕ, zero, suc, ◌+◌, ◌*◌, ◌-◌, ◌%◌, ◌≤◌, ◌<◌, ◌^◌, List, [], ◌∷◌, length, get_or}
use Rattle.std.proofs.Common.{arith, add-one, ap, ◌∙◌, pos, negsuc, ◌-ℤ◌, to_z, of_z, w64, ltb, true, false}
use Rattle.mta_ber.specs.Head.{base}
use Rattle.mta_ber.specs.Int.{signed}
use Rattle.std.proofs.lemmas.Bool.{le-ltb, lt-ltb}
use Rattle.std.proofs.lemmas.Int.{to_z_pos, ints}
use Rattle.std.proofs.Math.Nat.{pow-suc, pow-succ', mul-le-mul_right, pow-le-pow_right}
use Rattle.std.specs.Prelude.{fold, map}
use Rattle.std.proofs.lemmas.List.{length-map}

-- a number of fewer than four digits has room for one more
pub room_7 : (i n : ℕ) → i < 4 → n < 128 ^ i → n * 128 + 128 ≤ 2 ^ 28
room_7 zero n lt h = omega arith
room_7 (suc zero) n lt h = omega arith
room_7 (suc (suc zero)) n lt h = omega arith
room_7 (suc (suc (suc zero))) n lt h = omega arith
room_7 (suc (suc (suc (suc i)))) n lt h = absurd (omega arith)

pub room_8 : (i n : ℕ) → i < 8 → n < 256 ^ i → n * 256 + 256 ≤ 2 ^ 64
room_8 zero n lt h = omega arith
room_8 (suc zero) n lt h = omega arith
room_8 (suc (suc zero)) n lt h = omega arith
room_8 (suc (suc (suc zero))) n lt h = omega arith
room_8 (suc (suc (suc (suc zero)))) n lt h = omega arith
room_8 (suc (suc (suc (suc (suc zero))))) n lt h = omega arith
room_8 (suc (suc (suc (suc (suc (suc zero)))))) n lt h = omega arith
room_8 (suc (suc (suc (suc (suc (suc (suc zero))))))) n lt h = omega arith
room_8 (suc (suc (suc (suc (suc (suc (suc (suc i)))))))) n lt h = absurd (omega arith)

pub one_digit_more : (m i n d : ℕ) → n < m ^ i → d < m → n * m + d < m ^ (i + 1)
one_digit_more m i n d h lt = rw (add-one, pow-suc m i) (grind arith)

pub fold_below : (a : ℕ) (xs : List ℕ) → fold (λ n b. n * 256 + b % 256) a xs < (a + 1) * 256 ^ length xs
fold_below a [] = omega arith
fold_below a (x ∷ xs) =
    let h = fold_below (a * 256 + x % 256) xs in
    let digit : a * 256 + x % 256 + 1 ≤ (a + 1) * 256 = omega arith in
    let wider = mul-le-mul_right (256 ^ length xs) digit in
    let p : 256 ^ suc (length xs) ≡ 256 * 256 ^ length xs = pow-succ' 256 (length xs) in
    rw p (omega (arith, h, wider))

pow_256 : (n : ℕ) → n ≤ 7 → 256 ^ n ≤ 2 ^ 56
pow_256 n h = omega (arith, pow-le-pow_right {n = 256} (omega arith) h)

-- a number of at most eight octets whose first bit is clear
pub below_half : (bytes : List ℕ) → length bytes ≤ 8 → get_or bytes 0 0 < 128 → base 256 bytes < 2 ^ 63
below_half [] short low = omega arith
below_half (b ∷ bs) short low =
    let h = fold_below (0 * 256 + b % 256) bs in
    let p = pow_256 (length bs) (omega arith) in
    let few : 0 * 256 + b % 256 + 1 ≤ 128 = omega arith in
    let wider = mul-le-mul_right (256 ^ length bs) few in
    omega (arith, h, wider, p)

pub complement_below_half : (bytes : List ℕ) → length bytes ≤ 8 → 128 ≤ get_or bytes 0 0
    → base 256 (map (λ x. 255 - x) bytes) < 2 ^ 63
complement_below_half [] short high = absurd (omega arith)
complement_below_half (b ∷ bs) short high =
    below_half (map (λ x. 255 - x) (b ∷ bs)) (omega (arith, length-map bs (λ x. 255 - x))) (omega arith)

pub signed_low : (bytes : List ℕ) (n : ℕ) → get_or bytes 0 0 < 128 → n ≡ base 256 bytes → n < 2 ^ 63
    → to_z w64 n ≡ signed bytes
signed_low bytes n low e lt =
    let t : ltb (get_or bytes 0 0) 128 ≡ true = lt-ltb _ _ low in
    rw t (to_z_pos w64 n lt ∙ ap pos e)

pub signed_high : (bytes : List ℕ) (n : ℕ) → 128 ≤ get_or bytes 0 0 → n ≡ base 256 (map (λ x. 255 - x) bytes)
    → n < 2 ^ 63 → to_z w64 (of_z w64 (negsuc 0 -ℤ to_z w64 n)) ≡ signed bytes
signed_high bytes n high e lt =
    let t : ltb (get_or bytes 0 0) 128 ≡ false = le-ltb _ _ high in
    let z : to_z w64 (of_z w64 (negsuc 0 -ℤ to_z w64 n)) ≡ negsuc n = omega (arith, ints) in
    rw t (z ∙ ap negsuc e)
