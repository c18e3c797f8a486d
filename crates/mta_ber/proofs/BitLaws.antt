-- Bits as numbers.
use Rattle.std.proofs.Common.{◌≡◌, ℕ, zero, suc, ◌+◌, ◌*◌, ◌-◌, ◌/◌, ◌%◌, ◌≤◌, ◌<◌, ◌^◌, Bool, true, List, [], ◌∷◌}
use Rattle.std.proofs.Common.{length, refl, sym, ap, ◌∙◌, arith}
use Rattle.std.proofs.Math.Nat.{pow-succ', mul-le-mul_right, pow-le-pow_right, one-le-pow, div-lt_iff_lt-mul}
use Rattle.std.proofs.Math.Nat.{mod-eq_of_lt}
use Rattle.std.proofs.lemmas.Nat.{pow-add, shl_below}
use Rattle.std.proofs.lemmas.Bool.Decides.{nat_tests}
use Rattle.mta_ber.specs.Head.{base}
use Rattle.mta_ber.specs.Bits.{good_unused}
use Rattle.mta_ber.proofs.Numbers.{fold_below}

pub shifted_room : (w c z : ℕ) → w < 2 ^ c → w * 2 ^ z + 2 ^ z ≤ 2 ^ (c + z)
shifted_room w c z lt =
    let next : w + 1 ≤ 2 ^ c = omega arith in
    let wider = mul-le-mul_right (2 ^ z) next in
    rw (pow-add 2 c z) (omega (arith, wider))

pub shifted_fits : (w c z : ℕ) → w < 2 ^ c → c + z ≤ 64 → (w * 2 ^ z) % 2 ^ 64 ≡ w * 2 ^ z
shifted_fits w c z lt few =
    let below = shl_below w c z lt in
    let most = pow-le-pow_right {n = 2} (omega arith) few in
    mod-eq_of_lt (omega (arith, below, most))

pub octets_as_bits : (n : ℕ) → 256 ^ n ≡ 2 ^ (8 * n)
octets_as_bits zero = refl
octets_as_bits (suc n) =
    let e : 8 * suc n ≡ 8 + 8 * n = omega arith in
    pow-succ' 256 n ∙ ap (λ x. 256 * x) (octets_as_bits n) ∙ sym (ap (λ k. 2 ^ k) e ∙ pow-add 2 8 (8 * n))

pub number_below : (unused : ℕ) (octets : List ℕ) → unused ≤ 8 * length octets
    → base 256 octets / 2 ^ unused < 2 ^ (8 * length octets - unused)
number_below unused octets few =
    let whole = fold_below 0 octets in
    let e = octets_as_bits (length octets) in
    let split : 8 * length octets ≡ 8 * length octets - unused + unused = omega arith in
    let p = ap (λ k. 2 ^ k) split ∙ pow-add 2 (8 * length octets - unused) unused in
    (div-lt_iff_lt-mul (one-le-pow unused 2 (omega arith))).1 (omega (arith, whole, e, p))

pub few_unused : (last : Bool) (unused : ℕ) (octets : List ℕ) → good_unused last unused octets ≡ true → (unused < 8)
    × (unused ≤ 8 * length octets)
few_unused last unused [] e = grind (arith, nat_tests)
few_unused last unused (o ∷ os) e = grind (arith, nat_tests)

-- bits behind others are a number of as many digits
pub joined_below : (count s number unused : ℕ) (octets : List ℕ) → unused ≤ 8 * length octets → number ≡ base 256 octets
    → s + 2 ^ (8 * length octets - unused) ≤ 2 ^ (count + (8 * length octets - unused))
    → s + number / 2 ^ unused < 2 ^ (count + (8 * length octets - unused))
joined_below count s number unused octets few e room =
    let n = number_below unused octets few in
    omega (arith, room, n, ap (λ x. x / 2 ^ unused) e)

pub fits_64 : (n k : ℕ) → n < 2 ^ k → k ≤ 64 → n < 2 ^ 64
fits_64 n k lt few = let most = pow-le-pow_right {n = 2} (omega arith) few in omega (arith, lt, most)
