-- Indicators with one of them set or cleared.
use Rattle.std.proofs.Common.{◌≡◌, ℕ, ◌+◌, ◌-◌, ◌*◌, ◌%◌, ◌^◌, ◌<◌}
use Rattle.std.proofs.Common.{Bool, true, false}
use Rattle.std.proofs.Common.{ap, subst, ◌∙◌, arith}
use Rattle.std.specs.Prelude.{if◌then◌else◌}
use Rattle.std.proofs.Math.Nat.{mod-eq_of_lt}
use Rattle.std.proofs.Math.Pow.{pow-lt}
use Rattle.mta_ber.specs.Bits.{BitString, bit}
use Rattle.mta_ber.proofs.BitLaws.{fits_64}
use Rattle.mta_envelope_common.specs.Indicators.{IsIndicators}
use Rattle.mta_procedures.specs.Bits.{weight, with_word, with_set}
use Rattle.mta_procedures.proofs.SetLaws.{set_fits}

pub shifted : (k : ℕ) → k < 64 → 1 * 2 ^ k % 2 ^ 64 ≡ 2 ^ k
shifted k h =
    let one : 1 * 2 ^ k ≡ 2 ^ k = omega arith in
    ap (λ x. x % 2 ^ 64) one ∙ mod-eq_of_lt (pow-lt h)

-- ---- a bit that is set

pub set_already : (place : ℕ) (b : BitString) → bit b place ≡ true → with_set place b ≡ b
set_already place b e = ap (λ v. if v then b else with_word b (b.word + weight b place)) e

pub set_now : (place : ℕ) (b : BitString) → bit b place ≡ false
    → with_set place b ≡ with_word b (b.word + weight b place)
set_now place b e = ap (λ v. if v then b else with_word b (b.word + weight b place)) e

pub set_room : (place : ℕ) (b : BitString) → place < 8 → IsIndicators b → bit b place ≡ false
    → b.word + weight b place < 2 ^ b.count
set_room place b small i e =
    let whole : IsIndicators (with_word b (b.word + weight b place)) =
    subst (λ (v : Bool). IsIndicators (if v then b else with_word b (b.word + weight b place))) e
    (set_fits place b small i) in
    whole.within

pub set_fits_64 : (place : ℕ) (b : BitString) → place < 8 → IsIndicators b → bit b place ≡ false
    → b.word + weight b place < 2 ^ 64
set_fits_64 place b small i e = fits_64 (b.word + weight b place) b.count (set_room place b small i e) i.at_most

pub ruleset set_steps = (set_already, set_now, set_room, set_fits_64, set_fits)
