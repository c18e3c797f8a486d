-- Indicators with responsibility set or cleared.
use Rattle.std.proofs.Common.{◌≡◌, ◌+◌, ◌-◌, ◌/◌, ◌%◌, ◌^◌, ◌<◌, ◌≤◌, Bool, true, false}
use Rattle.std.proofs.Common.{refl, ap, subst, ◌∙◌, arith, inl, inr}
use Rattle.std.specs.Prelude.{if◌then◌else◌, ◌&&◌, ◌==◌, nat_lt}
use Rattle.std.proofs.Math.Nat.{div-eq_of_lt}
use Rattle.std.proofs.lemmas.Bool.{cases_lt}
use Rattle.mta_ber.specs.Bits.{BitString, bit}
use Rattle.mta_ber.proofs.BitLaws.{fits_64}
use Rattle.mta_envelope_common.specs.Indicators.{IsIndicators}
use Rattle.mta_procedures.specs.Bits.{weight, with_word, with_responsibility}
use Rattle.mta_procedures.proofs.BitLaws.{responsibility_said}

pub kept_so : (c : Bool) (b : BitString) → bit b 0 ≡ c → with_responsibility c b ≡ b
unfolding with_responsibility
kept_so true b e = ap (λ v. if v then b else with_word b (b.word + weight b 0)) e
kept_so false b e = ap (λ v. if v then with_word b (b.word - weight b 0) else b) e

pub set_so : (b : BitString) → bit b 0 ≡ false → with_responsibility true b ≡ with_word b (b.word + weight b 0)
unfolding with_responsibility
set_so b e = ap (λ v. if v then b else with_word b (b.word + weight b 0)) e

pub clear_so : (b : BitString) → bit b 0 ≡ true → with_responsibility false b ≡ with_word b (b.word - weight b 0)
unfolding with_responsibility
clear_so b e = ap (λ v. if v then with_word b (b.word - weight b 0) else b) e

-- ---- within the range of their words

pub set_room : (b : BitString) → IsIndicators b → bit b 0 ≡ false → b.word + weight b 0 < 2 ^ b.count
set_room b i e =
    let whole : IsIndicators (with_word b (b.word + weight b 0)) =
    subst IsIndicators (set_so b e) (responsibility_said true b i).indicators in
    whole.within

pub set_fits_64 : (b : BitString) → IsIndicators b → bit b 0 ≡ false → b.word + weight b 0 < 2 ^ 64
set_fits_64 b i e = fits_64 (b.word + weight b 0) b.count (set_room b i e) i.at_most

and_false : (x : Bool) → (x && false) ≡ false
and_false true = refl
and_false false = refl

no_bit : (b : BitString) → b.word / weight b 0 ≡ 0 → bit b 0 ≡ false
no_bit b e = ap (λ x. nat_lt 0 b.count && (x % 2 == 1)) e ∙ and_false (nat_lt 0 b.count)

pub clear_room : (b : BitString) → bit b 0 ≡ true → weight b 0 ≤ b.word
clear_room b e = elim (cases_lt b.word (weight b 0)) [
  | inl lt ↦ absurd (cc (no_bit b (div-eq_of_lt lt), e))
  | inr le ↦ le
]

pub clear_within : (b : BitString) → IsIndicators b → b.word - weight b 0 < 2 ^ b.count
clear_within b i = omega (arith, i.within)

pub ruleset responsibility_steps = (kept_so, set_so, clear_so, set_room, set_fits_64, clear_room, clear_within)
