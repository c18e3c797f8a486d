-- A number is read exactly where it is spelled.
use Rattle.std.proofs.Common.{◌≡◌, ℕ, Bool, true, false, ltb, List, length, Ok, refl, sym, ap, subst, ℤ}
use Rattle.std.specs.Prelude.{not, ◌||◌}
use Rattle.std.proofs.lemmas.Bool.{le-ltb, ltb-false}
use Rattle.mta_ber.specs.Int.{is_short, signed, in_range, int_in, SpellsInteger}
use Rattle.mta_ber.proofs.Steps.{passed, ok_is}
use Rattle.mta_ber.proofs.HeadLaws.{or_false}

not_so : (b : Bool) → not b ≡ false → b ≡ true
not_so true e = refl
not_so false e = absurd cc

pub int_sound : (at : ℕ) (c : Bool) (low high : ℤ) (content : List ℕ) (n : ℤ) → int_in at c low high content ≡ Ok n
    → SpellsInteger low high c content n
unfolding int_in
int_sound at c low high content n e =
    let a = passed c _ _ n e in
    let b = passed (not (is_short content) || ltb 8 (length content) || not (in_range low high (signed content))) _ _ n
    a.1 in
    let o = or_false (not (is_short content) || ltb 8 (length content))
    (not (in_range low high (signed content))) b.0 in
    let q = or_false (not (is_short content)) (ltb 8 (length content)) o.0 in
    let value = ok_is (signed content) n b.1 in
    record {
      primitive = a.0;
      short = not_so (is_short content) q.0;
      few = ltb-false 8 (length content) q.1;
      value =
          sym value;
      range = subst (λ k. in_range low high k ≡ true) value
          (not_so (in_range low high (signed content)) o.1);
    }

pub int_full : (at : ℕ) (c : Bool) (low high : ℤ) (content : List ℕ) (n : ℤ) → SpellsInteger low high c content n
    → int_in at c low high content ≡ Ok n
unfolding int_in
int_full at c low high content n h =
    let few : ltb 8 (length content) ≡ false = le-ltb 8 (length content) h.few in
    let range : in_range low high (signed content) ≡ true = subst (λ k. in_range low high k ≡ true) h.value h.range in
    rw (h.primitive, h.short, few, range) (ap (λ (x : ℤ). Ok x) (sym h.value))
