-- Numbers, words and octets are read exactly where they are spelled.
use Rattle.std.proofs.Common.{◌≡◌, ℕ, zero, suc, ◌≤◌, Bool, true, false, cond, eqb, ltb, length, Result, Ok, refl, sym}
use Rattle.std.proofs.Common.{ap, subst, ◌∙◌, arith, ℤ, pos, negsuc}
use Rattle.std.specs.Prelude.{unsigned_abs, not, ◌||◌}
use Rattle.std.proofs.lemmas.Bool.{ltb-false, le-ltb}
use Rattle.mta_ber.specs.declared.fault.Fault.{Fault}
use Rattle.mta_ber.specs.declared.fault.Kind.TheVariants.{BadSize}
use Rattle.mta_ber.specs.declared.text.TextClass.TheVariants.{Ia5}
use Rattle.mta_ber.specs.Head.{◌>>=◌, fault}
use Rattle.mta_ber.specs.Element.{Part}
use Rattle.mta_ber.specs.Int.{in_range, int_in, SpellsInteger}
use Rattle.mta_ber.specs.Strings.{own_number, joined}
use Rattle.mta_ber.specs.Times.{utc_in}
use Rattle.mta_ber.proofs.Steps.{bind_ok, passed, ok_is}
use Rattle.mta_ber.proofs.HeadLaws.{or_false}
use Rattle.mta_ber.proofs.IntLaws.{int_sound, int_full}
use Rattle.mta_ber.proofs.StringLaws.{joined_sound, joined_full, text_sound, text_full}
use Rattle.mta_ber.proofs.MomentLaws.{utc_sound, utc_full}
use Rattle.mta_ber.proofs.ExplicitLaws.{ReadSound, ReadFull}
use Rattle.mta_rtse.specs.Values.{last_number, bounded_in, number_in, flag_in, octets_in, word_in}
use Rattle.mta_rtse.specs.Spelling.{SpellsNumber, SpellsFlag, SpellsShort, SpellsTime, SpellsWord, SpellsAnything}
use Rattle.mta_rtse.proofs.Slots.{pass}

-- a number of a range from 0 on is its distance from 0
not_below : (high : ℕ) (i : ℤ) → in_range (pos 0) (pos high) i ≡ true → pos (unsigned_abs i) ≡ i
not_below high (pos n) e = refl
not_below high (negsuc n) e = absurd cc

bounded_sound : (high : ℕ) (p : Part) (n : ℕ) → bounded_in high p ≡ Ok n
    → SpellsInteger (pos 0) (pos high) p.tag.constructed p.content (pos n)
bounded_sound high p n e =
    let i = bind_ok (int_in p.at p.tag.constructed (pos 0) (pos high) p.content) (λ n. Ok (unsigned_abs n)) n e in
    let s = int_sound p.at p.tag.constructed (pos 0) (pos high) p.content i.0 i.1 in
    let is : i.0 ≡ pos n = sym (not_below high i.0 s.range) ∙ ap pos (ok_is (unsigned_abs i.0) n i.2) in
    subst (SpellsInteger (pos 0) (pos high) p.tag.constructed p.content) is s

bounded_full : (high : ℕ) (p : Part) (n : ℕ) → SpellsInteger (pos 0) (pos high) p.tag.constructed p.content (pos n)
    → bounded_in high p ≡ Ok n
bounded_full high p n h = ap (λ r. r >>= λ n. Ok (unsigned_abs n))
    (int_full p.at p.tag.constructed (pos 0) (pos high) p.content (pos n) h)

pub number_sound : ReadSound number_in SpellsNumber
unfolding number_in
number_sound n p shallow octets own e = bounded_sound last_number p n e

pub number_full : ReadFull number_in SpellsNumber
unfolding number_in
number_full n p shallow h = bounded_full last_number p n h

abbrev one_or_none : Bool → ℕ
one_or_none b = cond b 1 0

as_flag : (n : ℕ) → n ≤ 1 → one_or_none (eqb n 1) ≡ n
as_flag zero le = refl
as_flag (suc zero) le = refl
as_flag (suc (suc n)) le = absurd (omega arith)

not_true : (b : Bool) → not b ≡ true → b ≡ false
not_true true e = absurd cc
not_true false e = refl

at_most_one : (n : ℕ) → in_range (pos 0) (pos 1) (pos n) ≡ true → n ≤ 1
at_most_one n e = ltb-false 1 n (or_false (ltb n 0) (ltb 1 n) (not_true (ltb n 0 || ltb 1 n) e)).1

pub flag_sound : ReadSound flag_in SpellsFlag
unfolding flag_in
flag_sound b p shallow octets own e =
    let n = bind_ok (bounded_in 1 p) (λ n. Ok (eqb n 1)) b e in
    let s = bounded_sound 1 p n.0 n.1 in
    let flag = ok_is (eqb n.0 1) b n.2 in
    let is : n.0 ≡ one_or_none b = sym (as_flag n.0 (at_most_one n.0 s.range)) ∙ ap one_or_none flag in
    subst (λ m. SpellsInteger (pos 0) (pos 1) p.tag.constructed p.content (pos m)) is s

flag_again : (b : Bool) → eqb (one_or_none b) 1 ≡ b
flag_again true = refl
flag_again false = refl

pub flag_full : ReadFull flag_in SpellsFlag
unfolding flag_in
flag_full b p shallow h = ap (λ r. r >>= λ n. Ok (eqb n 1)) (bounded_full 1 p (one_or_none b) h)
    ∙ ap (λ x. Ok x) (flag_again b)

pub short_sound : (most : ℕ) → ReadSound (octets_in most) (SpellsShort most)
unfolding octets_in
short_sound most o p shallow octets own e =
    let j = bind_ok (joined p) (λ o. cond (ltb most (length o)) (fault p.at BadSize) (Ok o)) o e in
    let c = passed (ltb most (length j.0)) _ _ o j.2 in
    let s = joined_sound (own_number p.tag) p j.0 shallow octets j.1 in
    subst (SpellsShort most p.depth p.tag p.content p.octets) (ok_is j.0 o c.1)
    (record { spelled = s; short = ltb-false most (length j.0) c.0 })

pub short_full : (most : ℕ) → ReadFull (octets_in most) (SpellsShort most)
unfolding octets_in
short_full most o p shallow h =
    ap (λ r. r >>= λ o. cond (ltb most (length o)) (fault p.at BadSize) (Ok o))
    (joined_full (own_number p.tag) p o shallow h.spelled)
    ∙ pass _ (le-ltb most (length o) h.short) refl

pub time_sound : ReadSound utc_in SpellsTime
time_sound m p shallow octets own e = utc_sound p m shallow octets e

pub time_full : ReadFull utc_in SpellsTime
time_full m p shallow h = utc_full p m shallow h

pub word_sound : ReadSound word_in SpellsWord
word_sound w p shallow octets own e = text_sound Ia5 1 32 p w shallow octets e

pub word_full : ReadFull word_in SpellsWord
word_full w p shallow h = text_full Ia5 1 32 p w shallow h

abbrev pub nothing_read : Part → Result (Unit {0}) Fault
nothing_read p = Ok tt

pub anything_sound : ReadSound nothing_read SpellsAnything
anything_sound x p shallow octets own e = tt

pub anything_full : ReadFull nothing_read SpellsAnything
anything_full x p shallow h = refl
