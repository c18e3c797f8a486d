-- How many messages have a break: two of three.
use Rattle.std.proofs.Common.{◌≡◌, ℕ, zero, suc, ◌+◌, ◌-◌, ◌*◌, ◌/◌, ◌%◌, ◌<◌, ◌≤◌, Option, None, Some, refl, sym, ap}
use Rattle.std.proofs.Common.{◌∙◌, ◌⊎◌, inl, inr, Bool, true, false, eqb, eqb-true, eq-eqb, arith}
use Rattle.std.specs.Int.{from_bool}
use Rattle.std.proofs.lemmas.Bool.{false≢true}
use Rattle.mta_drill_text.specs.declared.breaks.Break.{Break}
use Rattle.mta_drill_text.specs.Breaks.{break_by, break_of, breaks_up_to, count_of}

-- three more messages have two breaks more
one_more : (n r : ℕ) → (n + 1) % 3 ≡ r → breaks_up_to (n + 1) ≡ breaks_up_to n + count_of (break_by r)
unfolding breaks_up_to
one_more n r h =
    let e : n + 1 ≡ suc n = omega arith in
    ap breaks_up_to e ∙ ap (λ x. breaks_up_to n + count_of (break_by x)) (ap (λ x. x % 3) (sym e) ∙ h)

pub none : breaks_up_to 0 ≡ 0
unfolding breaks_up_to
none = refl

-- of three times as many messages
thirds : (q : ℕ) → breaks_up_to (3 * q) ≡ 2 * q
thirds zero = none
thirds (suc q) =
    let first : (3 * q + 1) % 3 ≡ 1 = omega arith in
    let second : (3 * q + 1 + 1) % 3 ≡ 2 = omega arith in
    let third : (3 * q + 1 + 1 + 1) % 3 ≡ 0 = omega arith in
    let e : 3 * suc q ≡ 3 * q + 1 + 1 + 1 = omega arith in
    let f : 2 * q + 1 + 0 + 1 ≡ 2 * suc q = omega arith in
    ap breaks_up_to e ∙ one_more (3 * q + 1 + 1) 0 third
    ∙ ap (λ x. x + 1) (one_more (3 * q + 1) 2 second ∙ ap (λ x. x + 0) (one_more (3 * q) 1 first
    ∙ ap (λ x. x + 1) (thirds q))) ∙ f

-- by the remainder
by_remainder : (q r n : ℕ) → n ≡ 3 * q + r → r < 3 → (r ≡ 0 → breaks_up_to n ≡ 2 * q)
    × (r ≡ 1 → breaks_up_to n ≡ 2 * q + 1) × (r ≡ 2 → breaks_up_to n ≡ 2 * q + 1)
by_remainder q r n h small = (
  (λ e. let same : n ≡ 3 * q = omega (arith, h, e) in ap breaks_up_to same ∙ thirds q),
  (λ e.
      let same : n ≡ 3 * q + 1 = omega (arith, h, e) in
      let first : (3 * q + 1) % 3 ≡ 1 = omega arith in
      ap breaks_up_to same ∙ one_more (3 * q) 1 first ∙ ap (λ x. x + 1) (thirds q)),
  λ e.
      let same : n ≡ 3 * q + 1 + 1 = omega (arith, h, e) in
      let first : (3 * q + 1) % 3 ≡ 1 = omega arith in
      let second : (3 * q + 1 + 1) % 3 ≡ 2 = omega arith in
      let f : 2 * q + 1 + 0 ≡ 2 * q + 1 = omega arith in
      ap breaks_up_to same ∙ one_more (3 * q + 1) 2 second ∙ ap (λ x. x + 0) (one_more (3 * q) 1 first
      ∙ ap (λ x. x + 1) (thirds q)) ∙ f,
)

one_at_most : (b : Option Break) → count_of b ≤ 1
one_at_most None = omega arith
one_at_most (Some place) = omega arith

-- there are no more breaks than messages
pub few_breaks : (n : ℕ) → breaks_up_to n ≤ n
unfolding breaks_up_to
few_breaks zero = omega arith
few_breaks (suc n) = let before = few_breaks n in let here = one_at_most (break_of (suc n)) in
    omega (arith, before, here)

-- and none is made good later
pub more_breaks : (n k : ℕ) → breaks_up_to n ≤ breaks_up_to (n + k)
unfolding breaks_up_to
more_breaks n zero = let e : n + 0 ≡ n = omega arith in omega (arith, ap breaks_up_to e)
more_breaks n (suc k) =
    let e : n + suc k ≡ suc (n + k) = omega arith in
    let before = more_breaks n k in
    omega (arith, before, ap breaks_up_to e)

below_two : (r : ℕ) → r < 3 → (r ≡ 2 → ⊥) → (r ≡ 0) ⊎ (r ≡ 1)
below_two zero small other = inl refl
below_two (suc zero) small other = inr refl
below_two (suc (suc r)) small other = absurd (other (omega (arith, small)))

-- where the remainder is 2, and where it is not
of_two : (n : ℕ) → n % 3 ≡ 2 → n - n / 3 - 1 ≡ breaks_up_to n
of_two n r =
    let e : n ≡ 3 * (n / 3) + 2 = omega (arith, r) in
    let h = (by_remainder (n / 3) 2 n e (omega arith)).2 refl in
    omega (arith, h, e)

of_others : (n : ℕ) → (n % 3 ≡ 2 → ⊥) → n - n / 3 - 0 ≡ breaks_up_to n
of_others n other =
    let small : n % 3 < 3 = omega arith in
    let e : n ≡ 3 * (n / 3) + n % 3 = omega arith in
    let h = by_remainder (n / 3) (n % 3) n e small in
    elim (below_two (n % 3) small other) [
      | inl zero_is ↦ let g = h.0 zero_is in omega (arith, g, e, zero_is)
      | inr one_is ↦ let g = h.1 one_is in omega (arith, g, e, one_is)
    ]

by_test : (n : ℕ) (b : Bool) → b ≡ eqb (n % 3) 2 → n - n / 3 - from_bool b ≡ breaks_up_to n
by_test n true e = of_two n (eqb-true (n % 3) 2 (sym e))
by_test n false e = of_others n (λ r. false≢true (e ∙ eq-eqb (n % 3) 2 r))

-- all but a third of them, and of the last two one
pub breaks_are : (n : ℕ) → n - n / 3 - from_bool (eqb (n % 3) 2) ≡ breaks_up_to n
breaks_are n = by_test n (eqb (n % 3) 2) refl
