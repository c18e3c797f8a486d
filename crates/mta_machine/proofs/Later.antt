-- What a run of the machine leaves as it was, and what a run of failures leaves.
use Rattle.std.proofs.Common.{◌≡◌, ℕ, zero, suc, ◌+◌, ◌≤◌, Bool, true, false, cond, eqb, List, []}
use Rattle.std.proofs.Common.{◌∷◌, ◌++◌, length, map, Option, Some, None, refl, sym, ap, ◌∙◌, arith}
use Rattle.std.proofs.Common.{inl, inr, length-append}
use Rattle.std.specs.Prelude.{◌&&◌, ◌||◌}
use Rattle.std.proofs.Math.ListN.{length-set}
use Rattle.std.proofs.lemmas.Bool.{cases_Bool}
use Rattle.mta_records.specs.declared.state.Status.{Status}
use Rattle.mta_records.specs.declared.state.Status.TheVariants.{Pending, Delivered, Expanded, Sent, Reported, Affirmed}
use Rattle.mta_records.specs.declared.state.Status.TheVariants.{Discarded, Passed}
use Rattle.mta_machine.specs.Items.{ItemValue, Machine, numbered, set_numbered, names, status_at, is_pending}
use Rattle.mta_machine.specs.Items.{is_pending_at, is_reported, is_reported_at, has_status}
use Rattle.mta_machine.specs.Rules.{Failure}
use Rattle.mta_machine.specs.Machine.{failed, MachineStep, set_tables, set_format, accept, discharge, machine_after}
use Rattle.mta_machine.specs.Machine.{machine_run}
use Rattle.mta_machine.specs.Machine.{IsRun, discharges, discharges_one, status_after, items_after, discharged_item}
use Rattle.mta_machine.proofs.Steps.{settled_count, stays, becomes}
use Rattle.mta_machine.proofs.Once.{run-counts, discharges-cons, pending-is}

-- ---- runs one after the other

pub run-append : (m : Machine) (xs ys : List MachineStep) → IsRun m xs → IsRun (machine_run m xs) ys
    → IsRun m (xs ++ ys)
run-append m [] ys p q = q
run-append m (x ∷ xs) ys p q = (p.0, run-append (machine_after m x) xs ys p.1 q)

pub machine_run-append : (m : Machine) (xs ys : List MachineStep)
    → machine_run m (xs ++ ys) ≡ machine_run (machine_run m xs) ys
machine_run-append m [] ys = refl
machine_run-append m (x ∷ xs) ys = machine_run-append (machine_after m x) xs ys

-- ---- who is not discharged

none-of-two : (b : Bool) (n : ℕ) → cond b 1 0 + n ≡ 0 → (b ≡ false) × (n ≡ 0)
none-of-two true n e = absurd (omega arith)
none-of-two false n e = (refl, omega arith)

pub run-stays : (m : Machine) (steps : List MachineStep) (i r : ℕ) (x : Option Status)
    → discharges steps i r ≡ 0 → status_at m i r ≡ Some x → status_at (machine_run m steps) i r ≡ Some x
run-stays m [] i r x none e = e
run-stays m (step ∷ steps) i r x none e =
    let parts = none-of-two (discharges_one i r step) (discharges steps i r)
    (sym (discharges-cons step steps i r) ∙ none) in
    run-stays (machine_after m step) steps i r x parts.1 (stays m step i r x parts.0 e)

pub pending-stays : (m : Machine) (steps : List MachineStep) (i r : ℕ) → discharges steps i r ≡ 0
    → is_pending_at m i r ≡ true → is_pending_at (machine_run m steps) i r ≡ true
pending-stays m steps i r none e =
    let p = pending-is (status_at m i r) e in
    ap (has_status is_pending) (run-stays m steps i r (Some p.0) none p.1) ∙ p.2

settled-most : (o : Option (Option Status)) → settled_count o ≤ 1
settled-most None = omega arith
settled-most (Some None) = omega arith
settled-most (Some (Some s)) = by_test (is_pending s)
  where
    by_test : (b : Bool) → cond b 0 1 ≤ 1
    by_test true = omega arith
    by_test false = omega arith

reported-settled : (s : Status) → is_reported s ≡ true → is_pending s ≡ false
reported-settled Pending e = absurd cc
reported-settled (Delivered moment) e = absurd cc
reported-settled (Expanded moment) e = absurd cc
reported-settled (Sent moment peer) e = absurd cc
reported-settled (Reported moment reason diagnostic) e = refl
reported-settled (Affirmed moment) e = absurd cc
reported-settled (Discarded moment) e = refl
reported-settled (Passed moment) e = absurd cc

reported-is : (o : Option (Option Status)) → has_status is_reported o ≡ true → (s : Status)
    × (o ≡ Some (Some s)) × (is_reported s ≡ true)
reported-is None e = absurd cc
reported-is (Some None) e = absurd cc
reported-is (Some (Some s)) e = (s, refl, e)

-- who was reported is so for good
pub reported-stays : (m : Machine) (steps : List MachineStep) (i r : ℕ) → IsRun m steps
    → is_reported_at m i r ≡ true → is_reported_at (machine_run m steps) i r ≡ true
reported-stays m steps i r run e =
    let p = reported-is (status_at m i r) e in
    let was : settled_count (status_at m i r) ≡ 1 =
    ap settled_count p.1 ∙ ap (λ (b : Bool). cond b 0 1) (reported-settled p.0 p.2) in
    let none : discharges steps i r ≡ 0 =
    omega (arith, was, run-counts m steps i r run, settled-most (status_at (machine_run m steps) i r)) in
    ap (has_status is_reported) (run-stays m steps i r (Some p.0) none p.1) ∙ p.2

-- ---- failures, one recipient after the other

abbrev pub fail_all : Failure → ℕ → ℕ → List ℕ → List MachineStep
fail_all failure moment i rs = map (λ r. discharge i (r ∷ []) (failed failure) moment) rs

failed-reported : (b : Bool) (failure : Failure) (moment : ℕ)
    → is_reported (status_after b (failed failure) moment) ≡ true
failed-reported true failure moment = refl
failed-reported false failure moment = refl

pub fail-others : (failure : Failure) (moment j : ℕ) (rs : List ℕ) (i r : ℕ)
    → (eqb i j && names rs r) ≡ false → discharges (fail_all failure moment j rs) i r ≡ 0
fail-others failure moment j [] i r others = refl
fail-others failure moment j (q ∷ rs) i r others =
    let rest = fail-others failure moment j rs i r (later (eqb i j) (eqb r q) (names rs r) others) in
    let first : (eqb i j && (eqb r q || false)) ≡ false = now (eqb i j) (eqb r q) (names rs r) others in
    let first_count : ◌≡◌ {A = ℕ} (cond (eqb i j && (eqb r q || false)) 1 0) 0 =
    ap (λ (b : Bool). cond b 1 0) first in
    omega (
      arith,
      first_count,
      rest,
      discharges-cons (discharge j (q ∷ []) (failed failure) moment)
          (fail_all failure moment j rs) i r,
    )
  where
    later : (a b c : Bool) → (a && (b || c)) ≡ false → (a && c) ≡ false
    later true true c e = absurd cc
    later true false c e = e
    later false b c e = refl

    now : (a b c : Bool) → (a && (b || c)) ≡ false → (a && (b || false)) ≡ false
    now true true c e = absurd cc
    now true false c e = refl
    now false b c e = refl

pub fail-reported : (m : Machine) (failure : Failure) (moment i : ℕ) (rs : List ℕ) (r : ℕ)
    → IsRun m (fail_all failure moment i rs) → names rs r ≡ true
    → is_reported_at (machine_run m (fail_all failure moment i rs)) i r ≡ true
fail-reported m failure moment i [] r run named = absurd cc
fail-reported m failure moment i (q ∷ rs) r run named = elim (cases_Bool (eqb r q)) [
  | inl same ↦ (
      let here : names (q ∷ []) r ≡ true = or_from_left (eqb r q) false same in
      let p = pending-is (status_at m i r) (run.0.0 r here) in
      let b = becomes m i (q ∷ []) (failed failure) moment i r (Some p.0) refl here p.1 in
      reported-stays (machine_after m (discharge i (q ∷ []) (failed failure) moment))
      (fail_all failure moment i rs) i r run.1
      (ap (has_status is_reported) b.1 ∙ failed-reported b.0 failure moment))
  | inr apart ↦ fail-reported
      (machine_after m (discharge i (q ∷ []) (failed failure) moment)) failure moment i rs r run.1
      (behind (eqb r q) (names rs r) apart named)
]
  where
    or_from_left : (a b : Bool) → a ≡ true → (a || b) ≡ true
    or_from_left true b e = refl
    or_from_left false b e = absurd cc

    behind : (a b : Bool) → a ≡ false → (a || b) ≡ true → b ≡ true
    behind true b isnt both = absurd cc
    behind false b isnt both = both

-- ---- numbers of items

pub length-set_numbered : {A : Type 0} (xs : List A) (n : ℕ) (x : A) → length (set_numbered xs n x) ≡ length xs
length-set_numbered xs zero x = refl
length-set_numbered xs (suc n) x = length-set xs n x

grow : (xs ys : List ItemValue) → length xs ≤ length (xs ++ ys)
grow xs ys = omega (arith, length-append xs ys)

further : (xs ys more : List ItemValue) → length xs ≡ length ys → length xs ≤ length (ys ++ more)
further xs ys more e = omega (arith, length-append ys more)

items-grow-one : (m : Machine) (step : MachineStep) → length m.items ≤ length (machine_after m step).items
items-grow-one m (set_tables text) = omega arith
items-grow-one m set_format = omega arith
items-grow-one m (accept octets origin moment) = grow m.items _
items-grow-one m (discharge i rs how moment) = by_item (numbered m.items i)
  where
    by_item : (o : Option ItemValue) → length m.items ≤ length (items_after m o i rs how moment)
    by_item None = omega arith
    by_item (Some item) = further m.items (set_numbered m.items i (discharged_item item rs how moment)) _
        (sym (length-set_numbered m.items i (discharged_item item rs how moment)))

-- item numbers never fall
pub items-grow : (m : Machine) (steps : List MachineStep) → length m.items ≤ length (machine_run m steps).items
items-grow m [] = omega arith
items-grow m (step ∷ steps) = omega (arith, items-grow-one m step, items-grow (machine_after m step) steps)

-- ---- moments

-- each step that has a moment has this one
abbrev pub AreAt : ℕ → List MachineStep → Type 0
AreAt moment [] = Unit {0}
AreAt moment (set_tables text ∷ steps) = AreAt moment steps
AreAt moment (set_format ∷ steps) = AreAt moment steps
AreAt moment (accept octets origin t ∷ steps) = (t ≡ moment) × AreAt moment steps
AreAt moment (discharge i rs how t ∷ steps) = (t ≡ moment) × AreAt moment steps

pub moment-within : (m : Machine) (steps : List MachineStep) (moment : ℕ) → AreAt moment steps
    → m.moment ≤ moment → (machine_run m steps).moment ≤ moment
moment-within m [] moment at le = le
moment-within m (set_tables text ∷ steps) moment at le =
    moment-within (machine_after m (set_tables text)) steps moment at le
moment-within m (set_format ∷ steps) moment at le = moment-within (machine_after m set_format) steps moment at le
moment-within m (accept octets origin t ∷ steps) moment at le =
    moment-within (machine_after m (accept octets origin t)) steps moment at.1 (omega (arith, at.0))
moment-within m (discharge i rs how t ∷ steps) moment at le =
    moment-within (machine_after m (discharge i rs how t)) steps moment at.1 (omega (arith, at.0))

pub fail-at : (failure : Failure) (moment i : ℕ) (rs : List ℕ) → AreAt moment (fail_all failure moment i rs)
fail-at failure moment i [] = tt
fail-at failure moment i (r ∷ rs) = (refl, fail-at failure moment i rs)
