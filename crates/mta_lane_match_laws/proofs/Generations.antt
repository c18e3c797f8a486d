-- A generation of a lane begins once.
use Rattle.std.proofs.Common.{◌≡◌, ℕ, zero, suc, ◌≤◌, Bool, true, false, cond, eqb, List, [], ◌∷◌, ◌++◌, Some, None}
use Rattle.std.proofs.Common.{refl, sym, ap, subst, ◌∙◌, arith}
use Rattle.std.proofs.lemmas.Bool.{eqb-false}
use Rattle.mta_transfer_rules.specs.Lanes as h
use Rattle.mta_transfer_rules.specs.Lanes.{SeenStep, Seen, On, Elsewhere, LaneOpen, LaneAgree, Bind, Start, Confirm}
use Rattle.mta_transfer_rules.specs.Lanes.{To_end, Sent}
use Rattle.mta_transfer_rules.specs.Lanes.{Refused, Denied, Dropped, Abandon, Secure, Complete, Drop, CloseLane}
use Rattle.mta_transfer_rules.specs.Lanes.{Unopened, Open}
use Rattle.mta_transfer_rules.specs.Lanes.{Halves, Allows, halves_after, of_lane_all, lane_at_first, AreAllowed}
use Rattle.mta_lane_match_laws.specs.Generations.{Begins, BeginsAt, GenerationsBeginOnce}

module _ (spells : List ℕ → Bool) (n g : ℕ) where
  -- the generation was begun
  abbrev Past : Halves → Type 0
  Past l = (l.phase ≡ Unopened → ⊥) × (g ≤ l.generation)

  stays_past : (l : Halves) (step : SeenStep) → Allows spells l step → Past l → Past (halves_after l step)
  stays_past l (LaneOpen agreed size window) may p = absurd (p.0 may)
  stays_past l (Bind h) may p = (p.0, omega (arith, p.1, may.1))
  stays_past l (CloseLane h) may p = ((λ e. cc), p.1)
  stays_past l any1 may p = p

  none_begins : (l : Halves) (m : ℕ) (step : SeenStep) → Allows spells l step → Past l → Begins n g (On m step) → ⊥
  none_begins l m (LaneOpen agreed size window) may p b = p.0 may
  none_begins l m (Bind h) may p b = omega (arith, p.1, may.1, b.1)
  none_begins l m step may p b = b

  begun : (l : Halves) (m : ℕ) (step : SeenStep) → Allows spells l step → Begins n g (On m step)
      → Past (halves_after l step)
  begun l m (LaneOpen agreed size window) may b = ((λ e. cc), omega (arith, b.1))
  begun l m (Bind h) may b = ((λ e. let still : Open ≡ Unopened = sym may.0 ∙ e in cc), omega (arith, b.1))
  begun l m step may b = absurd b

  mine : (m : ℕ) (step : SeenStep) → Begins n g (On m step) → m ≡ n
  mine m (LaneOpen agreed size window) b = b.0
  mine m (Bind h) b = b.0
  mine m step b = absurd b

  -- the steps of the lane from a step on
  abbrev Of : Bool → SeenStep → List SeenStep → List SeenStep
  Of b step steps = cond b (step ∷ []) [] ++ steps

  rest_past : (l : Halves) (step : SeenStep) (steps : List SeenStep) (b : Bool) → AreAllowed spells l (Of b step steps)
      → Past l → (k : Halves) × AreAllowed spells k steps × Past k
  rest_past l step steps true may p = (halves_after l step, may.1, stays_past l step may.0 p)
  rest_past l step steps false may p = (l, may, p)

  rest : (l : Halves) (step : SeenStep) (steps : List SeenStep) (b : Bool) → AreAllowed spells l (Of b step steps)
      → (k : Halves) × AreAllowed spells k steps
  rest l step steps true may = (halves_after l step, may.1)
  rest l step steps false may = (l, may)

  first_allowed : (l : Halves) (m : ℕ) (step : SeenStep) (steps : List SeenStep) (b : Bool) → eqb m n ≡ b → m ≡ n
      → AreAllowed spells l (Of b step steps)
      → Allows spells l step × AreAllowed spells (halves_after l step) steps
  first_allowed l m step steps true test same may = may
  first_allowed l m step steps false test same may = absurd (eqb-false m n test same)

  not_first : (l : Halves) (m : ℕ) (step : SeenStep) (xs : List Seen)
      → AreAllowed spells l (of_lane_all n (On m step ∷ xs)) → Past l → Begins n g (On m step) → ⊥
  not_first l m step xs may p b =
      let first = first_allowed l m step (of_lane_all n xs) (eqb m n) refl (mine m step b) may in
      none_begins l m step first.0 p b

  first_is : (x : Seen) (xs : List Seen) → BeginsAt (x ∷ xs) zero n g → Begins n g x
  first_is x xs b =
      let at : Some x ≡ Some b.0 = b.1 in
      let same : b.0 ≡ x = cc in
      subst (Begins n g) same b.2

  none_later : (l : Halves) (xs : List Seen) → AreAllowed spells l (of_lane_all n xs) → Past l
      → (p : ℕ) → BeginsAt xs p n g → ⊥
  none_later l [] may past p b = absurd (let none : None ≡ Some b.0 = b.1 in cc)
  none_later l (Elsewhere ∷ xs) may past zero b = first_is Elsewhere xs b
  none_later l (h.Begins count lanes ∷ xs) may past zero b = first_is (h.Begins count lanes) xs b
  none_later l (On m step ∷ xs) may past zero b = not_first l m step xs may past (first_is (On m step) xs b)
  none_later l (Elsewhere ∷ xs) may past (suc p) b = none_later l xs may past p b
  none_later l (h.Begins count lanes ∷ xs) may past (suc p) b = none_later l xs may past p b
  none_later l (On m step ∷ xs) may past (suc p) b =
      let more = rest_past l step (of_lane_all n xs) (eqb m n) may past in
      none_later more.0 xs more.1 more.2 p b

  no_other : (l : Halves) (m : ℕ) (step : SeenStep) (xs : List Seen)
      → AreAllowed spells l (of_lane_all n (On m step ∷ xs)) → Begins n g (On m step)
      → (p : ℕ) → BeginsAt xs p n g → ⊥
  no_other l m step xs may b p later =
      let first = first_allowed l m step (of_lane_all n xs) (eqb m n) refl (mine m step b) may in
      none_later (halves_after l step) xs first.1 (begun l m step first.0 b) p later

  once : (l : Halves) (xs : List Seen) → AreAllowed spells l (of_lane_all n xs) → (p q : ℕ)
      → BeginsAt xs p n g → BeginsAt xs q n g → p ≡ q
  once l [] may p q a b = absurd (let none : None ≡ Some a.0 = a.1 in cc)
  once l (x ∷ xs) may zero zero a b = refl
  once l (Elsewhere ∷ xs) may zero (suc q) a b = absurd (first_is Elsewhere xs a)
  once l (h.Begins count lanes ∷ xs) may zero (suc q) a b = absurd (first_is (h.Begins count lanes) xs a)
  once l (On m step ∷ xs) may zero (suc q) a b = absurd (no_other l m step xs may (first_is (On m step) xs a) q b)
  once l (Elsewhere ∷ xs) may (suc p) zero a b = absurd (first_is Elsewhere xs b)
  once l (h.Begins count lanes ∷ xs) may (suc p) zero a b = absurd (first_is (h.Begins count lanes) xs b)
  once l (On m step ∷ xs) may (suc p) zero a b = absurd (no_other l m step xs may (first_is (On m step) xs b) p a)
  once l (Elsewhere ∷ xs) may (suc p) (suc q) a b = ap (λ (k : ℕ). suc k) (once l xs may p q a b)
  once l (h.Begins count lanes ∷ xs) may (suc p) (suc q) a b = ap (λ (k : ℕ). suc k) (once l xs may p q a b)
  once l (On m step ∷ xs) may (suc p) (suc q) a b =
      let more = rest l step (of_lane_all n xs) (eqb m n) may in
      ap (λ (k : ℕ). suc k) (once more.0 xs more.1 p q a b)

pub generations_begin_once : GenerationsBeginOnce
generations_begin_once spells history p q n g may a b =
    once spells n g (lane_at_first n history) history (may n) p q a b
