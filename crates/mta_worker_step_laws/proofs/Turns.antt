-- What a pass owns behind a turn of the lock.
use Rattle.std.proofs.Common.{◌≡◌, ◌<◌, ℕ, ◌+◌, ◌-◌, List, [], ◌∷◌, ◌++◌, length, map, inl, inr, refl}
use Rattle.std.proofs.Common.{sym, ap, subst, ◌∙◌, append_assoc, arith, Option, None, Some}
use Rattle.std.proofs.lemmas.Bool.{cases_lt}
use Rattle.std.proofs.lemmas.List.{length-append}
use mathlib.Core.List.{IsPrefix}
use Rattle.mta_edge.specs.Views.{ClockView, DiskView}
use Rattle.mta_records.specs.Body.{body_of}
use Rattle.mta_records.specs.declared.step.Step.{Step}
use Rattle.mta_records.proofs.Records.{body_same}
use Rattle.mta_histories.specs.Classes.{moment_of}
use Rattle.mta_histories.specs.History.{after}
use Rattle.mta_histories.specs.Lanes.{State}
use Rattle.mta_images.specs.Image.{AreRecords}
use Rattle.mta_shared.specs.Counts.{row, times}
use Rattle.mta_shared.specs.declared.history.Base.{Base}
use Rattle.mta_shared.specs.Held.{Held}
use Rattle.mta_shared.proofs.Fronts.{prefix_self, prefix_trans}
use Rattle.mta_shared.proofs.Sums.{row_bounds, times-append}
use Rattle.mta_spool.specs.Bases.{found_of, Keeps}
use Rattle.mta_spool.specs.Moments.{IsTimedAs}
use Rattle.mta_spool.specs.Shown.{Shown}
use Rattle.mta_worker.specs.Serving.{InTurn}
use Rattle.mta_worker_step_laws.specs.Steps.{IsMade, Tells}
use Rattle.mta_worker_step_laws.proofs.Made.{MakesOne}

-- ---- the history that opening gave

pub front_records : (xs ys : List Step) → AreRecords (xs ++ ys) → AreRecords xs
front_records [] ys each = tt
front_records (x ∷ xs) ys each = (each.0, front_records xs ys each.1)

same_steps : (xs ys : List Step) → AreRecords xs → AreRecords ys → map body_of xs ≡ map body_of ys → xs ≡ ys
same_steps [] [] fits fit e = refl
same_steps [] (y ∷ ys) fits fit e = absurd cc
same_steps (x ∷ xs) [] fits fit e = absurd cc
same_steps (x ∷ xs) (y ∷ ys) fits fit e =
    let here : body_of x ≡ body_of y = cc in
    let behind : map body_of xs ≡ map body_of ys = cc in
    let first : x ≡ y = body_same x y fits.0 fit.0 here in
    let rest : xs ≡ ys = same_steps xs ys fits.1 fit.1 behind in
    cc

-- ---- moments

timed_more : (tells other : ℕ → Type 0) (s : State) (step : Step) → ((m : ℕ) → tells m → other m)
    → IsMade tells s step → IsMade other s step
timed_more tells other s step more made = (made.0, by_moment (moment_of step) made.1)
  where
    by_moment : (o : Option ℕ) → IsTimedAs tells s.moment o → IsTimedAs other s.moment o
    by_moment None t = tt
    by_moment (Some moment) t = (t.0, more t.0 t.1, t.2)

-- ---- entries

module _ (tells : ℕ → Type 0) (first : List Step) where
  -- the entry of this number is a step that a worker made behind all before it
  pub record IsMadeAt (seen : List Step) (k : ℕ) : Type 0 where
    pub before : List Step
    pub step : Step
    pub behind : List Step
    pub parts : before ++ step ∷ behind ≡ seen
    pub place : length before ≡ k
    pub made : IsMade tells (after (first ++ before)) step

  -- and so it is when more was seen
  pub made_longer : (seen more : List Step) (k : ℕ) → IsPrefix seen more → IsMadeAt seen k → IsMadeAt more k
  made_longer seen more k f m = record {
    before = m.before;
    step = m.step;
    behind = m.behind ++ f.0;
    parts =
        sym (append_assoc m.before (m.step ∷ m.behind) f.0) ∙ ap (λ (xs : List Step). xs ++ f.0) m.parts ∙ f.1;
    place = m.place;
    made = m.made;
  }

-- ---- a turn of the lock

module _ {D C : Type 0} (disks : DiskView D) (clocks : ClockView C) (base : Base) (first : List Step)
    (found : map body_of first ≡ found_of base) (each : AreRecords first) where
  -- each own entry of the pass is a step that a worker made
  pub record Good (p : Held Step) : Type 0 where
    pub based : p.base ≡ base
    pub own : (k : ℕ) → 0 < times k p.own → IsMadeAt (Tells base) first p.seen k

  -- the spool's state is the one behind the entries of the lock
  state_then : (s : Shown D C) → Keeps disks clocks s base → s.current ≡ after (first ++ s.entries)
  state_then s k =
      let same : k.first ≡ first =
      same_steps k.first first (front_records k.first s.entries k.each) each (k.found ∙ sym found) in
      k.state ∙ ap (λ (xs : List Step). after (xs ++ s.entries)) same

  -- the step that was made is such an entry
  one_made : (old new : Shown D C) (step : Step) (k : ℕ) → Keeps disks clocks old base
      → new.entries ≡ old.entries ++ step ∷ [] → IsMade (clocks.tells old.clock) old.current step
      → length old.entries ≡ k → IsMadeAt (Tells base) first new.entries k
  one_made old new step k keeps entries made place = record {
    before = old.entries;
    step = step;
    behind = [];
    parts = sym entries;
    place = place;
    made =
        subst (λ (s : State). IsMade (Tells base) s step) (state_then old keeps)
        (timed_more (clocks.tells old.clock) (Tells base) old.current step
        (λ m tell moments listed. keeps.clock moments listed m tell) made);
  }

  entries_grow : (old new : Shown D C) → MakesOne disks clocks old new → IsPrefix old.entries new.entries
  entries_grow old new one =
      elim one [
        | inl e ↦ subst (λ (xs : List Step). IsPrefix old.entries xs) (sym e) (prefix_self old.entries)
        | inr m ↦ (m.0 ∷ [], sym m.1)
      ]

  -- an entry that this turn added
  added_made : (old new : Shown D C) (k : ℕ) → Keeps disks clocks old base → MakesOne disks clocks old new
      → 0 < times k (row (length old.entries) (length new.entries - length old.entries))
      → IsMadeAt (Tells base) first new.entries k
  added_made old new k keeps one hit =
      let bounds = row_bounds k (length old.entries) (length new.entries - length old.entries) hit in
      elim one [
        | inl e ↦ (
            let same : length new.entries ≡ length old.entries = ap length e in
            absurd (omega (arith, bounds.0, bounds.1, same)))
        | inr m ↦ (
            let long : length (old.entries ++ m.0 ∷ []) ≡ length old.entries + 1 =
            length-append old.entries (m.0 ∷ []) in
            let same : length new.entries ≡ length (old.entries ++ m.0 ∷ []) = ap length m.1 in
            one_made old new m.0 k keeps m.1 m.2 (omega (arith, bounds.0, bounds.1, long, same)))
      ]

  pub in_turn : (done : Shown D C → Shown D C → Type 0) (p q : Held Step)
      → ((s t : Shown D C) → done s t → MakesOne disks clocks s t) → InTurn disks clocks done p q → Good p → Good q
  in_turn done p q makes i g = record {
    based = ap (λ (h : Held Step). h.base) i.left ∙ g.based;
    own = λ k hit.
        subst (λ (xs : List Step). IsMadeAt (Tells base) first xs k) (sym seen)
        (by_part k (subst (λ (ns : List ℕ). 0 < times k ns) owned hit));
  } where
    old : Shown D C
    old = i.before

    new : Shown D C
    new = i.after

    one : MakesOne disks clocks old new
    one = makes old new i.did

    seen : q.seen ≡ new.entries
    seen = ap (λ (h : Held Step). h.seen) i.left

    owned : q.own ≡ p.own ++ row (length old.entries) (length new.entries - length old.entries)
    owned = ap (λ (h : Held Step). h.own) i.left

    keeps : Keeps disks clocks old base
    keeps = subst (λ (b : Base). Keeps disks clocks old b) g.based i.keeps

    by_part : (k : ℕ) → 0 < times k (p.own ++ row (length old.entries) (length new.entries - length old.entries))
        → IsMadeAt (Tells base) first new.entries k
    by_part k hit =
        let sum = times-append k p.own (row (length old.entries) (length new.entries - length old.entries)) in
        elim (cases_lt 0 (times k p.own)) [
          | inl before ↦ made_longer (Tells base) first p.seen new.entries k
              (prefix_trans p.seen old.entries new.entries i.begins (entries_grow old new one)) (g.own k before)
          | inr none ↦ added_made old new k keeps one (omega (arith, hit, sum, none))
        ]

  -- a pass that is the same
  pub still : (p q : Held Step) → q ≡ p → Good p → Good q
  still p q e g = subst (λ (h : Held Step). Good h) (sym e) g
