-- The three calls by which opening goes on, one behind the other.
use Rattle.std.proofs.Common.{inl, inr, ⊎_elim, ◌≡◌, ◌≢◌, ◌⊎◌, ℕ, ◌+◌, ◌≤◌, ◌<◌, eqb, Bool, true, false, List, [], ◌∷◌}
use Rattle.std.proofs.Common.{length}
use Rattle.std.proofs.Common.{map, Result, Ok, Err, IsErrOf, refl, sym, ap, subst, ◌∙◌, arith}
use Rattle.std.specs.Prelude.{IsOk}
use Rattle.std.proofs.lemmas.Bool.{cases_eq}
use Rattle.mta_edge.specs.Causes.{Rose}
use Rattle.mta_edge.specs.Crashes.{AtAnyMoment}
use Rattle.mta_edge.specs.Views.{DiskView, StaysTold, WhereTold}
use Rattle.mta_edge.proofs.Moments.{joined, weaken}
use Rattle.mta_journal.specs.Shown.{Shown as JournalShown, IsPlain}
use Rattle.mta_records.specs.declared.step.Step.{Step}
use Rattle.mta_histories.specs.Compact.{base, opened, IsLeftOf, as_it_was, at_base, at_opened}
use Rattle.mta_histories.specs.History.{after}
use Rattle.mta_histories.specs.Lanes.{State}
use Rattle.mta_images.specs.Image.{size_of, StandsFor}
use Rattle.mta_spool.specs.GoingOn.{Becomes, GoesOnFrom, IsEither, IsFullOnlyThere, IsGateFrom, NeverFull}
use Rattle.mta_spool.specs.GoingOn.{StandsForLeft}
use Rattle.mta_spool.specs.GoingOn.{in_format}
use Rattle.mta_spool.specs.Stands.{IsHeld}
use Rattle.mta_spool.specs.declared.why.OpenWhy.{OpenWhy}
use Rattle.mta_spool.specs.declared.why.OpenWhy.TheVariants as Whys
use Rattle.mta_spool.proofs.Compacted.{base_format, in_format_is}

-- ---- what is the same

-- only of a first area the size counts
pub base_size : (b : Bool) (m n : ℕ) (steps : List Step) → (b ≡ true → m ≡ n) → base b m steps ≡ base b n steps
base_size true m n steps same = ap (λ (k : ℕ). base true k steps) (same refl)
base_size false m n steps same = refl

gate_once : (first gate other : ℕ) → IsGateFrom first gate → IsGateFrom first other → gate ≡ other
gate_once first gate other a b = ⊎_elim {C = gate ≡ other} (λ (e : first ≡ 8). a.0 e ∙ sym (b.0 e))
    (λ (not_eight : first ≢ 8). a.1 not_eight ∙ sym (b.1 not_eight)) (cases_eq first 8)

-- what stood in a second area was moved
pub gate_moved : (first gate : ℕ) → first ≢ 8 → gate ≡ 23 → IsGateFrom first gate
gate_moved first gate other is = ((λ eight. absurd (other eight)), (λ not_eight. is))

-- there was none
pub gate_still : (first gate : ℕ) → IsPlain first → gate ≡ first → IsGateFrom first gate
gate_still first gate (inl eight) same =
    ((λ e. same ∙ e), (λ not_eight. absurd (not_eight eight)))
gate_still first gate (inr more) same =
    ((λ e. absurd (omega (arith, e, more))), (λ not_eight. same ∙ more))

module _ {D : Type 0} (model : DiskView D) (steps : List Step) (old : JournalShown D) where
  -- ---- how far it has come

  pub record Stage (now : List Step) (mid : JournalShown D) : Type 0 where
    pub left : IsLeftOf (eqb old.first 23) old.size steps now
    pub told : StaysTold model old.disk mid.disk
    pub later : model.faults old.disk ≤ model.faults mid.disk
    pub images : WhereTold model old.disk
        (λ f. AtAnyMoment model (StandsForLeft (eqb old.first 23) old.size steps) old.disk mid.disk)

  pub settled_stage : {T : Type 0} (mid : JournalShown D) (state : State) (result : Result T OpenWhy)
      → Becomes model steps steps old mid state result → Stage steps mid
  settled_stage mid state result b = record {
    left = as_it_was;
    told = b.told;
    later = b.later;
    images = λ f told.
        weaken model (IsEither steps steps) (StandsForLeft (eqb old.first 23) old.size steps) old.disk mid.disk
        (λ g either. (steps, as_it_was, ⊎_elim {C = StandsFor g steps} (λ s. s) (λ s. s) either))
        (b.images f told);
  }

  next_stage : {T : Type 0} (now next : List Step) (mid new : JournalShown D) (state : State)
      (result : Result T OpenWhy) → Stage now mid → IsLeftOf (eqb old.first 23) old.size steps next
      → Becomes model now next mid new state result → Stage next new
  next_stage now next mid new state result stage left b = record {
    left = left;
    told = λ f told. let x = stage.told f told in b.told x.0 x.1;
    later = omega (arith, stage.later, b.later);
    images = λ f told.
        let x = stage.told f told in
        joined model (StandsForLeft (eqb old.first 23) old.size steps) old.disk mid.disk new.disk
        (stage.images f told)
        (weaken model (IsEither now next) (StandsForLeft (eqb old.first 23) old.size steps) mid.disk new.disk
        (λ g either. ⊎_elim {C = StandsForLeft (eqb old.first 23) old.size steps g}
        (λ s. (now, stage.left, s)) (λ s. (next, left, s)) either)
        (b.images x.0 x.1));
  }

  -- compacted, where that was to be
  pub compacted_stage : {T : Type 0} (mid new : JournalShown D) (state : State) (result : Result T OpenWhy)
      → (eqb old.first 23 ≡ true → mid.size ≡ old.size) → Stage steps mid
      → Becomes model steps (base (eqb old.first 23) mid.size steps) mid new state result
      → Stage (base (eqb old.first 23) mid.size steps) new
  compacted_stage mid new state result same stage b =
      next_stage steps (base (eqb old.first 23) mid.size steps) mid new state result stage
      (subst (λ (x : List Step). IsLeftOf (eqb old.first 23) old.size steps x)
      (sym (base_size (eqb old.first 23) mid.size old.size steps same)) at_base) b

  -- and the format was set behind it
  formatted_is : (mid : JournalShown D) → (eqb old.first 23 ≡ true → mid.size ≡ old.size)
      → in_format (base (eqb old.first 23) mid.size steps) ≡ opened (eqb old.first 23) old.size steps
  formatted_is mid same =
      ap (λ (x : List Step). in_format x) (base_size (eqb old.first 23) mid.size old.size steps same)
      ∙ in_format_is (eqb old.first 23) old.size steps

  pub formatted_stage : {T : Type 0} (mid high new : JournalShown D) (state : State) (result : Result T OpenWhy)
      → (eqb old.first 23 ≡ true → mid.size ≡ old.size) → Stage (base (eqb old.first 23) mid.size steps) high
      → Becomes model (base (eqb old.first 23) mid.size steps) (in_format (base (eqb old.first 23) mid.size steps)) high
      new state result
      → Stage (in_format (base (eqb old.first 23) mid.size steps)) new
  formatted_stage mid high new state result same stage b =
      next_stage (base (eqb old.first 23) mid.size steps) (in_format (base (eqb old.first 23) mid.size steps)) high new
      state result stage
      (subst (λ (x : List Step). IsLeftOf (eqb old.first 23) old.size steps x) (sym (formatted_is mid same))
      at_opened) b

  -- ---- it stopped

  err-is : {T : Type 0} (x y : OpenWhy) → ◌≡◌ {A = Result T OpenWhy} (Err x) (Err y) → x ≡ y
  err-is x y e = cc

  -- the disk's count rose in the last call, so it rose
  risen : {T : Type 0} (now next : List Step) (mid new : JournalShown D) (state : State) (why : OpenWhy)
      → model.faults old.disk ≤ model.faults mid.disk
      → Becomes {T = T} model now next mid new state (Err why) → why ≡ Whys.Disk
      → Rose (model.faults old.disk) (model.faults new.disk)
  risen now next mid new state why before b e =
      let rose = b.disk (ap (λ (x : OpenWhy). Err x) e) in omega (arith, rose, before)

  -- before the format was to be set
  pub stopped : {T S : Type 0} (now next : List Step) (mid new : JournalShown D) (state : State) (why : OpenWhy)
      → model.faults old.disk ≤ model.faults mid.disk → Becomes {T = S} model now next mid new state (Err why)
      → Stage next new → NeverFull {T = S} (Err why) → (other : State)
      → GoesOnFrom {T = T} model steps old new other (Err why)
  stopped now next mid new state why before b stage calm other = record {
    done = λ ok. absurd cc;
    place = λ ok. absurd cc;
    told = stage.told;
    images = stage.images;
    later = stage.later;
    disk = λ e. risen now next mid new state why before b (err-is why Whys.Disk e);
    spool = λ at e. b.spool at (ap (λ (x : OpenWhy). Err x) (err-is why (Whys.NotSpool at) e));
    full = λ size need e. absurd (calm size need (ap (λ (x : OpenWhy). Err x) (err-is why (Whys.Full size need) e)));
    fits = λ ok. absurd cc;
  }

  -- ---- the format

  module _ (mid high new : JournalShown D) (before state : State)
      (same : eqb old.first 23 ≡ true → mid.size ≡ old.size) (gate_is : IsGateFrom old.first high.first)
      (held : IsHeld model high before (base (eqb old.first 23) mid.size steps)) where
    size_is : high.size ≡ size_of high.first (base (eqb old.first 23) old.size steps)
    size_is = held.holds.size
        ∙ ap (λ (x : List Step). size_of high.first x) (base_size (eqb old.first 23) mid.size old.size steps same)

    older : eqb before.machine.format 2 ≡ eqb (after steps).machine.format 2
    older = ap (λ (s : State). eqb s.machine.format 2) held.state_is
        ∙ ap (λ (n : ℕ). eqb n 2) (base_format (eqb old.first 23) mid.size steps)

    at_gate : (gate : ℕ) → IsGateFrom old.first gate
        → high.size ≡ size_of gate (base (eqb old.first 23) old.size steps)
    at_gate gate is =
        size_is
        ∙ ap (λ (n : ℕ). size_of n (base (eqb old.first 23) old.size steps))
        (gate_once old.first high.first gate gate_is is)

    -- it was not set
    pub unformatted : {T S : Type 0} (why : OpenWhy) → model.faults old.disk ≤ model.faults high.disk
        → Becomes {T = S} model (base (eqb old.first 23) mid.size steps)
        (in_format (base (eqb old.first 23) mid.size steps)) high new state (Err why)
        → Stage (in_format (base (eqb old.first 23) mid.size steps)) new → IsFullOnlyThere {T = S} high before (Err why)
        → (other : State) → GoesOnFrom {T = T} model steps old new other (Err why)
    unformatted why later b stage full other = record {
      done = λ ok. absurd cc;
      place = λ ok. absurd cc;
      told = stage.told;
      images = stage.images;
      later = stage.later;
      disk = λ e. risen (base (eqb old.first 23) mid.size steps) (in_format (base (eqb old.first 23) mid.size steps))
          high new state why later b (err-is why Whys.Disk e);
      spool = λ at e. b.spool at (ap (λ (x : OpenWhy). Err x) (err-is why (Whys.NotSpool at) e));
      full = λ size need e.
          let f = full.full size need (ap (λ (x : OpenWhy). Err x) (err-is why (Whys.Full size need) e)) in
          (sym older ∙ f.0, f.2, f.3, λ gate is. f.1 ∙ at_gate gate is);
      fits = λ ok. absurd cc;
    }

    -- it was set, where it was to be
    pub formatted : {T S : Type 0} (x : S) (y : T) → Becomes {T = S} model (base (eqb old.first 23) mid.size steps)
        (in_format (base (eqb old.first 23) mid.size steps)) high new state (Ok x)
        → Stage (in_format (base (eqb old.first 23) mid.size steps)) new → IsFullOnlyThere {T = S} high before (Ok x)
        → new.first ≡ high.first → GoesOnFrom {T = T} model steps old new state (Ok y)
    formatted x y b stage full place = record {
      done = λ ok. subst (λ (z : List Step). IsHeld model new state z) (formatted_is mid same) (b.done refl);
      place = λ ok. subst (IsGateFrom old.first) (sym place) gate_is;
      told = stage.told;
      images = stage.images;
      later = stage.later;
      disk = λ e. absurd cc;
      spool = λ at e. absurd cc;
      full = λ size need e. absurd cc;
      fits = λ ok old_format gate is.
          let le = full.fits refl (older ∙ old_format) in
          let here = at_gate gate is in
          omega (arith, le, here);
    }
