-- How a spool goes on with the history that was found.
use Rattle.std.proofs.Common.{inl, inr, ⊎_elim, ◌≡◌, ◌≢◌, ℕ, ◌+◌, ◌≤◌, ◌<◌, eqb, Bool, true, false, List, [], ◌∷◌, ◌++◌}
use Rattle.std.proofs.Common.{map, Option, None, Some, Result, Ok, Err, IsErrOf, refl, sym, ap, subst, ◌∙◌, arith}
use Rattle.std.specs.Prelude.{◌⊎◌, IsOk}
use Rattle.mta_edge.specs.Causes.{Rose}
use Rattle.mta_edge.specs.Crashes.{AtAnyMoment}
use Rattle.mta_edge.specs.Views.{DiskView, DiskLaws, StaysTold, WhereTold}
use Rattle.mta_edge.proofs.Moments.{joined, weaken}
use Rattle.mta_disk.proofs.Writing.{settled_once}
use Rattle.mta_journal.specs.Bodies.{HasBodiesAt}
use Rattle.mta_journal.specs.Compacting.{Compacts, Settles}
use Rattle.mta_journal.specs.Shown.{Shown as JournalShown, Holds, IsPlain}
use Rattle.mta_journal.specs.Stages.{HasEither}
use Rattle.mta_journal.specs.declared.journal.AppendFault.{AppendFault}
use Rattle.mta_journal.specs.declared.journal.AppendFault.TheVariants as AppendFaults
use Rattle.mta_records.specs.Body.{body_of, HasFields}
use Rattle.mta_records.specs.State.{SnapshotValue}
use Rattle.mta_records.specs.declared.fault.StepFault.{StepFault}
use Rattle.mta_records.specs.declared.fault.StepFault.TheVariants as StepFaults
use Rattle.mta_records.specs.declared.step.Step.{Step}
use Rattle.mta_records.specs.declared.step.Step.TheVariants.{Snapshot}
use Rattle.mta_histories.specs.Lanes.{State, empty}
use Rattle.mta_histories.specs.History.{after, after_step, IsPossible}
use Rattle.mta_images.specs.Image.{StandsFor}
use Rattle.mta_images.proofs.GoingOn.{stands_at}
use Rattle.mta_spool.specs.GoingOn.{Becomes, IsEither, why_of_append, why_of_step}
use Rattle.mta_spool.specs.Stands.{IsHeld, IsOneOf, Makes}
use Rattle.mta_spool.specs.declared.why.OpenWhy.{OpenWhy}
use Rattle.mta_spool.specs.declared.why.OpenWhy.TheVariants as Whys
use Rattle.mta_spool.proofs.Crashing.{stands_held}

err-is : {T E : Type 0} (x y : E) → ◌≡◌ {A = Result T E} (Err x) (Err y) → x ≡ y
err-is x y e = cc

module _ {D : Type 0} (model : DiskView D) (laws : DiskLaws model) (steps : List Step) (old : JournalShown D)
    (before : State) (held : IsHeld model old before steps) where
  -- ---- nothing was done

  -- a crash leaves the history
  still : (next : List Step)
      → WhereTold model old.disk (λ f. AtAnyMoment model (IsEither steps next) old.disk old.disk)
  still next f told =
      settled_once model laws (IsEither steps next) old.disk f held.holds.settled told
      (inl (stands_held model old before steps held f (held.holds.file f told)))

  still_as : (next : List Step) (new : JournalShown D) → new ≡ old
      → WhereTold model old.disk (λ f. AtAnyMoment model (IsEither steps next) old.disk new.disk)
  still_as next new same f told =
      subst (λ (j : JournalShown D). AtAnyMoment model (IsEither steps next) old.disk j.disk) (sym same)
      (still next f told)

  told_as : (new : JournalShown D) → new ≡ old → StaysTold model old.disk new.disk
  told_as new same f told = (f, ap (λ (j : JournalShown D). model.content j.disk) same ∙ told)

  later_as : (new : JournalShown D) → new ≡ old → model.faults old.disk ≤ model.faults new.disk
  later_as new same = omega (arith, ap (λ (j : JournalShown D). model.faults j.disk) same)

  pub becomes_same : {T : Type 0} (new : JournalShown D) (state : State) (x : T) → new ≡ old → state ≡ before
      → Becomes model steps steps old new state (Ok x)
  becomes_same new state x same there = record {
    done = λ ok. subst (λ (s : State). IsHeld model new s steps) (sym there)
        (subst (λ (j : JournalShown D). IsHeld model j before steps) (sym same) held);
    told = told_as new same;
    images = still_as steps new same;
    later = later_as new same;
    disk = λ e. absurd cc;
    spool = λ at e. absurd cc;
  }

  pub becomes_none : {T : Type 0} (next : List Step) (new : JournalShown D) (state : State) → new ≡ old
      → Becomes {T = T} model steps next old new state (Err Whys.Memory)
  becomes_none next new state same = record {
    done = λ ok. absurd cc;
    told = told_as new same;
    images = still_as next new same;
    later = later_as new same;
    disk = λ e. absurd cc;
    spool = λ at e. absurd cc;
  }

  -- ---- the journal was written anew

  -- why it was not
  disk_why : {T : Type 0} (fault : AppendFault) → IsErrOf {T = T} (Err (why_of_append fault)) Whys.Disk
      → fault ≡ AppendFaults.Disk
  disk_why (AppendFaults.Full size need) e = absurd cc
  disk_why AppendFaults.Disk e = refl
  disk_why AppendFaults.Ended e = absurd cc
  disk_why AppendFaults.Memory e = absurd cc

  place_why : {T : Type 0} (fault : AppendFault) (at : ℕ)
      → IsErrOf {T = T} (Err (why_of_append fault)) (Whys.NotSpool at) → ⊥
  place_why (AppendFaults.Full size need) at e = absurd cc
  place_why AppendFaults.Disk at e = absurd cc
  place_why AppendFaults.Ended at e = absurd cc
  place_why AppendFaults.Memory at e = absurd cc

  -- what stood in the second area was moved, or was to be
  module _ (other : IsPlain old.first → ⊥) (new : JournalShown D) where
    either_settled : (g : List ℕ) → HasEither old.first (map body_of steps) (map body_of steps) g
        → IsEither steps steps g
    either_settled g (inl has) = inl (stands_held model old before steps held g has)
    either_settled g (inr has) =
        inl (stands_at has.0 g steps has.1 held.each held.history (λ chosen. held.alone other))

    images_settled : {T : Type 0} (result : Result T AppendFault) → Settles model old new result
        → WhereTold model old.disk (λ f. AtAnyMoment model (IsEither steps steps) old.disk new.disk)
    images_settled result settles f told =
        weaken model (HasEither old.first (map body_of steps) (map body_of steps)) (IsEither steps steps) old.disk
        new.disk either_settled (settles.images f told (map body_of steps) held.holds)

    pub becomes_settled : Settles {T = Unit {0}} model old new (Ok tt)
        → Becomes {T = Unit {0}} model steps steps old new before (Ok tt)
    becomes_settled settles = record {
      done = λ ok. record {
        holds = settles.done refl (map body_of steps) held.holds;
        each = held.each;
        state_is = held.state_is;
        history = held.history;
        alone = λ not_plain. held.alone other;
      };
      told = settles.told;
      images = images_settled (Ok tt) settles;
      later = settles.later;
      disk = λ e. absurd cc;
      spool = λ at e. absurd cc;
    }

    pub becomes_unsettled : (fault : AppendFault) → Settles {T = Unit {0}} model old new (Err fault)
        → Becomes {T = Unit {0}} model steps steps old new before (Err (why_of_append fault))
    becomes_unsettled fault settles = record {
      done = λ ok. absurd cc;
      told = settles.told;
      images = images_settled (Err fault) settles;
      later = settles.later;
      disk = λ e. settles.disk (ap (λ (x : AppendFault). Err x) (disk_why fault e));
      spool = place_why fault;
    }

  -- a snapshot was put in the place of all records, or was to be
  module _ (t : SnapshotValue) (fields : HasFields (Snapshot t)) (possible : IsPossible empty (Snapshot t))
      (new : JournalShown D) where
    either_compacted : (g : List ℕ) → HasEither old.first (map body_of steps) (body_of (Snapshot t) ∷ []) g
        → IsEither steps (Snapshot t ∷ []) g
    either_compacted g (inl has) = inl (stands_held model old before steps held g has)
    either_compacted g (inr has) =
        inr (stands_at has.0 g (Snapshot t ∷ []) has.1 (fields, tt) (possible, tt) (λ chosen. (t, refl)))

    images_compacted : {T : Type 0} (result : Result T AppendFault)
        → Compacts model (body_of (Snapshot t)) old new result
        → WhereTold model old.disk (λ f. AtAnyMoment model (IsEither steps (Snapshot t ∷ [])) old.disk new.disk)
    images_compacted result compacts f told =
        weaken model (HasEither old.first (map body_of steps) (body_of (Snapshot t) ∷ []))
        (IsEither steps (Snapshot t ∷ [])) old.disk new.disk either_compacted
        (compacts.images f told (map body_of steps) held.holds)

    pub becomes_compacted : {T : Type 0} (x : T) (state : State)
        → Compacts {T = Unit {0}} model (body_of (Snapshot t)) old new (Ok tt)
        → state ≡ after_step empty (Snapshot t) → Becomes model steps (Snapshot t ∷ []) old new state (Ok x)
    becomes_compacted x state compacts there = record {
      done = λ ok. record {
        holds = compacts.done refl (map body_of steps) held.holds;
        each = (fields, tt);
        state_is = there;
        history = (possible, tt);
        alone = λ not_plain. (t, refl);
      };
      told = compacts.told;
      images = images_compacted (Ok tt) compacts;
      later = compacts.later;
      disk = λ e. absurd cc;
      spool = λ at e. absurd cc;
    }

    pub becomes_uncompacted : {T : Type 0} (fault : AppendFault) (state : State)
        → Compacts {T = Unit {0}} model (body_of (Snapshot t)) old new (Err fault)
        → Becomes {T = T} model steps (Snapshot t ∷ []) old new state (Err (why_of_append fault))
    becomes_uncompacted fault state compacts = record {
      done = λ ok. absurd cc;
      told = compacts.told;
      images = images_compacted (Err fault) compacts;
      later = compacts.later;
      disk = λ e. compacts.disk (ap (λ (x : AppendFault). Err x) (disk_why fault e));
      spool = place_why fault;
    }

  -- ---- a step was made, or refused

  step_disk_why : {T : Type 0} (fault : StepFault) → IsErrOf {T = T} (Err (why_of_step fault)) Whys.Disk
      → fault ≡ StepFaults.Disk
  step_disk_why (StepFaults.Full size need) e = absurd cc
  step_disk_why StepFaults.Disk e = refl
  step_disk_why StepFaults.Ended e = absurd cc
  step_disk_why (StepFaults.Fenced generation) e = absurd cc
  step_disk_why (StepFaults.NoLane lane) e = absurd cc
  step_disk_why (StepFaults.BusyLanes count) e = absurd cc
  step_disk_why StepFaults.Unexpected e = absurd cc
  step_disk_why (StepFaults.Spent last) e = absurd cc
  step_disk_why StepFaults.Memory e = absurd cc

  step_place_why : {T : Type 0} (fault : StepFault) (at : ℕ)
      → IsErrOf {T = T} (Err (why_of_step fault)) (Whys.NotSpool at) → ⊥
  step_place_why (StepFaults.Full size need) at e = absurd cc
  step_place_why StepFaults.Disk at e = absurd cc
  step_place_why StepFaults.Ended at e = absurd cc
  step_place_why (StepFaults.Fenced generation) at e = absurd cc
  step_place_why (StepFaults.NoLane lane) at e = absurd cc
  step_place_why (StepFaults.BusyLanes count) at e = absurd cc
  step_place_why StepFaults.Unexpected at e = absurd cc
  step_place_why (StepFaults.Spent last) at e = absurd cc
  step_place_why StepFaults.Memory at e = absurd cc

  module _ (step : Step) (made made' : List Step) (new : JournalShown D) (state : State) where
    pub becomes_made : {T : Type 0} (x : T) → Makes model step old before made new state made' None
        → Becomes model steps (steps ++ step ∷ []) old new state (Ok x)
    becomes_made x m = record {
      done = λ ok. m.done refl steps held;
      told = m.told;
      images = λ f told. (m.crash (inl refl)).during f told steps held;
      later = m.later;
      disk = λ e. absurd cc;
      spool = λ at e. absurd cc;
    }

    refused_images : (fault : StepFault) → Makes model step old before made new state made' (Some fault)
        → WhereTold model old.disk (λ f. AtAnyMoment model (IsEither steps (steps ++ step ∷ [])) old.disk new.disk)
    refused_images StepFaults.Disk m = λ f told. (m.crash (inr refl)).during f told steps held
    refused_images (StepFaults.Full size need) m =
        still_as (steps ++ step ∷ []) new (m.kept (λ e. absurd cc) (λ e. absurd cc)).0
    refused_images StepFaults.Ended m =
        still_as (steps ++ step ∷ []) new (m.kept (λ e. absurd cc) (λ e. absurd cc)).0
    refused_images (StepFaults.Fenced generation) m =
        still_as (steps ++ step ∷ []) new (m.kept (λ e. absurd cc) (λ e. absurd cc)).0
    refused_images (StepFaults.NoLane lane) m =
        still_as (steps ++ step ∷ []) new (m.kept (λ e. absurd cc) (λ e. absurd cc)).0
    refused_images (StepFaults.BusyLanes count) m =
        still_as (steps ++ step ∷ []) new (m.kept (λ e. absurd cc) (λ e. absurd cc)).0
    refused_images StepFaults.Unexpected m =
        still_as (steps ++ step ∷ []) new (m.kept (λ e. absurd cc) (λ e. absurd cc)).0
    refused_images (StepFaults.Spent last) m =
        still_as (steps ++ step ∷ []) new (m.kept (λ e. absurd cc) (λ e. absurd cc)).0
    refused_images StepFaults.Memory m =
        still_as (steps ++ step ∷ []) new (m.kept (λ e. absurd cc) (λ e. absurd cc)).0

    pub becomes_unmade : {T : Type 0} (fault : StepFault)
        → Makes model step old before made new state made' (Some fault)
        → Becomes {T = T} model steps (steps ++ step ∷ []) old new state (Err (why_of_step fault))
    becomes_unmade fault m = record {
      done = λ ok. absurd cc;
      told = m.told;
      images = refused_images fault m;
      later = m.later;
      disk = λ e. m.disk (ap (λ (x : StepFault). Some x) (step_disk_why fault e));
      spool = step_place_why fault;
    }

-- a history that is the same in its place
pub becomes_next : {D T : Type 0} (model : DiskView D) (steps next other : List Step) (old new : JournalShown D)
    (state : State) (result : Result T OpenWhy) → next ≡ other → Becomes model steps other old new state result
    → Becomes model steps next old new state result
becomes_next model steps next other old new state result same b =
    subst (λ (x : List Step). Becomes model steps x old new state result) (sym same) b
