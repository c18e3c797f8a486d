-- What the two calls answer that write a journal anew.
use Rattle.std.proofs.Common.{inl, inr, ◌≡◌, ◌≢◌, ◌⊎◌, ℕ, ◌+◌, ◌≤◌, false, true, List, [], ◌∷◌, length, Some, Ok, Err}
use Rattle.std.proofs.Common.{refl}
use Rattle.std.proofs.Common.{sym, ap, subst, arith}
use Rattle.mta_edge.specs.Causes.{Rose}
use Rattle.mta_edge.specs.Views.{DiskView, DiskLaws, StaysTold}
use Rattle.mta_edge.specs.Crashes.{AtAnyMoment, CrashLeaves, Settled}
use Rattle.mta_edge.specs.Outside.{ContentGoes}
use Rattle.mta_edge.proofs.Moments.{weaken}
use Rattle.mta_disk.proofs.Writing.{settled_once, length-closed}
use Rattle.mta_journal.specs.Bodies.{longest_first, records, HasRecords, HasBodies, HasBodiesAt, IsCurrent, selector}
use Rattle.mta_journal.specs.Bodies.{alone, first, second}
use Rattle.mta_journal.specs.Stages.{HasFirst, HasSecond, Fits, HasEither, KeepsEither, KeepsOne, MovesOne, Replaces}
use Rattle.mta_journal.specs.Shown.{Shown, Holds, IsFrameOfSecond}
use Rattle.mta_journal.specs.Compacting.{Rewrites}
use Rattle.mta_journal.specs.declared.journal.AppendFault.TheVariants as Faults
use Rattle.mta_journal.proofs.Stages.{length-one}

module _ {D : Type 0} (model : DiskView D) (after : List (List ℕ) → List (List ℕ)) (old : Shown D) where
  -- a crash leaves what it leaves while nothing is done
  pub still : DiskLaws model → (f : List ℕ) → model.content old.disk ≡ Some f → (bodies : List (List ℕ))
      → Holds model old bodies
      → AtAnyMoment model (HasEither old.first bodies (after bodies)) old.disk old.disk
  still laws f told bodies holds =
      settled_once model laws (HasEither old.first bodies (after bodies)) old.disk f holds.settled told
      (inl (holds.file f told))

module _ {D T : Type 0} (model : DiskView D) (after : List (List ℕ) → List (List ℕ)) (old : Shown D) where
  pub rewrites_memory : DiskLaws model → (new : Shown D) → new ≡ old → old.ended ≡ false
      → Rewrites {T = T} model after old new (Err Faults.Memory)
  rewrites_memory laws new same going = record {
    done = λ ok. absurd cc;
    place = λ ok. absurd cc;
    going = λ ok. absurd cc;
    told = λ f told. (f, subst (λ (n : Shown D). model.content n.disk ≡ Some f) (sym same) told);
    images = λ f told bodies holds.
        subst (λ (n : Shown D). AtAnyMoment model (HasEither old.first bodies (after bodies)) old.disk n.disk)
        (sym same)
        (still model after old laws f told bodies holds);
    kept = λ err no_disk. same;
    ended = (λ e. absurd cc, λ e. absurd cc);
    marked = λ e. absurd cc;
    not_full = λ s n e. absurd cc;
    later = omega (arith, ap (λ (n : Shown D). model.faults n.disk) same);
    disk = λ e. absurd cc;
  }

  pub rewrites_disk : (new : Shown D) → old.ended ≡ false → new.ended ≡ true
      → model.faults old.disk ≤ model.faults new.disk → Rose (model.faults old.disk) (model.faults new.disk)
      → StaysTold model old.disk new.disk
      → ((f : List ℕ) → model.content old.disk ≡ Some f → (bodies : List (List ℕ)) → Holds model old bodies
      → AtAnyMoment model (HasEither old.first bodies (after bodies)) old.disk new.disk)
      → Rewrites {T = T} model after old new (Err Faults.Disk)
  rewrites_disk new going stopped later rose told images = record {
    done = λ ok. absurd cc;
    place = λ ok. absurd cc;
    going = λ ok. absurd cc;
    told = told;
    images = images;
    kept = λ err no_disk. absurd (no_disk refl);
    ended = (λ e. absurd cc, λ e. absurd cc);
    marked = λ e. stopped;
    not_full = λ s n e. absurd cc;
    later = later;
    disk = λ e. rose;
  }

  pub rewrites_ok : (new : Shown D) (x : T) → old.ended ≡ false → new.ended ≡ false
      → (((old.first ≡ 8) × (new ≡ old)) ⊎ ((old.first ≢ 8) × (new.first ≡ 23)))
      → ((bodies : List (List ℕ)) → Holds model old bodies → Holds model new (after bodies))
      → model.faults old.disk ≤ model.faults new.disk → StaysTold model old.disk new.disk
      → ((f : List ℕ) → model.content old.disk ≡ Some f → (bodies : List (List ℕ)) → Holds model old bodies
      → AtAnyMoment model (HasEither old.first bodies (after bodies)) old.disk new.disk)
      → Rewrites {T = T} model after old new (Ok x)
  rewrites_ok new x going goes_on place done later told images = record {
    done = λ ok. done;
    place = λ ok. place;
    going = λ ok. goes_on;
    told = told;
    images = images;
    kept = λ err no_disk. absurd cc;
    ended = (λ e. absurd cc, λ e. absurd cc);
    marked = λ e. absurd cc;
    not_full = λ s n e. absurd cc;
    later = later;
    disk = λ e. absurd cc;
  }

-- ---- a compaction

-- the first area is current
first_of : (gate e : ℕ) (bodies : List (List ℕ)) (f : List ℕ) → gate ≡ 23 → HasRecords gate bodies f
    → IsCurrent gate bodies f
    → e ≡ gate + length (records bodies) + 1 → HasFirst e bodies f × (selector f ≢ 1)
first_of gate e bodies f at stand (alone m lone g) size = absurd (omega (arith, at, g))
first_of gate e bodies f at stand (first areas other g) size = (
  record {
    areas = areas;
    stand = subst (λ (n : ℕ). HasRecords n bodies f) at stand;
    ends =
        omega (arith, size, at);
  },
  other,
)
first_of gate e bodies f at stand (second areas one g body is below) size = absurd (omega (arith, at, below))

module _ {D : Type 0} (model : DiskView D) (body frame : List ℕ) (old : Shown D) (at : old.first ≡ 23)
    (fits : Fits old.size frame body) where
  pub compact_images : (new : D) → CrashLeaves model (KeepsEither old.size frame) old.disk new → (f : List ℕ)
      → model.content old.disk ≡ Some f
      → (bodies : List (List ℕ)) → Holds model old bodies
      → AtAnyMoment model (HasEither old.first bodies (body ∷ [])) old.disk new
  compact_images new images f told bodies holds =
      let has = holds.file f told in
      let one = first_of old.first old.size bodies f at has.stand has.current holds.size in
      weaken model (KeepsEither old.size frame f) (HasEither old.first bodies (body ∷ [])) old.disk new
      (λ g keeps. subst (λ (n : ℕ). HasEither n bodies (body ∷ []) g) (sym at) (keeps bodies body fits one.0 one.1))
      (images f told)

  pub compact_done : (new : Shown D) → new.first ≡ 23 → new.size ≡ 24 + length frame → new.ended ≡ false
      → Settled model new.disk
      → ContentGoes model (Replaces old.size frame) old.disk new.disk → (bodies : List (List ℕ))
      → Holds model old bodies
      → Holds model new (body ∷ [])
  compact_done new place size going settled goes bodies holds = record {
    file = λ g tells.
        let from = goes.back g tells in
        let has = holds.file from.0 from.1 in
        let one = first_of old.first old.size bodies from.0 at has.stand has.current holds.size in
        subst (λ (n : ℕ). HasBodiesAt n (body ∷ []) g) (sym place) (from.2 bodies body fits one.0 one.1);
    size = omega (arith, size, place, ap length fits.frame_is, length-closed body, length-one body);
    going = going;
    settled = settled;
  }

-- ---- a move of the second area's record into the first

-- the second area is current
record One (gate : ℕ) (bodies : List (List ℕ)) (f : List ℕ) : Type 0 where
  pub body : List ℕ
  pub is : bodies ≡ body ∷ []
  pub has : HasSecond gate body f
  pub chosen : selector f ≡ 1
  pub short : length body ≤ longest_first

one_of : (gate : ℕ) (bodies : List (List ℕ)) (f : List ℕ) → 24 ≤ gate → HasRecords gate bodies f
    → IsCurrent gate bodies f → One gate bodies f
one_of gate bodies f above stand (alone m lone g) = absurd (omega (arith, above, g))
one_of gate bodies f above stand (first areas other g) = absurd (omega (arith, above, g))
one_of gate bodies f above stand (second areas chosen g body is below) =
    let here : HasRecords gate (body ∷ []) f = subst (λ (b : List (List ℕ)). HasRecords gate b f) is stand in
    record {
      body = body;
      is = is;
      has = record { areas = areas; place = sym g; stand = here; below = below };
      chosen = chosen;
      short = here.each.0;
    }

module _ {D : Type 0} (model : DiskView D) (frame : List ℕ) (old : Shown D)
    (kept : IsFrameOfSecond model old.disk old.first old.size frame) where
  fits_one : (f : List ℕ) → model.content old.disk ≡ Some f → (bodies : List (List ℕ))
      → (holds : Holds model old bodies)
      → (one : One old.first bodies f) → Fits old.first frame one.body
  fits_one f told bodies holds one = record {
    frame_is = kept.frame_is f told one.body
        (subst (λ (b : List (List ℕ)). HasBodiesAt old.first b f) one.is (holds.file f told));
    short = one.short;
    below = one.has.below;
  }

  found : (f : List ℕ) → model.content old.disk ≡ Some f → (bodies : List (List ℕ)) → Holds model old bodies
      → One old.first bodies f
  found f told bodies holds =
      let has = holds.file f told in one_of old.first bodies f (omega (arith, kept.above)) has.stand has.current

  pub settle_images : (new : D) → CrashLeaves model (KeepsOne frame) old.disk new → (f : List ℕ)
      → model.content old.disk ≡ Some f
      → (bodies : List (List ℕ)) → Holds model old bodies
      → AtAnyMoment model (HasEither old.first bodies bodies) old.disk new
  settle_images new images f told bodies holds =
      let one = found f told bodies holds in
      weaken model (KeepsOne frame f) (HasEither old.first bodies bodies) old.disk new
      (λ g keeps. inr (subst (HasBodies g) (sym one.is)
      (keeps old.first one.body (fits_one f told bodies holds one) one.has one.chosen)))
      (images f told)

  pub settle_done : (new : Shown D) → new.first ≡ 23 → new.size ≡ 24 + length frame → new.ended ≡ false
      → Settled model new.disk
      → ContentGoes model (MovesOne frame) old.disk new.disk → (bodies : List (List ℕ)) → Holds model old bodies
      → Holds model new bodies
  settle_done new place size going settled goes bodies holds = record {
    file = λ g tells.
        let from = goes.back g tells in
        let one = found from.0 from.1 bodies holds in
        subst (λ (b : List (List ℕ)). HasBodiesAt new.first b g) (sym one.is)
        (subst (λ (n : ℕ). HasBodiesAt n (one.body ∷ []) g) (sym place)
        (from.2 old.first one.body (fits_one from.0 from.1 bodies holds one) one.has one.chosen));
    size = omega (arith, size, place, kept.size_is, holds.size);
    going = going;
    settled = settled;
  }
