-- Opening the disk of a spool, and then reading its records.
use Rattle.std.proofs.Common.{◌≡◌, inl, inr, ⊎_elim, ℕ, ◌≤◌, List, [], ◌∷◌, map, Some, refl, sym}
use Rattle.std.proofs.Common.{subst, arith}
use Rattle.mta_edge.specs.Crashes.{AtAnyMoment, CrashLeaves}
use Rattle.mta_edge.specs.Views.{DiskView, StaysTold}
use Rattle.mta_edge.proofs.Moments.{joined, weaken}
use Rattle.mta_journal.specs.Bodies.{HasSecondArea, StandsFor}
use Rattle.mta_journal.specs.Opening.{BeforeOrSame, IsSame}
use Rattle.mta_journal.specs.Shown.{Shown}
use Rattle.mta_journal.proofs.OpenedDisk.{stands_for}
use Rattle.mta_journal.proofs.Unique.{not_both, one_list}
use Rattle.mta_records.specs.Body.{body_of}
use Rattle.mta_records.specs.declared.step.Step.{Step}
use Rattle.mta_records.specs.State.{SnapshotValue}
use Rattle.mta_records.specs.declared.step.Step.TheVariants.{Snapshot}
use Rattle.mta_images.specs.Image.{StandsFor as StandsForHistory}
use Rattle.mta_images.proofs.GoingOn.{opened_is_left, plain_alone}
use Rattle.mta_spool.specs.GoingOn.{BeforeOrLeft, HasNotOpened, HasOpened, IsSameOrLeft}
use Rattle.mta_spool.specs.GoingOn.{synced as stopped_synced}
use Rattle.mta_spool.specs.Shown.{Shown as SpoolShown}
use Rattle.mta_spool.specs.declared.why.OpenWhy.{OpenWhy}
use Rattle.mta_spool.specs.declared.why.OpenWhy.TheVariants as Whys
use Rattle.mta_follow_run.specs.Opened.{HasJournalCause, HasSpoolCause, IsNoSpool, IsOpenedFrom, IsRefusedFrom, IsSpool}
use Rattle.mta_follow_run.specs.Opened.{SpoolLeft}
use Rattle.mta_follow_run.specs.Stops.{stop_of_spool}
use Rattle.mta_follow_run.specs.declared.stop.Stop.{Stop}
use Rattle.mta_follow_run.specs.declared.stop.Stop.TheVariants as Stops
use Rattle.mta_follow_run.proofs.StandbyOpening.{none_second}

-- an image that is the same, or has no bodies as the other has none, stands for the same history
history_same : (c g : List ℕ) (steps : List Step) → StandsForHistory c steps → IsSame c g → StandsForHistory g steps
history_same c g steps h (inl is) = subst (λ (x : List ℕ). StandsForHistory x steps) (sym is) h
history_same c g steps h (inr both) =
    let none : map body_of steps ≡ [] = one_list c (map body_of steps) [] h.bodies both.0 in
    record {
      bodies = subst (StandsFor g) (sym none) both.1;
      each = h.each;
      history = h.history;
      second = λ chosen. absurd (none_second g both.1 chosen);
    }

module _ {D : Type 0} (disks : DiskView D) (old : D) where
  -- ---- it was refused

  spool_cause : (new : D) (why : OpenWhy) → HasNotOpened disks old new why
      → HasSpoolCause disks old new (stop_of_spool why)
  spool_cause new (Whys.NotSpool at) h = h.not_spool at refl
  spool_cause new (Whys.Full size need) h = h.full size need refl
  spool_cause new Whys.Disk h = h.disk refl
  spool_cause new Whys.Memory h = tt

  pub no_spool : (new : D) (why : OpenWhy) → HasNotOpened disks old new why
      → IsNoSpool disks old new (stop_of_spool why)
  no_spool new why h = record {
    left = record { later = h.later; told = h.told; other = h.kept; images = h.images; left = h.left };
    cause = spool_cause new why h;
  }

  -- ---- it was opened, and its records are read

  module _ {C : Type 0} (spool : SpoolShown D C) (h : HasOpened disks old spool) where
    abbrev mid : D
    mid = spool.journal.disk

    -- where the disk told what it held, the one that was opened tells what it holds, which is the history
    record Went (f : List ℕ) : Type 0 where
      pub content : List ℕ
      pub told : disks.content mid ≡ Some content
      pub stands : StandsForHistory content h.steps

    went : (f : List ℕ) → disks.content old ≡ Some f → Went f
    went f told =
        let c = h.told f told in
        let opens = h.opens f told in
        record {
          content = c.0;
          told = c.1;
          stands = record {
            bodies = stands_for spool.journal.first c.0 (map body_of h.steps) (h.stands.holds.file c.0 c.1);
            each = h.stands.each;
            history = h.stands.history;
            second = λ chosen. in_second_alone c.0 c.1 chosen;
          };
        }
      where
        in_second_alone : (c : List ℕ) → disks.content mid ≡ Some c → HasSecondArea c
            → (t : SnapshotValue) × (h.steps ≡ Snapshot t ∷ [])
        in_second_alone c told chosen =
            h.stands.alone (λ plain. plain_alone spool.journal.first (map body_of h.steps) c plain
            (h.stands.holds.file c told) chosen)

    -- what a crash leaves of it while its records are read
    read_left : (f : List ℕ) → disks.content old ≡ Some f → (new : D)
        → CrashLeaves disks (BeforeOrSame disks mid) mid new → AtAnyMoment disks (IsSameOrLeft f) mid new
    read_left f told new images =
        let w = went f told in
        let opens = h.opens f told in
        weaken disks (BeforeOrSame disks mid w.content) (IsSameOrLeft f) mid new
        (λ g one. inr (record {
          found = h.found;
          left = h.steps;
          leaves = opened_is_left f h.found h.steps opens;
          stands = ⊎_elim
              (λ may. subst (λ (x : List ℕ). StandsForHistory x h.steps)
              (sym (h.stands.holds.settled w.content w.told g may)) w.stands)
              (λ same. history_same w.content g h.steps w.stands same) one;
        })) (images w.content w.told)

    left_so : (new : D) → disks.faults mid ≤ disks.faults new → StaysTold disks mid new
        → CrashLeaves disks (BeforeOrSame disks mid) mid new → SpoolLeft disks old new
    left_so new later told images = record {
      later = omega (arith, h.later, later);
      told = λ f was. let c = h.told f was in told c.0 c.1;
      other = λ f was none. absurd (let opens = h.opens f was in none h.found opens.is.stands);
      images = λ f was.
          joined disks (BeforeOrLeft disks old f) old mid new (h.images f was)
          (weaken disks (IsSameOrLeft f) (BeforeOrLeft disks old f) mid new (λ g one. inr one)
          (read_left f was new images));
      left = λ f was.
          let since = h.synced f was in
          let on = read_left f was new images in
          stopped_synced (record {
            first = spool.opened.synced;
            sync = h.sync;
            left = record {
              from = since.from;
              until = omega (arith, since.until, on.later);
              left = λ g left.
                  ⊎_elim (since.left g) (λ one. one) (on.since (disks.moment spool.opened.synced) g since.until left);
            };
          });
    }

    -- it reads as it did, unless it had no bodies
    same_read : (c g : List ℕ) (journal : Shown D) (bodies : List (List ℕ)) → disks.content mid ≡ Some c
        → disks.content journal.disk ≡ Some g → IsOpenedFrom disks mid journal bodies → IsSame c g
    same_read c g journal [] told now o =
        inr (o.stands c told, stands_for journal.first g [] (o.holds.file g now))
    same_read c g journal (body ∷ bodies) told now o =
        let filled : StandsFor c [] → ⊥ =
        λ none. let is = one_list c (body ∷ bodies) [] (o.stands c told) none in absurd (cc (is)) in
        let still = o.filled c told filled in
        inl (cc (still, now))

    pub is_spool : (journal : Shown D) (bodies : List (List ℕ)) → IsOpenedFrom disks mid journal bodies
        → IsSpool disks old journal.disk bodies
    is_spool journal bodies o = record {
      left = left_so journal.disk o.later o.told o.images;
      each = o.each;
      opens = λ f told. let w = went f told in (
        h.found,
        h.steps,
        h.opens f told,
        one_list w.content bodies (map body_of h.steps) (o.stands w.content w.told) w.stands.bodies,
        λ g now.
            history_same w.content g h.steps w.stands (same_read w.content g journal bodies w.told now o),
      );
    }

    read_cause : (new : D) (stop : Stop) → disks.faults mid ≤ disks.faults new → HasJournalCause disks mid new stop
        → HasSpoolCause disks old new stop
    read_cause new (Stops.NotSpool at) later cause = λ f told.
        let w = went f told in
        let none = (cause.each w.content w.told).2.1 in
        absurd (not_both w.content (map body_of h.steps) at w.stands.bodies none)
    read_cause new Stops.Disk later cause = omega (arith, cause, h.later)
    read_cause new Stops.Memory later cause = tt
    read_cause new Stops.Usage later cause = cause
    read_cause new (Stops.Full size need) later cause = absurd cause
    read_cause new Stops.Broken later cause = cause
    read_cause new (Stops.Diverged number) later cause = cause
    read_cause new (Stops.BadUnit at) later cause = cause

    pub not_read : (new : D) (stop : Stop) → IsRefusedFrom disks mid new stop → IsNoSpool disks old new stop
    not_read new stop r = record {
      left = left_so new r.later r.told r.images;
      cause = read_cause new stop r.later r.cause;
    }
