-- Opening the disks of both sides.
use Rattle.std.proofs.Common.{◌≡◌, inl, inr, ⊎_elim, ℕ, Bool, false, true, List, [], ◌∷◌}
use Rattle.std.proofs.Common.{Some}
use Rattle.std.proofs.Common.{Result, Err, IsOk, IsTrue, refl, sym, subst, arith}
use Rattle.mta_edge.specs.Crashes.{AtAnyMoment, CrashLeaves}
use Rattle.mta_edge.specs.Views.{DiskView, StaysTold, WhereTold}
use Rattle.mta_journal.specs.Bodies.{HasBodiesAt, HasSecondArea, IsCurrent, StandsFor, alone, first, second}
use Rattle.mta_journal.specs.Compacting.{Settles}
use Rattle.mta_journal.specs.Opening.{BeforeOrSame, IsLeft as IsLeftOfJournal, IsSame, IsSameFrom, synced, unsynced}
use Rattle.mta_journal.specs.Opening.{HasRefused, KeepsFilled}
use Rattle.mta_journal.specs.declared.why.OpenWhy.{OpenWhy as JournalWhy}
use Rattle.mta_journal.specs.declared.why.OpenWhy.TheVariants as JournalWhys
use Rattle.mta_journal.specs.Shown.{IsPlain, Shown}
use Rattle.mta_journal.specs.Stages.{HasEither}
use Rattle.mta_journal.specs.declared.journal.AppendFault.{AppendFault}
use Rattle.mta_journal.specs.declared.journal.AppendFault.TheVariants as Faults
use Rattle.mta_journal.proofs.OpenedDisk.{stands_for}
use Rattle.mta_journal.proofs.Unique.{one_list}
use Rattle.mta_images.proofs.GoingOn.{second_one}
use Rattle.mta_follow_run.specs.Copies.{CopiesSince, IsCopy, as_before}
use Rattle.mta_follow_run.specs.Opened.{HasStandbyCause, IsLeft, IsNoStandby, IsOpenedFrom, IsRefusedFrom}
use Rattle.mta_follow_run.specs.Opened.{HasJournalCause, IsStandby, StaysCopy}
use Rattle.mta_follow_run.specs.Opened.{left_synced, left_unsynced}
use Rattle.mta_follow_run.specs.Stops.{stop_of_append, stop_of_journal}
use Rattle.mta_follow_run.specs.declared.stop.Stop.{Stop}
use Rattle.mta_follow_run.specs.declared.stop.Stop.TheVariants as Stops

-- ---- images

-- the second of two areas is not current where an image has no bodies
pub none_second : (g : List ℕ) → StandsFor g [] → HasSecondArea g → ⊥
none_second g (inl short) chosen = omega (arith, short.0, chosen.areas.inside)
none_second g (inr long) chosen = let one = second_one long.1.0 [] g long.1.1 chosen in absurd (cc (one.1))

-- it is current where the records stand neither from gate 8 nor from gate 23 on
in_second : (gate : ℕ) (bodies : List (List ℕ)) (image : List ℕ) → HasBodiesAt gate bodies image
    → (IsPlain gate → ⊥) → HasSecondArea image × ((body : List ℕ) × (bodies ≡ body ∷ []))
in_second gate bodies image has other = by has.current
  where
    by : IsCurrent gate bodies image → HasSecondArea image × ((body : List ℕ) × (bodies ≡ body ∷ []))
    by (alone begins lone is) = absurd (other (inl is))
    by (first areas not_one is) = absurd (other (inr is))
    by (second areas one is body only below) = (record { areas = areas; chosen = one }, (body, only))

-- the same image is a copy
pub copy_same : (f : List ℕ) (kept : List (List ℕ)) (g : List ℕ) → StandsFor f kept → IsSame f g → IsCopy f kept [] g
copy_same f kept g stands (inl is) =
    subst (IsCopy f kept []) (sym is)
    (record { bodies = kept; stands = stands; follows = as_before refl; second = λ chosen. (chosen, refl) })
copy_same f kept g stands (inr both) = record {
  bodies = [];
  stands = both.1;
  follows = as_before (one_list f [] kept both.0 stands);
  second = λ chosen. absurd (none_second g both.1 chosen);
}

module _ {D : Type 0} (disks : DiskView D) (old : D) where
  -- ---- a journal that is opened

  opened_since : (f : List ℕ) (kept : List (List ℕ)) (new first : D) → StandsFor f kept
      → IsSameFrom disks f old new (disks.moment first) → CopiesSince disks f kept [] first new
  opened_since f kept new begun stands same = record {
    until = same.until;
    each = λ g left. copy_same f kept g stands (same.same g left);
  }

  opened_before : (f : List ℕ) (kept : List (List ℕ)) (new : D) → StandsFor f kept
      → AtAnyMoment disks (BeforeOrSame disks old f) old new → StaysCopy disks f kept old new
  opened_before f kept new stands moments g left =
      ⊎_elim (λ before. inl before) (λ same. inr (copy_same f kept g stands same)) (moments.each g left)

  pub standby : (journal : Shown D) (kept : List (List ℕ)) → IsOpenedFrom disks old journal kept
      → IsPlain journal.first → IsStandby disks old journal kept
  standby journal kept o plain = record {
    stands = o.stands;
    holds = o.holds;
    plain = plain;
    later = o.later;
    told = o.told;
    first = o.first;
    sync = o.sync;
    since = λ f told. opened_since f kept journal.disk o.first (o.stands f told) (o.since f told);
    before = λ f told. opened_before f kept journal.disk (o.stands f told) (o.images f told);
  }

  -- ---- one whose records are moved into the first area

  module _ {T : Type 0} (journal next : Shown D) (kept : List (List ℕ)) (r : Result T AppendFault)
      (o : IsOpenedFrom disks old journal kept) (other : IsPlain journal.first → ⊥)
      (s : Settles disks journal next r) where
    -- the disk that was handed in has its records in the second area
    from_second : (f : List ℕ) → disks.content old ≡ Some f → HasSecondArea f
    from_second f told =
        let content = o.told f told in
        let both = in_second journal.first kept content.0 (o.holds.file content.0 content.1) other in
        let filled : StandsFor f [] → ⊥ =
        λ none. let is = one_list f kept [] (o.stands f told) none in absurd (cc (is, both.1.1)) in
        let same : content.0 ≡ f = cc (content.1, o.filled f told filled) in
        subst HasSecondArea same both.0

    moved : (f : List ℕ) → disks.content old ≡ Some f
        → AtAnyMoment disks (HasEither journal.first kept kept) journal.disk next.disk
    moved f told = let content = o.told f told in s.images content.0 content.1 kept o.holds

    copy_moved : (f : List ℕ) → disks.content old ≡ Some f → (g : List ℕ) → HasEither journal.first kept kept g
        → IsCopy f kept [] g
    copy_moved f told g one = record {
      bodies = kept;
      stands = ⊎_elim (λ has. stands_for journal.first g kept has) (λ has. stands_for has.0 g kept has.1) one;
      follows = as_before refl;
      second = λ chosen. (from_second f told, refl);
    }

    moved_since : (f : List ℕ) → disks.content old ≡ Some f → CopiesSince disks f kept [] o.first next.disk
    moved_since f told =
        let same = o.since f told in
        let on = moved f told in record {
          until = omega (arith, same.until, on.later);
          each = λ g left.
              ⊎_elim (λ before. copy_same f kept g (o.stands f told) (same.same g before)) (copy_moved f told g)
              (on.since (disks.moment o.first) g same.until left);
        }

    moved_before : (f : List ℕ) → disks.content old ≡ Some f → StaysCopy disks f kept old next.disk
    moved_before f told g left =
        let moments = o.images f told in
        let on = moved f told in
        ⊎_elim (λ before. opened_before f kept journal.disk (o.stands f told) moments g before)
        (λ one. inr (copy_moved f told g one)) (on.since (disks.moment old) g moments.later left)

    told_moved : StaysTold disks old next.disk
    told_moved f was = let content = o.told f was in s.told content.0 content.1

    pub standby_moved : IsOk r → IsStandby disks old next kept
    standby_moved ok = record {
      stands = o.stands;
      holds = s.done ok kept o.holds;
      plain =
          ⊎_elim (λ eight. absurd (other (inl eight.0))) (λ two. inr two.1) (s.place ok);
      later = omega (arith, o.later, s.later);
      told = told_moved;
      first = o.first;
      sync = o.sync;
      since = moved_since;
      before = moved_before;
    }

    moved_cause : (fault : AppendFault) → r ≡ Err fault → HasStandbyCause disks old next.disk (stop_of_append fault)
    moved_cause (Faults.Full size need) is =
        absurd (s.not_full size need is)
    moved_cause Faults.Disk is =
        let rose = s.disk is in
        omega (arith, rose, o.later)
    moved_cause Faults.Ended is = tt
    moved_cause Faults.Memory is = tt

    pub not_moved : (fault : AppendFault) → r ≡ Err fault
        → IsNoStandby disks old next.disk (stop_of_append fault)
    not_moved fault is = record {
      later = omega (arith, o.later, s.later);
      told = told_moved;
      cause = moved_cause fault is;
      left = λ f all told stands.
          let same : kept ≡ all = one_list f kept all (o.stands f told) stands in
          subst (λ (l : List (List ℕ)). IsLeft disks f l old next.disk) same
          (left_synced o.first o.sync (moved_since f told));
      before = λ f all told stands.
          let same : kept ≡ all = one_list f kept all (o.stands f told) stands in
          subst (λ (l : List (List ℕ)). StaysCopy disks f l old next.disk) same (moved_before f told);
      other = λ f told none. absurd (none kept (o.stands f told));
    }

  -- ---- a disk that is refused

  refused_cause : (new : D) (stop : Stop) → HasJournalCause disks old new stop → HasStandbyCause disks old new stop
  refused_cause new (Stops.NotSpool at) h = λ f told. (h.each f told).2.1
  refused_cause new Stops.Disk h = h
  refused_cause new Stops.Memory h = tt
  refused_cause new Stops.Usage h = h
  refused_cause new (Stops.Full size need) h = h
  refused_cause new Stops.Broken h = h
  refused_cause new (Stops.Diverged number) h = h
  refused_cause new (Stops.BadUnit at) h = h

  refused_left : (new : D) (f : List ℕ) (kept : List (List ℕ)) → StandsFor f kept → IsLeftOfJournal disks f old new
      → IsLeft disks f kept old new
  refused_left new f kept stands (unsynced same may) = left_unsynced same may
  refused_left new f kept stands (synced s) =
      left_synced s.first s.sync (opened_since f kept new s.first stands s.same)

  pub no_standby : (new : D) (stop : Stop) → IsRefusedFrom disks old new stop → IsNoStandby disks old new stop
  no_standby new stop r = record {
    later = r.later;
    told = r.told;
    cause = refused_cause new stop r.cause;
    left = λ f kept told stands. refused_left new f kept stands (r.left f told);
    before = λ f kept told stands. opened_before f kept new stands (r.images f told);
    other = λ f told none. r.filled f told (λ empty. none [] empty);
  }

-- ---- what opening a journal answers

-- it was refused, and this is why
journal_cause : {D : Type 0} (disks : DiskView D) (old new : D) (why : JournalWhy)
    → HasRefused disks old new why → HasJournalCause disks old new (stop_of_journal why)
journal_cause disks old new (JournalWhys.NotSpool at) h = h.not_spool at refl
journal_cause disks old new JournalWhys.Disk h = h.disk refl
journal_cause disks old new JournalWhys.Memory h = tt

pub refused_from : {D : Type 0} (disks : DiskView D) (old new : D) (why : JournalWhy) → HasRefused disks old new why
    → StaysTold disks old new → KeepsFilled disks old new
    → WhereTold disks old (λ f. IsLeftOfJournal disks f old new) → CrashLeaves disks (BeforeOrSame disks old) old new
    → IsRefusedFrom disks old new (stop_of_journal why)
refused_from disks old new why h told filled left images = record {
  later = h.later;
  told = told;
  cause = journal_cause disks old new why h;
  filled = filled;
  left = left;
  images = images;
}

-- a gate that is found to be another is none of the only area or the first one
pub not_plain : (read gate : ℕ) (answer : Bool) → read ≡ gate → (IsPlain read → IsTrue answer) → answer ≡ false
    → IsPlain gate → ⊥
not_plain read gate answer is only other plain =
    let yes_it_is : answer ≡ true = only (subst IsPlain (sym is) plain) in absurd cc
