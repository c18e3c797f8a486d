-- What a run leaves of a disk that its workers shared, from what the spool keeps under its base.
use Rattle.std.proofs.Common.{inl, inr, ⊎_elim, ◌≡◌, ℕ, ◌≤◌, Bool, true, false, List, [], ◌∷◌}
use Rattle.std.proofs.Common.{◌++◌, length, map}
use Rattle.std.specs.Prelude.{◌⊎◌}
use Rattle.std.proofs.Common.{Option, Some, Result, Err, refl, sym, ap, subst, ◌∙◌, append_assoc, arith}
use Rattle.mta_edge.specs.Causes.{Rose}
use Rattle.mta_edge.specs.Views.{ClockView, DiskLaws, DiskView}
use Rattle.mta_records.specs.Body.{body_of}
use Rattle.mta_records.specs.declared.step.Step.{Step}
use Rattle.mta_records.specs.declared.fault.StepFault.{StepFault}
use Rattle.mta_records.specs.declared.fault.StepFault.TheVariants as StepFaults
use Rattle.mta_histories.specs.History.{IsHistory}
use Rattle.mta_histories.specs.Compact.{IsLeftOf, as_it_was, at_base}
use Rattle.mta_images.specs.Image.{AreRecords, StandsFor}
use Rattle.mta_images.specs.Opened.{IsFound, IsLeftByOpening, Opens}
use Rattle.mta_images.proofs.Unique.{same_steps as one_list}
use Rattle.mta_spool.specs.Bases.{base_of, HasTold, Keeps, StandsForOne, StaysSafe, over_of, since_of, where_told}
use Rattle.mta_spool.specs.Crashing.{IsLeftWith, Reached}
use Rattle.mta_spool.specs.GoingOn.{HasOpened}
use Rattle.mta_spool.specs.Shown.{Shown}
use Rattle.mta_spool.proofs.Compacted.{base_records}
use Rattle.mta_spool.proofs.Crashing.{reached_as, reached_first, reached_second, stands_held}
use Rattle.mta_spool.proofs.Keeping.{first_found, one_first}
use Rattle.mta_commands.specs.DiskLeft.{DiskLeft, opened}
use Rattle.mta_commands.specs.Images.{Synced}
use Rattle.mta_commands.specs.Submit.{HasSettled}
use Rattle.mta_commands.proofs.Beginning.{settled_why}
use Rattle.mta_commands.proofs.DiskStands.{left_of, same_steps}

module _ {D C : Type 0} (disks : DiskView D) (laws : DiskLaws disks) (clocks : ClockView C) (old : D)
    (spool : Shown D C) (o : HasOpened disks old spool) (final : Shown D C)
    (k : Keeps disks clocks final (base_of disks clocks spool)) where
  -- behind the history with which opening went on
  pub first_opened : k.first ≡ o.steps
  first_opened =
      first_found disks clocks final (base_of disks clocks spool) k o.steps o.stands.each (sym o.bodies)

  pub first_steps : (f : List ℕ) (found steps : List Step) → disks.content old ≡ Some f → Opens f found steps
      → k.first ≡ steps
  first_steps f found steps was s = first_opened ∙ same_steps disks laws old spool o f found steps was s

  pub has_told : (f : List ℕ) → disks.content old ≡ Some f
      → HasTold (base_of disks clocks spool) spool.opened.found spool.opened.between
  has_told f was =
      ap
      (λ (x : Option (List ℕ)).
      spool.opened.bodies ∷ where_told x spool.opened.found spool.opened.between)
      (ap (λ (d : D). disks.content d) o.disk ∙ was)

  -- what stays safe of the disk, for what was found on it and what that was compacted to
  abbrev Safe : List Step → List Step → List Step → Type 0
  Safe first added torn_step =
      StaysSafe disks final.journal.disk (since_of (base_of disks clocks spool)) (over_of (base_of disks clocks spool))
      spool.opened.found spool.opened.between first added torn_step

  -- the count of its faults when it was handed in
  pub counted : disks.faults old ≤ disks.faults final.journal.disk
  counted = omega (arith, k.count, ap (λ (d : D). disks.faults d) o.disk)

  pub risen : final.journal.ended ≡ true → Rose (disks.faults old) (disks.faults final.journal.disk)
  risen e = subst (λ (n : ℕ). Rose n (disks.faults final.journal.disk)) (ap (λ (d : D). disks.faults d) o.disk)
      (k.ended e)

  -- ---- the step in which it failed, if it did

  pub record FailsIn (torn_step : List Step) : Type 0 where
    pub one : length torn_step ≤ 1
    pub calm : (Rose (disks.faults old) (disks.faults final.journal.disk) → ⊥) → torn_step ≡ []
    pub tried : IsHistory (k.first ++ (final.entries ++ torn_step))
    pub safe : (f : List ℕ) → disks.content old ≡ Some f → Safe k.first final.entries torn_step

  calm_kept : (b : Bool) → final.journal.ended ≡ b
      → (Rose (disks.faults old) (disks.faults final.journal.disk) → ⊥) → k.torn_step ≡ []
  calm_kept true e calm = absurd (calm (risen e))
  calm_kept false e calm = k.calm e

  -- one that the spool keeps under its base
  pub fails_kept : FailsIn k.torn_step
  fails_kept = record {
    one = k.one;
    calm = calm_kept final.journal.ended refl;
    tried = k.tried;
    safe = λ f was. k.safe spool.opened.found spool.opened.between (has_told f was);
  }

  module _ (joined : Shown D C) (kj : Keeps disks clocks joined (base_of disks clocks spool))
      (going : joined.journal.ended ≡ false) (settled : Result (Unit {0}) StepFault)
      (x : HasSettled disks (clocks.tells joined.clock) joined final settled) where
    same_first : kj.first ≡ k.first
    same_first = one_first disks clocks joined final (base_of disks clocks spool) kj k

    entries_are : final.entries ≡ joined.entries ++ x.added
    entries_are = (x.adds [] []).entries

    with_torn : joined.entries ++ (x.added ++ x.torn_step) ≡ final.entries ++ x.torn_step
    with_torn =
        sym (append_assoc joined.entries x.added x.torn_step)
        ∙ ap (λ (y : List Step). y ++ x.torn_step) (sym entries_are)

    made : (kj.first ++ joined.entries) ++ x.added ≡ k.first ++ final.entries
    made =
        append_assoc kj.first joined.entries x.added ∙ ap (λ (y : List Step). kj.first ++ y) (sym entries_are)
        ∙ ap (λ (y : List Step). y ++ final.entries) same_first

    whole : (kj.first ++ joined.entries) ++ (x.added ++ x.torn_step) ≡ k.first ++ (final.entries ++ x.torn_step)
    whole =
        append_assoc kj.first joined.entries (x.added ++ x.torn_step)
        ∙ ap (λ (y : List Step). kj.first ++ y) with_torn
        ∙ ap (λ (y : List Step). y ++ (final.entries ++ x.torn_step)) same_first

    failed : settled ≡ Err StepFaults.Disk → Rose (disks.faults old) (disks.faults final.journal.disk)
    failed e =
        let rose = settled_why disks (clocks.tells joined.clock) [] joined final StepFaults.Disk settled e x in
        omega (arith, rose, kj.count, ap (λ (d : D). disks.faults d) o.disk)

    reached : (g : List ℕ) → Reached kj.first (joined.entries ++ (x.added ++ x.torn_step)) g
        → Reached k.first (final.entries ++ x.torn_step) g
    reached g r =
        subst (λ (y : List Step). Reached y (final.entries ++ x.torn_step) g) same_first
        (reached_as kj.first (joined.entries ++ (x.added ++ x.torn_step)) (final.entries ++ x.torn_step) g with_torn r)

    -- what was reached while the workers worked
    before : (g : List ℕ) → Reached kj.first (joined.entries ++ kj.torn_step) g
        → Reached k.first (final.entries ++ x.torn_step) g
    before g was =
        reached g (reached_first kj.first joined.entries (x.added ++ x.torn_step) g
        (reached_as kj.first (joined.entries ++ kj.torn_step) (joined.entries ++ []) g
        (ap (λ (t : List Step). joined.entries ++ t) (kj.calm going)) was))

    behind : (g : List ℕ) → Reached (kj.first ++ joined.entries) (x.added ++ x.torn_step) g
        → Reached k.first (final.entries ++ x.torn_step) g
    behind g was = reached g (reached_second kj.first joined.entries (x.added ++ x.torn_step) g was)

    stays_safe : (f : List ℕ) → disks.content old ≡ Some f → Safe k.first final.entries x.torn_step
    stays_safe f was =
        let j = kj.safe spool.opened.found spool.opened.between (has_told f was) in
        let there = (x.adds [] []).told j.content j.told in
        let leaves = (x.adds [] []).leaves j.content j.told (kj.first ++ joined.entries) (kj.stands going) in
        let now : (g : List ℕ) → disks.may_leave final.journal.disk g
        → IsLeftWith k.first final.entries x.torn_step g = λ g may.
        ⊎_elim {C = IsLeftWith k.first final.entries x.torn_step g} (λ here. inl (subst (StandsFor g) made here))
        (λ here. inr (subst (StandsFor g) whole here)) (leaves.now g may) in
        record {
          content = there.0;
          told = there.1;
          reads = now there.0 (laws.reads_image final.journal.disk there.0 there.1);
          now = now;
          synced = j.synced;
          opened = omega (arith, j.opened, leaves.during.later);
          each = λ g left.
              ⊎_elim {C = Reached k.first (final.entries ++ x.torn_step) g} (λ was. before g (j.each g was)) (behind g)
              (leaves.during.since (over_of (base_of disks clocks spool)) g j.opened left);
          opening = λ g left.
              ⊎_elim
              {C = StandsForOne spool.opened.found spool.opened.between g
              ⊎ Reached k.first (final.entries ++ x.torn_step) g}
              (λ was. ⊎_elim
              {C = StandsForOne spool.opened.found spool.opened.between g
              ⊎ Reached k.first (final.entries ++ x.torn_step) g} (λ one. inl one) (λ r. inr (before g r))
              (j.opening g was)) (λ r. inr (behind g r))
              (leaves.during.since (since_of (base_of disks clocks spool)) g (omega (arith, j.synced, j.opened)) left);
        }

    -- one of what was due behind the workers
    pub fails_behind : FailsIn x.torn_step
    fails_behind = record {
      one = (x.adds [] []).one;
      calm = λ calm. (x.adds [] []).calm (λ e. calm (failed e));
      tried = subst IsHistory whole ((x.adds [] []).history (kj.first ++ joined.entries) (kj.stands going));
      safe = stays_safe;
    }

  -- ---- all of it

  -- a history of the bodies that were found, or of those to which they were compacted, may be left by opening
  left_one : (f g : List ℕ) → disks.content old ≡ Some f → StandsForOne spool.opened.found spool.opened.between g
      → IsLeftByOpening f g
  left_one f g was one = ⊎_elim {C = IsLeftByOpening f g}
      (λ (found : map body_of one.steps ≡ spool.opened.found).
      let same : one.steps ≡ o.found = one_list one.steps o.found one.stands.each is.stands.each (found ∙ o.found_is)
      in
      record {
        found = o.found;
        left = one.steps;
        leaves = record {
          is = is;
          left_is = subst (λ (x : List Step). IsLeftOf is.first_of_two is.size o.found x) (sym same) as_it_was;
        };
        stands = one.stands;
      })
      (λ (between : map body_of one.steps ≡ spool.opened.between).
      let same : one.steps ≡ o.between =
      one_list one.steps o.between one.stands.each between_each (between ∙ o.between_is) in
      record {
        found = o.found;
        left = one.steps;
        leaves = record {
          is = is;
          left_is = subst (λ (x : List Step). IsLeftOf is.first_of_two is.size o.found x)
              (sym (same ∙ o.compacted f was is)) at_base;
        };
        stands = one.stands;
      }) one.bodies
    where
      is : IsFound f o.found
      is = (o.opens f was).is

      between_each : AreRecords o.between
      between_each = subst AreRecords (sym (o.compacted f was is))
          (base_records is.first_of_two is.size o.found
          (subst AreRecords (o.opens f was).goes_on_is o.stands.each))

  module _ (torn_step : List Step) (fails : FailsIn torn_step) where
    synced_served : (f : List ℕ) (found steps : List Step) → disks.content old ≡ Some f → Opens f found steps
        → Synced disks f steps final.entries torn_step old final.journal.disk
    synced_served f found steps was s =
        let x = fails.safe f was in
        let there = o.told f was in
        let here : StandsFor there.0 o.steps =
        stands_held disks spool.journal spool.current o.steps o.stands there.0
        (o.stands.holds.file there.0 there.1) in
        subst (λ (y : List Step). Synced disks f y final.entries torn_step old final.journal.disk)
        (first_steps f found steps was s) (record {
          first = spool.opened.synced;
          sync = o.sync;
          over = spool.opened.over;
          later = x.synced;
          until = x.opened;
          opening = λ g left.
              left_of f g o.found (o.opens f was).is.stands ((o.synced f was).left g
              (subst (λ (d : D). disks.left_since d (disks.moment spool.opened.synced) g) o.over left));
          opened = λ g may.
              subst (StandsFor g) (sym first_opened)
              (subst (λ (y : List ℕ). StandsFor y o.steps)
              (sym (o.stands.holds.settled there.0 there.1 g
              (subst (λ (d : D). disks.may_leave d g) o.over may))) here);
          all = λ g left. ⊎_elim {C = IsLeftByOpening f g ⊎ Reached k.first (final.entries ++ torn_step) g}
              (λ one. inl (left_one f g was one)) (λ r. inr r) (x.opening g left);
          images = x.each;
          now = x.now;
        })

    pub disk_served : DiskLeft disks old final.journal.disk opened final.entries torn_step
    disk_served = record {
      untouched = λ e. absurd cc;
      unopened = λ e. absurd (e refl);
      later = counted;
      one = fails.one;
      calm = fails.calm;
      told = λ f was. let x = fails.safe f was in (x.content, x.told);
      stands = λ e f g found steps was now s.
          (synced_served f found steps was s).now g (laws.reads_image final.journal.disk g now);
      left = λ e. absurd (e refl);
      safe = λ f found steps was s. inr (inr (synced_served f found steps was s));
      stood = λ e f was. (o.found, (o.opens f was).is.stands);
      synced = λ e f found steps was s. synced_served f found steps was s;
      no_spool = λ f was none. absurd (none o.found (o.opens f was).is.stands);
    }
