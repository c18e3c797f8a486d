-- What a run leaves of its disk, from what opening and working leave.
use Rattle.std.proofs.Common.{inl, inr, ⊎_elim, ◌≡◌, ℕ, ◌≤◌, List, [], ◌++◌, length}
use Rattle.std.proofs.Common.{Some, refl, sym}
use Rattle.std.proofs.Common.{subst, ◌∙◌, arith}
use Rattle.std.specs.Prelude.{◌⊎◌}
use Rattle.mta_edge.specs.Views.{DiskView, DiskLaws, StaysTold}
use Rattle.mta_edge.specs.Causes.{Rose}
use Rattle.mta_records.specs.declared.step.Step.{Step}
use Rattle.mta_histories.specs.Compact.{as_it_was}
use Rattle.mta_images.specs.Image.{StandsFor}
use Rattle.mta_images.specs.Opened.{IsLeftByOpening, Opens}
use Rattle.mta_images.proofs.GoingOn.{found_of, one_opening}
use Rattle.mta_images.proofs.Unique.{one_history}
use Rattle.mta_spool.specs.GoingOn.{BeforeOrLeft, HasNotOpened, HasOpened, IsSameOrLeft, IsStopped, LeftSince}
use Rattle.mta_spool.specs.GoingOn.{unsynced, synced}
use Rattle.mta_spool.specs.Shown.{Shown}
use Rattle.mta_spool.specs.declared.why.OpenWhy.{OpenWhy}
use Rattle.mta_commands.specs.Images.{Synced, IsSafe, IsSafeBefore}
use Rattle.mta_spool.specs.Crashing.{Reached, Leaves}
use Rattle.mta_commands.specs.DiskLeft.{uncalled, refused, opened, IsAsItWas, DiskLeft}
use Rattle.mta_spool.proofs.Crashing.{stands_held, still}
use Rattle.mta_commands.proofs.Same.{some_same}

-- an image of the same octets is left by opening
pub left_same : (f g : List ℕ) (found : List Step) → StandsFor f found → g ≡ f → IsLeftByOpening f g
left_same f g found s same = record {
  found = found;
  left = found;
  leaves = record { is = found_of f found s; left_is = as_it_was };
  stands = subst (λ (x : List ℕ). StandsFor x found) (sym same) s;
}

pub left_of : (f g : List ℕ) (found : List Step) → StandsFor f found → IsSameOrLeft f g → IsLeftByOpening f g
left_of f g found s (inl same) = left_same f g found s same
left_of f g found s (inr left) = left

module _ {D : Type 0} (disks : DiskView D) (laws : DiskLaws disks) where
  -- ---- the disk was not called

  pub left_alone : (disk : D) → DiskLeft disks disk disk uncalled [] []
  left_alone disk = record {
    untouched = λ e. refl;
    unopened = λ e. refl;
    later = omega arith;
    one = omega arith;
    calm = λ calm. refl;
    told = λ f was. (f, was);
    stands = λ e. absurd cc;
    left = λ e f g found was now s. left_same f g found s (some_same g f (sym now ∙ was));
    safe = λ f found steps was s.
        inl (record { none = refl; reads = refl; images = λ g left. laws.only_now disk g left });
    stood = λ e. absurd cc;
    synced = λ e. absurd cc;
    no_spool = λ f was none. record { reads = was; images = λ g left. inl (laws.only_now disk g left) };
  }

  pub before_alone : (disk : D) (f : List ℕ) (steps : List Step) → IsSafeBefore disks f steps [] disk disk
  before_alone disk f steps g left = inl (laws.only_now disk g left)

  -- ---- it was not opened

  pub before_refused : (old new : D) (why : OpenWhy) → HasNotOpened disks old new why
      → (f : List ℕ) (found steps : List Step) → disks.content old ≡ Some f → Opens f found steps
      → IsSafeBefore disks f steps [] old new
  before_refused old new why refusal f found steps was s g left =
      ⊎_elim {C = disks.may_leave old g ⊎ IsLeftByOpening f g ⊎ Reached steps [] g} (λ before. inl before)
      (λ same. inr (inl (left_of f g found s.is.stands same))) ((refusal.images f was).each g left)

  left_now : (old new : D) (f : List ℕ) (ss : LeftSince disks f old new) (g : List ℕ) → disks.may_leave new g
      → IsSameOrLeft f g
  left_now old new f ss g may = ss.left.left g (laws.counts_now new (disks.moment ss.first) g ss.left.until may)

  safe_refused : (old new : D) (f : List ℕ) (found steps : List Step) → StandsFor f found → IsStopped disks f old new
      → IsSafe disks f steps [] [] old new
  safe_refused old new f found steps s (unsynced same left) =
      inl (record { none = refl; reads = same; images = left })
  safe_refused old new f found steps s (synced ss) = inr (inl (record {
    none = refl;
    first = ss.first;
    sync = ss.sync;
    until = ss.left.until;
    images = λ g left. left_of f g found s (ss.left.left g left);
  }))

  reads_refused : (old new : D) (f g : List ℕ) (found : List Step) → StandsFor f found
      → disks.content old ≡ Some f → disks.content new ≡ Some g → IsStopped disks f old new → IsLeftByOpening f g
  reads_refused old new f g found s was now (unsynced same left) =
      left_same f g found s (some_same g f (sym now ∙ same ∙ was))
  reads_refused old new f g found s was now (synced ss) =
      left_of f g found s (left_now old new f ss g (laws.reads_image new g now))

  -- what is no spool is as it was
  stays : (old new : D) (why : OpenWhy) → HasNotOpened disks old new why → (f : List ℕ)
      → disks.content old ≡ Some f → ((steps : List Step) → StandsFor f steps → ⊥)
      → IsAsItWas disks f old new
  stays old new why refusal f was none = record {
    reads = refusal.kept f was none;
    images = λ g left. by g ((refusal.images f was).each g left);
  } where
    by : (g : List ℕ) → BeforeOrLeft disks old f g → disks.may_leave old g ⊎ (g ≡ f)
    by g (inl before) = inl before
    by g (inr (inl same)) = inr same
    by g (inr (inr left)) = absurd (none left.found left.leaves.is.stands)

  pub disk_refused : (old new : D) (why : OpenWhy) → HasNotOpened disks old new why
      → DiskLeft disks old new refused [] []
  disk_refused old new why refusal = record {
    untouched = λ e. absurd cc;
    unopened = λ e. refl;
    later = refusal.later;
    one = omega arith;
    calm = λ calm. refl;
    told = refusal.told;
    stands = λ e. absurd cc;
    left = λ e f g found was now s. reads_refused old new f g found s was now (refusal.left f was);
    safe = λ f found steps was s. safe_refused old new f found steps s.is.stands (refusal.left f was);
    stood = λ e. absurd cc;
    synced = λ e. absurd cc;
    no_spool = λ f was none. stays old new why refusal f was none;
  }

-- ---- it was opened, and steps were added

module _ {D C : Type 0} (disks : DiskView D) (laws : DiskLaws disks) (old : D) (spool : Shown D C)
    (o : HasOpened disks old spool) where
  -- what opening these octets goes on with are the steps of the spool
  pub same_steps : (f : List ℕ) (found steps : List Step) → disks.content old ≡ Some f → Opens f found steps
      → o.steps ≡ steps
  same_steps f found steps was s = (one_opening f o.found found o.steps steps (o.opens f was) s).1

  -- and what was found is for what they stood
  pub same_found : (f : List ℕ) (found : List Step) → disks.content old ≡ Some f → StandsFor f found → o.found ≡ found
  same_found f found was s = one_history f o.found found (o.opens f was).is.stands s

  synced_opened : (new : Shown D C) (added torn_step : List Step)
      → ((f : List ℕ) → disks.content spool.journal.disk ≡ Some f → Leaves disks o.steps added torn_step
      spool.journal.disk new.journal.disk) → (f : List ℕ) (found steps : List Step) → disks.content old ≡ Some f
      → Opens f found steps → Synced disks f steps added torn_step old new.journal.disk
  synced_opened new added torn_step leaves f found steps was s =
      let x = o.told f was in
      let l = leaves x.0 x.1 in
      let ss = o.synced f was in
      let since = disks.moment spool.opened.synced in
      let here : StandsFor x.0 o.steps =
      stands_held disks spool.journal spool.current o.steps o.stands x.0 (o.stands.holds.file x.0 x.1) in
      subst (λ (y : List Step). Synced disks f y added torn_step old new.journal.disk)
      (same_steps f found steps was s)
      (record {
        first = spool.opened.synced;
        sync = o.sync;
        over = spool.journal.disk;
        later = ss.until;
        until = l.during.later;
        opening = λ g left. left_of f g found s.is.stands (ss.left g left);
        opened = λ g may.
            subst (λ (y : List ℕ). StandsFor y o.steps) (sym (o.stands.holds.settled x.0 x.1 g may)) here;
        all = λ g left. ⊎_elim {C = IsLeftByOpening f g ⊎ Reached o.steps (added ++ torn_step) g}
            (λ first. inl (left_of f g found s.is.stands (ss.left g first)))
            (λ reached. inr reached) (l.during.since since g ss.until left);
        images = l.during.each;
        now = l.now;
      })

  pub disk_opened : (new : Shown D C) (added torn_step : List Step) → disks.faults spool.journal.disk ≤ disks.faults
      new.journal.disk → StaysTold disks spool.journal.disk new.journal.disk → length torn_step ≤ 1
      → ((Rose (disks.faults old) (disks.faults new.journal.disk) → ⊥) → torn_step ≡ [])
      → ((f : List ℕ) → disks.content spool.journal.disk ≡ Some f → Leaves disks o.steps added torn_step
      spool.journal.disk new.journal.disk)
      → DiskLeft disks old new.journal.disk opened added torn_step
  disk_opened new added torn_step later told one calm leaves = record {
    untouched = λ e. absurd cc;
    unopened = λ e. absurd (e refl);
    later = omega (arith, o.later, later);
    one = one;
    calm = calm;
    told = λ f was. let x = o.told f was in told x.0 x.1;
    stands = λ e f g found steps was now s. (synced_opened new added torn_step leaves f found steps was s).now g
        (laws.reads_image new.journal.disk g now);
    left = λ e. absurd (e refl);
    safe = λ f found steps was s. inr (inr (synced_opened new added torn_step leaves f found steps was s));
    stood = λ e f was. (o.found, (o.opens f was).is.stands);
    synced = λ e f found steps was s. synced_opened new added torn_step leaves f found steps was s;
    no_spool = λ f was none. absurd (none o.found (o.opens f was).is.stands);
  }

  pub before_opened : (new : Shown D C) (added torn_step : List Step)
      → ((f : List ℕ) → disks.content spool.journal.disk ≡ Some f
      → Leaves disks o.steps added torn_step spool.journal.disk new.journal.disk)
      → (f : List ℕ) (found steps : List Step) → disks.content old ≡ Some f → Opens f found steps
      → IsSafeBefore disks f steps (added ++ torn_step) old new.journal.disk
  before_opened new added torn_step leaves f found steps was s g left =
      let x = o.told f was in
      let l = leaves x.0 x.1 in
      let images = o.images f was in
      let tried = added ++ torn_step in
      subst (λ (y : List Step). disks.may_leave old g ⊎ IsLeftByOpening f g ⊎ Reached y tried g)
      (same_steps f found steps was s)
      (⊎_elim {C = disks.may_leave old g ⊎ IsLeftByOpening f g ⊎ Reached o.steps tried g}
      (λ first. ⊎_elim {C = disks.may_leave old g ⊎ IsLeftByOpening f g ⊎ Reached o.steps tried g}
      (λ before. inl before) (λ same. inr (inl (left_of f g found s.is.stands same))) (images.each g first))
      (λ reached. inr (inr reached)) (l.during.since (disks.moment old) g images.later left))

  pub before_read : (f : List ℕ) (found steps : List Step) → disks.content old ≡ Some f → Opens f found steps
      → IsSafeBefore disks f steps [] old spool.journal.disk
  before_read = before_opened spool [] [] (λ f told. still disks laws spool spool refl f told o.steps o.stands)

  -- it was opened and read
  pub disk_read : DiskLeft disks old spool.journal.disk opened [] []
  disk_read = disk_opened spool [] [] (omega arith) (λ f was. (f, was)) (omega arith) (λ calm. refl)
      (λ f told. still disks laws spool spool refl f told o.steps o.stands)
