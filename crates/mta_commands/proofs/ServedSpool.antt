-- What `serve` leaves where its tables were read.
use Rattle.std.proofs.Common.{◌≡◌, ℕ, ◌≤◌, List, [], ◌∷◌, ◌++◌, All, Contains, Option}
use Rattle.std.proofs.Common.{None, Some}
use Rattle.std.proofs.Common.{Result, Ok, Err, refl, sym, ap, subst, ◌∙◌, arith, inl}
use Rattle.mta_edge.specs.Causes.{Rose}
use Rattle.mta_edge.specs.Views.{ClockLaws, ClockView, DiskLaws, DiskView, IsAmong}
use Rattle.mta_records.specs.declared.step.Step.{Step}
use Rattle.mta_records.specs.declared.fault.StepFault.{StepFault}
use Rattle.mta_records.specs.declared.fault.StepFault.TheVariants as StepFaults
use Rattle.mta_tables.specs.Tables.{TablesValue, tables_of}
use Rattle.mta_histories.specs.Lanes.{State}
use Rattle.mta_histories.specs.History.{after, IsHistory}
use Rattle.mta_images.specs.Image.{OpensAt, size_of}
use Rattle.mta_spool.specs.Bases.{base_of, Keeps, where_listed}
use Rattle.mta_spool.specs.GoingOn.{HasOpened}
use Rattle.mta_spool.specs.Shown.{Shown}
use Rattle.mta_spool.specs.Stands.{Stands}
use Rattle.mta_spool.specs.Turning.{IsRecorded}
use Rattle.mta_stations.specs.Peers.{IsNamed}
use Rattle.mta_spool.specs.Moments.{AreTimed}
use Rattle.mta_commands.specs.declared.stop.Stop.{Stop}
use Rattle.mta_commands.specs.declared.stop.Stop.TheVariants as Stops
use Rattle.mta_commands.specs.Causes.{Cause, disk as cause_disk, full_serving, memory as cause_memory}
use Rattle.mta_commands.specs.Causes.{PeersNamed, spent_serving}
use Rattle.mta_commands.specs.Command.{HasEnded, OnStations, SourcesLeft}
use Rattle.mta_commands.specs.DiskLeft.{DiskLeft, opened}
use Rattle.mta_commands.specs.Handed.{DiskFailed, ForOpened, ForTables, Handed, InputsRead}
use Rattle.mta_commands.specs.Inputs.{HasTables}
use Rattle.mta_output.specs.Output.{Output}
use Rattle.mta_commands.specs.Output.{stopped}
use Rattle.mta_commands.specs.Provenance.{AreOfCall, AreOfRun, AreTablesOf}
use Rattle.mta_commands.specs.Serving.{HasBegun, IsOwnFull}
use Rattle.mta_commands.specs.Serving.{IsOwnRefusal, IsOwnSpent, RecordsFirst}
use Rattle.mta_commands.specs.Submit.{AreOwn, stop_of_step}
use Rattle.mta_commands.specs.Words.{AddsSteps, roles_named, Serves}
use Rattle.mta_commands.proofs.Added.{own_more as own_known}
use Rattle.mta_commands.proofs.Beginning.{own_more}
use Rattle.mta_commands.proofs.DiskStands.{disk_opened, same_steps}
use Rattle.mta_commands.proofs.Provenance.{first_front, first_none, first_tables, own_front, own_timed}
use Rattle.mta_commands.proofs.Same.{err_same}
use Rattle.mta_commands.proofs.Words.{serves_adds, serves_opens}
use Rattle.mta_commands.proofs.Worked.{prints_nothing}

-- the clock tells what it listed, or anything
pub among : {C : Type 0} (clocks : ClockView C) → ClockLaws clocks → (c : C) (listed : Option (List ℕ))
    → clocks.moments c ≡ listed → (m : ℕ)
    → ((moments : List ℕ) → where_listed listed ≡ moments ∷ [] → Contains moments m) → clocks.tells c m
among clocks laws c None e m contains = (laws.listed c m).1 (subst (λ (o : Option (List ℕ)). IsAmong o m) (sym e) tt)
among clocks laws c (Some moments) e m contains =
    (laws.listed c m).1 (subst (λ (o : Option (List ℕ)). IsAmong o m) (sym e) (contains moments refl))

-- what the spool's clock tells behind the workers, the clock that was handed in tells
pub tells_back : {D C : Type 0} (disks : DiskView D) (clocks : ClockView C) → ClockLaws clocks
    → (spool joined : Shown D C)
    → Keeps disks clocks joined (base_of disks clocks spool) → (m : ℕ) → clocks.tells joined.clock m
    → clocks.tells spool.opened.clock m
tells_back disks clocks laws spool joined k m tell =
    among clocks laws spool.opened.clock (clocks.moments spool.opened.clock) refl m
    (λ moments e. k.clock moments e m tell)

module _ {D C I : Type 0} (h : Handed D C I) (serves : Serves h.words) (laws : DiskLaws h.disks)
    (tables : TablesValue)
    (read : HasTables h.sources h.conf.before h.conf.after (Ok tables))
    (named : All (IsNamed tables) (roles_named h.words))
    (sources : SourcesLeft h) (inputs : InputsRead h) (spool : Shown D C) (o : HasOpened h.disks h.disk.before spool)
    (clock : spool.clock ≡ h.clock) where
  abbrev Tells : ℕ → Type 0
  Tells = h.clocks.tells h.clock

  from_first : (m : ℕ) → h.clocks.tells spool.clock m → Tells m
  from_first m tell = subst (λ (c : C). h.clocks.tells c m) clock tell

  adds : AddsSteps h.words
  adds = serves_adds h.words serves

  pub peers : PeersNamed h
  peers c e = (tables, subst (λ (x : List ℕ). tables_of x ≡ Ok tables) (read.read.0 c e) read.read.1, named)

  abbrev Begun : Shown D C → Result (Unit {0}) StepFault → Type 0
  Begun mid result = HasBegun h.disks (h.clocks.tells spool.clock) tables.text spool mid result

  -- ---- before the workers

  ok_err : ◌≡◌ {A = Result (Unit {0}) StepFault} (Ok tt) (Err StepFaults.Disk) → ⊥
  ok_err e = cc

  module _ (mid : Shown D C) (result : Result (Unit {0}) StepFault) (b : Begun mid result) where
    grown : h.disks.faults h.disk.before ≤ h.disks.faults spool.journal.disk
    grown = o.later

    failed_so : h.disk.after ≡ mid.journal.disk
        → Rose (h.disks.faults spool.journal.disk) (h.disks.faults mid.journal.disk) → DiskFailed h
    failed_so is r = omega (arith, r, grown, ap (λ (d : D). h.disks.faults d) is)

    begun_disk : h.disk.after ≡ mid.journal.disk
        → DiskLeft h.disks h.disk.before h.disk.after opened b.added b.torn_step
    begun_disk is =
        subst (λ (d : D). DiskLeft h.disks h.disk.before d opened b.added b.torn_step) (sym is)
        (disk_opened h.disks laws h.disk.before spool o mid b.added b.torn_step b.adds.later b.adds.told b.adds.one
        (λ calm. b.adds.calm (λ e. calm (omega (arith, b.refused StepFaults.Disk e, grown))))
        (λ f told. b.adds.leaves f told o.steps o.stands))

    begun_history : ForOpened h (λ steps. IsHistory (steps ++ (b.added ++ b.torn_step)))
    begun_history f found steps was s =
        subst (λ (y : List Step). IsHistory (y ++ (b.added ++ b.torn_step)))
        (same_steps h.disks laws h.disk.before spool o f found steps was s) (b.adds.history o.steps o.stands)

    pub begun_own : AreOfRun h (b.added ++ b.torn_step)
    begun_own c e = (
      subst (λ (x : List ℕ). RecordsFirst x (b.added ++ b.torn_step)) (read.read.0 c e) b.first,
      λ f found steps was s.
          subst (λ (x : List ℕ). AreOwn Tells x [] (after steps) (b.added ++ b.torn_step)) (read.read.0 c e)
          (subst (λ (y : List Step). AreOwn Tells tables.text [] (after y) (b.added ++ b.torn_step))
          (same_steps h.disks laws h.disk.before spool o f found steps was s)
          (own_known (h.clocks.tells spool.clock) Tells tables.text [] (after o.steps) (b.added ++ b.torn_step)
          from_first (b.adds.own o.steps o.stands))),
    )

    kept_first : RecordsFirst tables.text b.added
    kept_first = first_front tables.text b.added b.torn_step b.first

    begun_timed : AreTimed Tells (after o.steps) b.added
    begun_timed =
        own_timed Tells tables.text [] (after o.steps) b.added
        (own_known (h.clocks.tells spool.clock) Tells tables.text [] (after o.steps) b.added from_first
        (own_front (h.clocks.tells spool.clock) tables.text [] (after o.steps) b.added b.torn_step
        (b.adds.own o.steps o.stands)))

    pub begun_call : AreOfCall h b.added
    begun_call = record {
      tables = λ c e.
          subst (λ (x : List ℕ). AreTablesOf x b.added) (read.read.0 c e)
          (first_tables tables.text b.added kept_first);
      accepted = λ other. first_none tables.text b.added kept_first;
      moments = λ f found steps was s.
          subst (λ (y : List Step). AreTimed Tells (after y) b.added)
          (same_steps h.disks laws h.disk.before spool o f found steps was s) begun_timed;
      in_turn = λ is c e. subst (λ (x : List ℕ). RecordsFirst x b.added) (read.read.0 c e) kept_first;
    }

    pub begun_recorded : result ≡ Ok tt → ForTables h (λ c. ForOpened h (λ steps. IsRecorded (after (steps ++ b.added))
        c))
    begun_recorded ok c e f found steps was s =
        subst (λ (x : List ℕ). IsRecorded (after (steps ++ b.added)) x) (read.read.0 c e)
        (subst (λ (y : List Step). IsRecorded (after (y ++ b.added)) tables.text)
        (same_steps h.disks laws h.disk.before spool o f found steps was s)
        (subst (λ (x : State). IsRecorded x tables.text)
        (b.adds.stands (λ w. ok_err (sym ok ∙ w)) o.steps o.stands).state_is (b.recorded ok)))

    -- a step of them was refused
    full_cause : (added : List Step) (size need : ℕ) (final : Shown D C)
        → final.current ≡ after (o.steps ++ added) → final.journal.size ≡ size_of final.journal.first (o.steps ++ added)
        → final.journal.first ≡ spool.journal.first
        → ((c : List ℕ) → h.sources.left h.conf.before ≡ Some c → IsOwnFull Tells c final.current
        final.journal.size size need) → Cause h [] added opened (Stops.Full size need)
    full_cause added size need final is large place why =
        full_serving size need serves inputs (λ c e f found steps was s. (
          final.journal.first,
          subst (OpensAt f) (sym place) (o.place f was),
          subst
              (λ (y : List Step).
              IsOwnFull Tells c (after (y ++ added)) (size_of final.journal.first (y ++ added)) size need)
              (same_steps h.disks laws h.disk.before spool o f found steps was s)
              (subst (λ (n : ℕ). IsOwnFull Tells c (after (o.steps ++ added)) n size need) large
              (subst (λ (x : State). IsOwnFull Tells c x final.journal.size size need) is (why c e))),
        ))

    pub begun_cause : (fault : StepFault) → result ≡ Err fault → h.disk.after ≡ mid.journal.disk
        → Cause h [] b.added opened (stop_of_step fault)
    begun_cause fault e is = by_fault fault e (b.refused fault e)
      where
        stands : (f : StepFault) → result ≡ Err f → (f ≡ StepFaults.Disk → ⊥)
            → Stands h.disks mid (o.steps ++ b.added)
        stands f w other = b.adds.stands (λ x. other (err_same f StepFaults.Disk (sym w ∙ x))) o.steps o.stands

        by_fault : (f : StepFault) → result ≡ Err f
            → IsOwnRefusal (h.clocks.tells spool.clock) tables.text mid.current mid.journal.size
            (Rose (h.disks.faults spool.journal.disk) (h.disks.faults mid.journal.disk)) f
            → Cause h [] b.added opened (stop_of_step f)
        by_fault (StepFaults.Full size need) w r =
            let there = stands (StepFaults.Full size need) w (λ x. absurd cc) in
            full_cause b.added size need mid there.state_is there.holds.size b.adds.place (λ c told.
            subst (λ (x : List ℕ). IsOwnFull Tells x mid.current mid.journal.size size need) (read.read.0 c told)
            (own_more (h.clocks.tells spool.clock) Tells tables.text mid.current mid.journal.size (⊥) (⊥)
            (StepFaults.Full size need) from_first (λ x. x) r))
        by_fault (StepFaults.Spent last) w r =
            let there = stands (StepFaults.Spent last) w (λ x. absurd cc) in
            spent_serving last serves inputs (λ c told f found steps was s.
            subst (λ (y : List Step). IsOwnSpent Tells c (after (y ++ b.added)) last)
            (same_steps h.disks laws h.disk.before spool o f found steps was s)
            (subst (λ (x : State). IsOwnSpent Tells c x last) there.state_is
            (subst (λ (x : List ℕ). IsOwnSpent Tells x mid.current last) (read.read.0 c told)
            (own_more (h.clocks.tells spool.clock) Tells tables.text mid.current mid.journal.size (⊥) (⊥)
            (StepFaults.Spent last) from_first (λ x. x) r))))
        by_fault StepFaults.Disk w r = cause_disk adds inputs (failed_so is r)
        by_fault StepFaults.Memory w r = cause_memory opened
        by_fault any0 w r = absurd r

    -- the run stopped with that
    pub begun_ended : (stations : OnStations) (out : Output) (stop : Stop) → h.disk.after ≡ mid.journal.disk
        → out.after ≡ out.before → Cause h [] b.added opened stop
        → stations opened [] b.added b.torn_step → HasEnded h stations out (Err stop)
    begun_ended stations out stop is same cause left = record {
      opening = opened;
      ends = [];
      added = b.added;
      torn_step = b.torn_step;
      sources = sources;
      disk = begun_disk is;
      uncalled_unless = λ none. absurd (none (serves_opens h.words serves));
      safe_before = λ none. absurd (none serves);
      printed = stopped stop cause [] (inl refl) (prints_nothing out same);
      history = begun_history;
      own = λ none. absurd (none serves);
      in_turn = λ none. absurd (none serves);
      of_call = begun_call;
      only_adding = λ none. absurd (none adds);
      calm = λ ok. absurd cc;
      settled = λ e ok. absurd cc;
      recorded = λ e ok. absurd cc;
      undecided = λ ok. absurd cc;
      stations_are = left;
    }
