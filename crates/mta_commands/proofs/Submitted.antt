-- What `submit` leaves.
use Rattle.std.proofs.Common.{◌≡◌, ℕ, List, [], ◌++◌, Option, Some, Result, Ok, Err, refl, sym, subst}
use Rattle.std.proofs.Common.{◌∙◌, arith, inl, inr}
use Rattle.mta_edge.specs.Views.{DiskView, DiskLaws, ClockView, SourceView}
use Rattle.mta_edge.specs.Causes.{Rose}
use Rattle.mta_spool.specs.declared.why.OpenWhy.{OpenWhy}
use Rattle.mta_spool.specs.declared.why.OpenWhy.TheVariants as Whys
use Rattle.mta_records.specs.declared.step.Step.{Step}
use Rattle.mta_tables.specs.Tables.{TablesValue, tables_of}
use Rattle.mta_apdu.specs.Apdus.{longest_apdu}
use Rattle.mta_machine.specs.Apdu.{IsApdu}
use Rattle.mta_histories.specs.Lanes.{State}
use Rattle.mta_histories.specs.Due.{IsQuiet}
use Rattle.mta_histories.specs.History.{IsHistory, after}
use Rattle.mta_images.specs.Image.{OpensAt, size_of}
use Rattle.mta_images.specs.Opened.{Opens}
use Rattle.mta_spool.specs.GoingOn.{HasNotOpened, HasOpened}
use Rattle.mta_spool.specs.Shown.{Shown}
use Rattle.mta_spool.specs.Stands.{Stands, step_moment}
use Rattle.mta_spool.specs.Turning.{IsRecorded}
use Rattle.mta_commands.specs.declared.inputs.Inputs.{Inputs}
use Rattle.mta_spool.specs.Moments.{AreTimed}
use Rattle.mta_commands.specs.declared.stop.Stop.{Stop}
use Rattle.mta_commands.specs.declared.stop.Stop.TheVariants as Stops
use Rattle.mta_words.specs.declared.words.Words.TheVariants as Say
use Rattle.mta_commands.specs.Words.{AddsSteps, ReadsTables, ReadsApdu, OpensDisk, Serves}
use Rattle.mta_commands.specs.Handed.{Handed, handed, ForDisk, ForTables, ForOpenedDisk, DiskFailed, InputsRead}
use Rattle.mta_commands.specs.Inputs.{IsReadAsTables, AreTablesRead, HasTables, IsInputStop}
use Rattle.mta_commands.specs.Inputs.{HasInput, HasInputs, no_tables, no_apdu, both}
use Rattle.mta_output.specs.Output.{Output}
use Rattle.mta_commands.specs.Output.{PrintsOrFails, stopped}
use Rattle.mta_commands.specs.DiskLeft.{uncalled, refused, opened, DiskLeft}
use Rattle.mta_commands.specs.Submit.{AreOwn, IsFullFor, IsSpentFor, IsAccepted, IsWorkStop, full, spent, disk, memory}
use Rattle.mta_commands.specs.Submit.{IsAcceptedLine, HasWorked}
use Rattle.mta_commands.specs.Causes.{IsText, of_submit, Cause, tables as cause_tables, source as cause_source}
use Rattle.mta_commands.specs.Causes.{apdu as cause_apdu, memory as cause_memory, not_spool as cause_not_spool}
use Rattle.mta_commands.specs.Causes.{full_opening as cause_full_opening, not_opened as cause_not_opened}
use Rattle.mta_commands.specs.Causes.{disk as cause_disk, full as cause_full}
use Rattle.mta_commands.specs.Causes.{spent as cause_spent}
use Rattle.mta_commands.specs.Command.{NothingIsDue, SourcesLeft, HasEnded, NoneWorked}
use Rattle.mta_commands.specs.Images.{IsSafeBefore}
use Rattle.mta_commands.specs.Provenance.{AreOfCall, AreTablesOf}
use Rattle.mta_commands.specs.Shows.{stop_of_open}
use Rattle.mta_commands.proofs.Same.{err_same}
use Rattle.mta_commands.proofs.DiskStands.{before_opened, before_refused, disk_refused, disk_opened, same_steps}
use Rattle.mta_commands.proofs.Provenance.{own_front, own_tables, own_timed}
use Rattle.mta_commands.proofs.Worked.{prints_nothing}
use Rattle.mta_commands.proofs.HandedOn.{printed_map, undrawn_along, ended_alike, ended_early, none_undecided}

-- ---- the tables or the APDU were not read

pub tables_cause : {D C I : Type 0} (h : Handed D C I) (stop : Stop) → ReadsTables h.words → h.input.after
    ≡ h.input.before
    → AreTablesRead (h.sources.left h.conf.before)
    (Rose (h.sources.faults h.conf.before) (h.sources.faults h.conf.after)) (Err stop) → Cause h [] [] uncalled stop
tables_cause h (Stops.Tables line kind) reads same is = cause_tables line kind reads is same
tables_cause h Stops.Source reads same is = cause_source (inl (reads, is))
tables_cause h Stops.Memory reads same is = cause_memory uncalled
tables_cause h any1 reads same is = absurd is

apdu_cause : {D C I : Type 0} (h : Handed D C I) (stop : Stop) → ReadsApdu h.words
    → (ReadsTables h.words → ForTables h IsReadAsTables)
    → IsInputStop (h.sources.left h.input.before)
    (Rose (h.sources.faults h.input.before) (h.sources.faults h.input.after)) stop → Cause h [] [] uncalled stop
apdu_cause h (Stops.BadApdu at kind) reads read is = cause_apdu at kind reads read is
apdu_cause h Stops.Source reads read is = cause_source (inr (reads, is))
apdu_cause h Stops.Memory reads read is = cause_memory uncalled
apdu_cause h any1 reads read is = absurd is

-- the text of tables that were read has a value
pub tables_text : (conf : Option (List ℕ)) (failed : Type 0) (t : TablesValue) → AreTablesRead conf failed (Ok t)
    → (c : List ℕ) → conf ≡ Some c → IsReadAsTables c
tables_text conf failed t read c e = (t, subst (λ (x : List ℕ). tables_of x ≡ Ok t) (read.0 c e) read.1)

module _ {D C I : Type 0} (disks : DiskView D) (laws : DiskLaws disks) (clocks : ClockView C) (sources : SourceView I)
    (conf conf_after input input_after : I) (clock : C) (out : Output) where
  pub submit_early : (old : D) (stop : Stop) → out.after ≡ out.before → HasInputs sources conf conf_after input
      input_after (Err stop) → HasEnded
      (handed disks clocks sources (Some Say.Submit) conf conf_after input input_after old old clock) NoneWorked out
      (Err stop)
  submit_early old stop same (no_tables _ read untouched) =
      ended_early disks laws clocks sources (Some Say.Submit) conf conf_after input input_after old clock NoneWorked
      out stop
      (record {
        conf_untouched = λ none. absurd (none tt);
        input_untouched = λ none. absurd (none tt);
        conf =
            read.drawn;
        input = undrawn_along sources longest_apdu input input_after untouched;
      }) same
      (tables_cause (handed disks clocks sources (Some Say.Submit) conf conf_after input input_after old old clock)
      stop tt untouched read.read) refl
  submit_early old stop same (no_apdu _ t read behind) =
      ended_early disks laws clocks sources (Some Say.Submit) conf conf_after input input_after old clock NoneWorked
      out stop
      (record {
        conf_untouched = λ none. absurd (none tt);
        input_untouched = λ none. absurd (none tt);
        conf =
            read.drawn;
        input = behind.drawn;
      }) same
      (apdu_cause (handed disks clocks sources (Some Say.Submit) conf conf_after input input_after old old clock) stop
      tt (λ r. tables_text (sources.left conf) (Rose (sources.faults conf) (sources.faults conf_after)) t
      read.read) behind.read) refl

-- ---- both were read

submit_opens : {D C I : Type 0} (h : Handed D C I) → h.words ≡ Some Say.Submit → OpensDisk h.words
submit_opens h is = subst OpensDisk (sym is) tt

module _ {D C I : Type 0} (h : Handed D C I) (is : h.words ≡ Some Say.Submit) (x : Inputs)
    (read : HasTables h.sources h.conf.before h.conf.after (Ok x.tables))
    (behind : HasInput h.sources h.input.before h.input.after (Ok x.apdu)) where
  sources_left : SourcesLeft h
  sources_left = record {
    conf_untouched = λ none. absurd (none (subst ReadsTables (sym is) tt));
    input_untouched = λ none. absurd (none (subst ReadsApdu (sym is) tt));
    conf = read.drawn;
    input = behind.drawn;
  }

  inputs_read : InputsRead h
  inputs_read = record {
    tables = λ r. tables_text (h.sources.left h.conf.before)
        (Rose (h.sources.faults h.conf.before) (h.sources.faults h.conf.after)) x.tables read.read;
    apdu = λ r i e. subst IsApdu (behind.read.0 i e) behind.read.1;
  }

  -- ---- the disk was not opened

  refused_cause : (why : OpenWhy) → HasNotOpened h.disks h.disk.before h.disk.after why → Cause h [] [] refused
      (stop_of_open why)
  refused_cause (Whys.NotSpool at) refusal = cause_not_spool at (submit_opens h is) inputs_read
      (refusal.not_spool at refl)
  refused_cause (Whys.Full size need) refusal =
      cause_full_opening size need (submit_opens h is) inputs_read (refusal.full size need refl)
  refused_cause Whys.Disk refusal = cause_not_opened (submit_opens h is) inputs_read (refusal.disk refl)
  refused_cause Whys.Memory refusal = cause_memory refused

  pub submit_refused : DiskLaws h.disks → (out : Output) (why : OpenWhy) → out.after ≡ out.before
      → HasNotOpened h.disks h.disk.before h.disk.after why → HasEnded h NoneWorked out (Err (stop_of_open why))
  submit_refused laws out why same refusal =
      ended_alike h NoneWorked out (Err (stop_of_open why)) refused sources_left
      (disk_refused h.disks laws h.disk.before h.disk.after why refusal)
      (before_refused h.disks laws h.disk.before h.disk.after why refusal) (λ e ok. absurd cc)
      (λ none. absurd (none (submit_opens h is)))
      (stopped (stop_of_open why) (refused_cause why refusal) [] (inl refl) (prints_nothing out same)) refl

  -- ---- it was opened, and worked on

  full_cause : (new : Shown D C) (base added : List Step) (used need : ℕ) → Stands h.disks new (base ++ added)
      → ((f : List ℕ) (found steps : List Step) → h.disks.content h.disk.before ≡ Some f → Opens f found steps
      → base ≡ steps)
      → ForDisk h (λ f. OpensAt f new.journal.first)
      → IsFullFor (h.clocks.tells h.clock) x.tables.text x.apdu added new.current new.journal.size used need
      → Cause h [] added opened (Stops.Full used need)
  full_cause new base added used need there same opens r =
      cause_full used need is inputs_read (λ c e i w f found steps was s. (
        new.journal.first,
        opens f was,
        subst (λ (y : List Step). IsFullFor (h.clocks.tells h.clock) c i added (after (y ++ added))
            (size_of new.journal.first (y ++ added)) used need) (same f found steps was s)
            (subst (λ (n : ℕ). IsFullFor (h.clocks.tells h.clock) c i added (after (base ++ added)) n used need)
            there.holds.size
            (subst (λ (y : State). IsFullFor (h.clocks.tells h.clock) c i added y new.journal.size used need)
            there.state_is
            (subst (λ (y : List ℕ). IsFullFor (h.clocks.tells h.clock) c y added new.current new.journal.size used need)
            (behind.read.0 i w)
            (subst (λ (y : List ℕ). IsFullFor (h.clocks.tells h.clock) y x.apdu added new.current new.journal.size used
            need) (read.read.0 c e) r)))),
      ))

  spent_cause : (new : Shown D C) (base added : List Step) (last : ℕ) → Stands h.disks new (base ++ added)
      → ((f : List ℕ) (found steps : List Step) → h.disks.content h.disk.before ≡ Some f → Opens f found steps
      → base ≡ steps) → IsSpentFor (h.clocks.tells h.clock) x.tables.text x.apdu added new.current last
      → Cause h [] added opened (Stops.Spent last)
  spent_cause new base added last there same r = cause_spent last is inputs_read (λ c e i w f found steps was s.
      subst (λ (y : List Step). IsSpentFor (h.clocks.tells h.clock) c i added (after (y ++ added)) last)
      (same f found steps was s)
      (subst (λ (y : State). IsSpentFor (h.clocks.tells h.clock) c i added y last) there.state_is
      (subst (λ (y : List ℕ). IsSpentFor (h.clocks.tells h.clock) c y added new.current last) (behind.read.0 i w)
      (subst (λ (y : List ℕ). IsSpentFor (h.clocks.tells h.clock) y x.apdu added new.current last) (read.read.0 c e)
      r))))

  work_cause : (new : Shown D C) (base added : List Step) (failed : Type 0) (stop : Stop)
      → ((stop ≡ Stops.Disk → ⊥) → Stands h.disks new (base ++ added))
      → ((f : List ℕ) (found steps : List Step) → h.disks.content h.disk.before ≡ Some f → Opens f found steps
      → base ≡ steps) → ForDisk h (λ f. OpensAt f new.journal.first) → (failed → DiskFailed h)
      → IsWorkStop (h.clocks.tells h.clock) x.tables.text x.apdu added new.current new.journal.size failed stop
      → Cause h [] added opened stop
  work_cause new base added failed _ there same opens risen (full used need r) = full_cause new base added used need
      (there (λ e. absurd cc)) same opens r
  work_cause new base added failed _ there same opens risen (spent last r) = spent_cause new base added last
      (there (λ e. absurd cc)) same r
  work_cause new base added failed _ there same opens risen (disk r) =
      cause_disk (subst AddsSteps (sym is) tt) inputs_read (risen r)
  work_cause new base added failed _ there same opens risen memory = cause_memory opened

  work_text : (spool : Shown D C) (base added : List Step) (text : List ℕ) → Stands h.disks spool base
      → ((f : List ℕ) (found steps : List Step) → h.disks.content h.disk.before ≡ Some f → Opens f found steps
      → base ≡ steps) → IsAcceptedLine h.disks spool added x.apdu text → IsText h [] added opened text
  work_text spool base added text stands same line = of_submit line.number text is inputs_read line.small line.text_is
      (λ i w f found steps was s.
      subst (λ (y : List Step). IsAccepted y added i line.number) (same f found steps was s)
      (subst (λ (y : List ℕ). IsAccepted base added y line.number) (behind.read.0 i w) (line.accepted base stands)))

  pub submit_worked : (out : Output) (result : Result (Unit {0}) Stop) (spool new : Shown D C) (base : List Step)
      → Stands h.disks spool base
      → ((f : List ℕ) (found steps : List Step) → h.disks.content h.disk.before ≡ Some f → Opens f found steps
      → base ≡ steps)
      → ForDisk h (λ f. OpensAt f spool.journal.first)
      → (Rose (h.disks.faults spool.journal.disk) (h.disks.faults new.journal.disk) → DiskFailed h)
      → (has : HasWorked h.disks (h.clocks.tells h.clock) x.tables.text x.apdu out spool new result)
      → DiskLeft h.disks h.disk.before h.disk.after opened has.added has.torn_step
      → ForOpenedDisk h (λ f steps. IsSafeBefore h.disks f steps (has.added ++ has.torn_step) h.disk.before
      h.disk.after)
      → HasEnded h NoneWorked out result
  submit_worked out result spool new base stands same opens risen has left before = record {
    opening = opened;
    ends = [];
    added = has.added;
    torn_step = has.torn_step;
    sources = sources_left;
    disk = left;
    uncalled_unless = λ none. absurd (none (submit_opens h is));
    safe_before = λ none. before;
    printed = printed_map out result
        (λ stop e why. work_cause new base has.added
        (Rose (h.disks.faults spool.journal.disk) (h.disks.faults new.journal.disk)) stop
        (λ other. has.adds.stands (λ w. other (err_same stop Stops.Disk (sym e ∙ w))) base stands) same
        (λ f was. subst (OpensAt f) (sym has.adds.place) (opens f was)) risen why)
        (λ t line. work_text spool base has.added t stands same line) has.printed;
    history = λ f found steps was s. subst (λ (y : List Step). IsHistory (y ++ (has.added ++ has.torn_step)))
        (same f found steps was s) (has.adds.history base stands);
    own = λ none c e i w f found steps was s. subst
        (λ (y : List Step). AreOwn (h.clocks.tells h.clock) c i (after y) (has.added ++ has.torn_step))
        (same f found steps was s)
        (subst (λ (y : List ℕ). AreOwn (h.clocks.tells h.clock) c y (after base) (has.added ++ has.torn_step))
        (behind.read.0 i w)
        (subst (λ (y : List ℕ). AreOwn (h.clocks.tells h.clock) y x.apdu (after base) (has.added ++ has.torn_step))
        (read.read.0 c e) (has.adds.own base stands)));
    in_turn = λ none. has.in_turn;
    of_call = of_call;
    only_adding = λ other. absurd (other (subst AddsSteps (sym is) tt));
    calm = λ ok. has.adds.calm (λ e. ok_err (sym ok ∙ e));
    settled = λ e ok f found steps was s. settled_there ok f found steps was s;
    recorded = λ e ok c w f found steps was s. subst (λ (y : List Step). IsRecorded (after (y ++ has.added)) c)
        (same f found steps was s)
        (subst (λ (y : State). IsRecorded y c) (there ok).state_is
        (subst (IsRecorded new.current) (read.read.0 c w) (has.tables ok)));
    undecided = λ ok. none_undecided;
    stations_are = refl;
  } where
    ok_err : ◌≡◌ {A = Result (Unit {0}) Stop} (Ok tt) (Err Stops.Disk) → ⊥
    ok_err e = cc

    own_added : AreOwn (h.clocks.tells h.clock) x.tables.text x.apdu (after base) has.added
    own_added =
        own_front (h.clocks.tells h.clock) x.tables.text x.apdu (after base) has.added has.torn_step
        (has.adds.own base stands)

    of_call : AreOfCall h has.added
    of_call = record {
      tables = λ c e.
          subst (λ (y : List ℕ). AreTablesOf y has.added) (read.read.0 c e)
          (own_tables (h.clocks.tells h.clock) x.tables.text x.apdu (after base) has.added own_added);
      accepted = λ other. absurd (other is);
      moments = λ f found steps was s.
          subst (λ (y : List Step). AreTimed (h.clocks.tells h.clock) (after y) has.added) (same f found steps was s)
          (own_timed (h.clocks.tells h.clock) x.tables.text x.apdu (after base) has.added own_added);
      in_turn = λ serves. absurd (subst Serves is serves);
    }

    there : result ≡ Ok tt → Stands h.disks new (base ++ has.added)
    there ok = has.adds.stands (λ e. ok_err (sym ok ∙ e)) base stands

    settled_there : result ≡ Ok tt → (f : List ℕ) (found steps : List Step) → h.disks.content h.disk.before ≡ Some f
        → Opens f found steps → NothingIsDue (h.clocks.tells h.clock) (steps ++ has.added)
    settled_there ok f found steps was s =
        subst (λ (y : List Step). NothingIsDue (h.clocks.tells h.clock) (y ++ has.added)) (same f found steps was s)
        (subst (λ (y : State). (told : ℕ) × h.clocks.tells h.clock told × IsQuiet y (step_moment told y.moment))
        (there ok).state_is (has.quiet ok))

-- the disk failed in a step where working on it stopped for that
pub work_failed : {D C : Type 0} (disks : DiskView D) (tells : ℕ → Type 0) (conf input : List ℕ) (out : Output)
    (old new : Shown D C) (result : Result (Unit {0}) Stop) → HasWorked disks tells conf input out old new result
    → result ≡ Err Stops.Disk
    → Rose (disks.faults old.journal.disk) (disks.faults new.journal.disk)
work_failed disks tells conf input out old new result has e = failed_in result has.printed e where
  Why : Stop → Type 0
  Why = IsWorkStop tells conf input has.added new.current new.journal.size
      (Rose (disks.faults old.journal.disk) (disks.faults new.journal.disk))

  disk_only : (stop : Stop) → stop ≡ Stops.Disk → Why stop → Rose (disks.faults old.journal.disk)
      (disks.faults new.journal.disk)
  disk_only _ w (full used need r) = absurd cc
  disk_only _ w (spent last r) = absurd cc
  disk_only _ w (disk r) = r
  disk_only _ w memory = absurd cc

  failed_in : (r : Result (Unit {0}) Stop) → PrintsOrFails Why (IsAcceptedLine disks old has.added input) out r
      → r ≡ Err Stops.Disk → Rose (disks.faults old.journal.disk) (disks.faults new.journal.disk)
  failed_in _ (stopped stop why t f p) w = disk_only stop (err_same stop Stops.Disk w) why
  failed_in _ any1 w = absurd cc

-- ---- the calls

pub both_read : {I : Type 0} (sources : SourceView I) (conf conf_after input input_after : I) (x : Inputs) → HasInputs
    sources conf conf_after input input_after (Ok x) → HasTables sources conf conf_after (Ok x.tables) × HasInput
    sources input input_after (Ok x.apdu)
both_read sources conf conf_after input input_after x (both _ read behind) = (read, behind)

module _ {D C I : Type 0} (disks : DiskView D) (laws : DiskLaws disks) (clocks : ClockView C) (sources : SourceView I)
    (conf conf_after input input_after : I) (clock : C) (out : Output) (old : D) (x : Inputs)
    (inputs : HasInputs sources conf conf_after input input_after (Ok x)) where
  pub submit_unopened : (new : D) (why : OpenWhy) → out.after ≡ out.before → HasNotOpened disks old new why
      → HasEnded (handed disks clocks sources (Some Say.Submit) conf conf_after input input_after old new clock)
      NoneWorked out (Err (stop_of_open why))
  submit_unopened new why same refusal =
      let b = both_read sources conf conf_after input input_after x inputs in
      submit_refused (handed disks clocks sources (Some Say.Submit) conf conf_after input input_after old new clock)
      refl x b.0 b.1 laws out why same refusal

  pub submit_opened : (spool new : Shown D C) (result : Result (Unit {0}) Stop) → HasOpened disks old spool
      → HasWorked disks (clocks.tells clock) x.tables.text x.apdu out spool new result
      → HasEnded (handed disks clocks sources (Some Say.Submit) conf conf_after input input_after old new.journal.disk
      clock) NoneWorked out result
  submit_opened spool new result o has =
      let b = both_read sources conf conf_after input input_after x inputs in
      submit_worked (handed disks clocks sources (Some Say.Submit) conf conf_after input input_after old
      new.journal.disk clock) refl x b.0 b.1 out result spool new o.steps o.stands
      (same_steps disks laws old spool o) o.place risen has
      (disk_opened disks laws old spool o new has.added has.torn_step has.adds.later has.adds.told has.adds.one
      (λ calm. has.adds.calm
      (λ e. calm (risen (work_failed disks (clocks.tells clock) x.tables.text x.apdu out spool new result has
      e)))) (λ f told. has.adds.leaves f told o.steps o.stands))
      (before_opened disks laws old spool o new has.added has.torn_step
      (λ f told. has.adds.leaves f told o.steps o.stands))
    where
      risen : Rose (disks.faults spool.journal.disk) (disks.faults new.journal.disk) → Rose (disks.faults old)
          (disks.faults new.journal.disk)
      risen r = omega (arith, o.later, r)
