-- What `serve` leaves behind its workers.
use Rattle.std.proofs.Common.{◌≡◌, ℕ, true, false, List, [], ◌++◌, length, map, Some, Result, Ok, Err, refl}
use Rattle.std.proofs.Common.{sym, ap, subst, ◌∙◌, append_assoc, arith, inl, inr}
use Rattle.std.proofs.lemmas.List.{append-nil, length-map}
use mathlib.Core.List.{IsPrefix}
use Rattle.mta_edge.specs.Causes.{Rose}
use Rattle.mta_edge.specs.Views.{ClockLaws, ClockView, DiskLaws, DiskView}
use Rattle.mta_links.specs.Links.{LinkView, StationView}
use Rattle.mta_links.specs.declared.role.Role.{Role}
use Rattle.mta_records.specs.Body.{body_of}
use Rattle.mta_records.specs.declared.step.Step.{Step}
use Rattle.mta_records.specs.declared.fault.StepFault.{StepFault}
use Rattle.mta_records.specs.declared.fault.StepFault.TheVariants as StepFaults
use Rattle.mta_histories.specs.Lanes.{empty, State}
use Rattle.mta_histories.specs.Due.{IsQuiet}
use Rattle.mta_histories.specs.History.{after, IsHistory}
use Rattle.mta_histories.specs.History.{after as after_steps}
use Rattle.mta_images.specs.Image.{AreRecords, OpensAt, size_of, StandsFor}
use Rattle.mta_images.specs.Opened.{base_of as compacted_of, IsFound, Opens}
use Rattle.mta_session.specs.declared.limits.Limits.{Limits}
use Rattle.mta_spool.specs.Bases.{base_of, HasTold, Keeps, where_listed}
use Rattle.mta_spool.specs.GoingOn.{HasOpened}
use Rattle.mta_spool.proofs.Crashing.{stands_held}
use Rattle.mta_spool.specs.Shown.{Shown}
use Rattle.mta_spool.specs.Stands.{step_moment}
use Rattle.mta_spool.specs.Turning.{IsRecorded}
use Rattle.mta_stations.specs.Stations.{roles_in}
use Rattle.mta_stations.specs.declared.end.WorkerEnd.{WorkerEnd}
use Rattle.mta_worker_list_laws.specs.Agreeing.{EndsAgree}
use Rattle.mta_worker_list_laws.specs.Histories.{AreEntries, is_apdu, TellsApdus}
use Rattle.mta_lane_list_laws.specs.Called.{CalledLanesOfStationsAgree, CallOthers}
use Rattle.mta_lane_list_laws.specs.Lanes.{LanesOfStationsAgree}
use Rattle.mta_worker.specs.Wholes.{AreWorkers}
use Rattle.mta_spool.specs.Moments.{AreTimed}
use Rattle.mta_worker_step_laws.specs.Steps.{AreMade, Tells as TellsUnder}
use Rattle.mta_worker_step_laws.proofs.Turns.{front_records}
use Rattle.mta_worker_step_laws.proofs.Workers.{steps_are_timed}
use Rattle.mta_commands.specs.declared.stop.Stop.{Stop}
use Rattle.mta_commands.specs.Causes.{Cause, disk as cause_disk, full_serving, memory as cause_memory, of_serve}
use Rattle.mta_commands.specs.Causes.{of_worker, PeersNamed, spent_serving}
use Rattle.mta_commands.specs.Command.{HasEnded, NothingIsDue, SourcesLeft}
use Rattle.mta_commands.specs.DiskLeft.{DiskLeft, opened}
use Rattle.mta_commands.specs.Handed.{DiskFailed, ForDisk, ForOpened, ForTables, Handed, InputsRead}
use Rattle.mta_output.specs.Output.{Output}
use Rattle.mta_run.specs.Served.{AreLimits, ComesBehind, Had_failed, IsBaseOf, StationsLeft, Went_on}
use Rattle.mta_run.specs.Served.{Worked}
use Rattle.mta_commands.specs.Serving.{Decided, Had_ended, HasFinished, IsFinishStop, IsOutcome, IsOwnFull}
use Rattle.mta_commands.specs.Serving.{IsOwnRefusal}
use Rattle.mta_commands.specs.Serving.{IsOwnSpent, Refused, Settled, SettlesBehind, Well}
use Rattle.mta_run.specs.Sessions.{SessionsServed}
use Rattle.mta_commands.specs.Provenance.{AreOfCall, AreOfRun}
use Rattle.mta_commands.specs.Submit.{AreInTurn, AreOwn, HasSettled, stop_of_step}
use Rattle.mta_commands.specs.Words.{roles_named, Serves}
use Rattle.mta_commands.proofs.Added.{after_append, front_in_turn, own_more as own_known}
use Rattle.mta_commands.proofs.Beginning.{own_more, settled_why}
use Rattle.mta_commands.proofs.DiskServed.{disk_served, fails_behind, fails_kept, FailsIn, first_steps, has_told}
use Rattle.mta_commands.proofs.DiskServed.{risen}
use Rattle.mta_commands.proofs.DiskStands.{same_found, same_steps}
use Rattle.mta_commands.proofs.HandedOn.{printed_map}
use Rattle.mta_commands.proofs.Provenance.{late_append, more_of_call, own_front, own_timed, recorded_behind}
use Rattle.mta_commands.proofs.Provenance.{timed_append}
use Rattle.mta_commands.proofs.Same.{err_same}
use Rattle.mta_commands.proofs.ServedSpool.{among, tells_back}
use Rattle.mta_commands.proofs.Words.{serves_adds, serves_opens}
use Rattle.mta_run.proofs.BehindWorkers.{behind_for_none}
use Rattle.mta_run.proofs.EndsAsMany.{ends_as_many}
use Rattle.mta_run.proofs.Made.{made_late, made_timed}

-- what holds of the sessions that workers serve
pub record SessionLaws {D C L S : Type 0} (disks : DiskView D) (clocks : ClockView C) (links : LinkView L)
    (stations : StationView S) : Type 0 where
  pub tells : TellsApdus is_apdu
  pub agree : EndsAgree disks clocks links stations
  pub lanes : LanesOfStationsAgree links
  pub called : CalledLanesOfStationsAgree links

-- what is known of the steps before them
pub record IsFront {D C I : Type 0} (h : Handed D C I) (front : List Step) : Type 0 where
  pub own : AreOfRun h front
  pub of_call : AreOfCall h front
  pub recorded : ForTables h (λ c. ForOpened h (λ steps. IsRecorded (after (steps ++ front)) c))

module _ {D C I : Type 0} (h : Handed D C I) (serves : Serves h.words) (laws : DiskLaws h.disks)
    (clock_laws : ClockLaws h.clocks) (sources : SourcesLeft h) (inputs : InputsRead h) (peers : PeersNamed h)
    (spool : Shown D C) (o : HasOpened h.disks h.disk.before spool) (handed_clock : spool.opened.clock ≡ h.clock)
    (joined final : Shown D C) (kj : Keeps h.disks h.clocks joined (base_of h.disks h.clocks spool))
    (k : Keeps h.disks h.clocks final (base_of h.disks h.clocks spool)) (after_is : h.disk.after ≡ final.journal.disk)
    (ends : List WorkerEnd) where
  abbrev Tells : ℕ → Type 0
  Tells = h.clocks.tells h.clock

  from_joined : (m : ℕ) → h.clocks.tells joined.clock m → Tells m
  from_joined m tell =
      subst (λ (c : C). h.clocks.tells c m) handed_clock
      (tells_back h.disks h.clocks clock_laws spool joined kj m tell)

  failed_so : Rose (h.disks.faults h.disk.before) (h.disks.faults final.journal.disk) → DiskFailed h
  failed_so r =
      subst (λ (d : D). Rose (h.disks.faults h.disk.before) (h.disks.faults d)) (sym after_is) r

  abbrev Finishes : Result (Unit {0}) StepFault → Type 0
  Finishes settled = SettlesBehind h.disks (h.clocks.tells joined.clock) joined final settled

  -- the same first history in all of them
  firsts : (f : List ℕ) (found steps : List Step) → h.disks.content h.disk.before ≡ Some f → Opens f found steps
      → k.first ≡ steps
  firsts f found steps was s = first_steps h.disks laws h.clocks h.disk.before spool o final k f found steps was s

  firsts_joined : (f : List ℕ) (found steps : List Step) → h.disks.content h.disk.before ≡ Some f → Opens f found steps
      → kj.first ≡ steps
  firsts_joined f found steps was s = first_steps h.disks laws h.clocks h.disk.before spool o joined kj f found steps
      was s

  -- ---- what the last turns made

  record Behind (settled : Result (Unit {0}) StepFault) : Type 0 where
    back : List Step
    entries : final.entries ≡ joined.entries ++ back
    torn_step : List Step
    fails : FailsIn h.disks laws h.clocks h.disk.before spool o final k torn_step
    last : ComesBehind h joined.entries back torn_step
    calm : settled ≡ Ok tt → torn_step ≡ []

  has_ended : (s : Shown D C) → final ≡ s → s.journal.ended ≡ true → final.journal.ended ≡ true
  has_ended s same ended = ap (λ (x : Shown D C). x.journal.ended) same ∙ ended

  ok_err : (fault : StepFault) → ◌≡◌ {A = Result (Unit {0}) StepFault} (Ok tt) (Err fault) → ⊥
  ok_err fault e = cc

  behind : (settled : Result (Unit {0}) StepFault) → Finishes settled → Behind settled
  behind _ (Had_ended ended same) = record {
    back = [];
    entries = ap (λ (s : Shown D C). s.entries) same ∙ sym (append-nil joined.entries);
    torn_step = k.torn_step;
    fails = fails_kept h.disks laws h.clocks h.disk.before spool o final k;
    last = Had_failed
        (failed_so (risen h.disks laws h.clocks h.disk.before spool o final k (has_ended joined same ended))) refl;
    calm = λ ok. absurd (ok_err StepFaults.Ended (sym ok));
  }
  behind _ (Settled result going x) = record {
    back = x.added;
    entries = (x.adds [] []).entries;
    torn_step = x.torn_step;
    fails = fails_behind h.disks laws h.clocks h.disk.before spool o final k joined kj going result x;
    last = Went_on (
      x.in_turn,
      λ f found steps was s.
          subst (λ (y : List Step). AreOwn Tells [] [] (after (y ++ joined.entries)) (x.added ++ x.torn_step))
          (firsts_joined f found steps was s)
          (own_known (h.clocks.tells joined.clock) Tells [] [] (after (kj.first ++ joined.entries))
          (x.added ++ x.torn_step) from_joined ((x.adds [] []).own (kj.first ++ joined.entries) (kj.stands going))),
    );
    calm = λ ok. (x.adds [] []).calm (λ e. ok_err StepFaults.Disk (sym ok ∙ e));
  }

  quiet : (settled : Result (Unit {0}) StepFault) → Finishes settled → settled ≡ Ok tt
      → (told : ℕ) × Tells told × IsQuiet final.current (step_moment told final.current.moment)
  quiet _ (Had_ended ended same) ok = absurd cc
  quiet _ (Settled result going x) ok = let q = x.quiet ok in (q.0, from_joined q.0 q.1, q.2)

  -- it comes behind tables, and each moment of it is one of the clock's
  back_late : (before back torn_step : List Step) → ComesBehind h before back torn_step → AreInTurn 2 back
  back_late before back torn_step (Went_on due) = front_in_turn 2 back torn_step due.0
  back_late before back torn_step (Had_failed failed none) = subst (AreInTurn 2) (sym none) tt

  back_timed : (before back torn_step : List Step) → ComesBehind h before back torn_step
      → ForOpened h (λ steps. AreTimed Tells (after_steps (steps ++ before)) back)
  back_timed before back torn_step (Went_on due) f found steps was s =
      own_timed Tells [] [] (after_steps (steps ++ before)) back
      (own_front Tells [] [] (after_steps (steps ++ before)) back torn_step (due.1 f found steps was s))
  back_timed before back torn_step (Had_failed failed none) f found steps was s =
      subst (AreTimed Tells (after_steps (steps ++ before))) (sym none) tt

  -- what the base lists the clock tells that was handed in
  listed : (m : ℕ) → TellsUnder (base_of h.disks h.clocks spool) m → Tells m
  listed m told =
      subst (λ (c : C). h.clocks.tells c m) handed_clock
      (among h.clocks clock_laws spool.opened.clock (h.clocks.moments spool.opened.clock) refl m told)

  -- ---- why it stopped

  abbrev Why : Stop → Type 0
  Why = Cause h ends final.entries opened

  own_why : (fault : StepFault) → (x : HasSettled h.disks (h.clocks.tells joined.clock) joined final (Err fault))
      → Why (stop_of_step fault)
  own_why fault x = by_fault fault x
      (λ c. settled_why h.disks (h.clocks.tells joined.clock) c joined final fault (Err fault)
      refl x)
    where
      Wherefore : StepFault → Type 0
      Wherefore f = (c : List ℕ) → IsOwnRefusal (h.clocks.tells joined.clock) c final.current final.journal.size
          (Rose (h.disks.faults joined.journal.disk) (h.disks.faults final.journal.disk)) f

      known : (f : StepFault) → HasSettled h.disks (h.clocks.tells joined.clock) joined final (Err f)
          → (f ≡ StepFaults.Disk → ⊥) → final.journal.ended ≡ false
      known f y other = y.going (λ e. other (err_same f StepFaults.Disk e))

      by_fault : (f : StepFault) → HasSettled h.disks (h.clocks.tells joined.clock) joined final (Err f)
          → Wherefore f → Why (stop_of_step f)
      by_fault (StepFaults.Full size need) y r =
          let there = k.stands (known (StepFaults.Full size need) y (λ e. absurd cc)) in
          full_serving size need serves inputs (λ c told f found steps was s. (
            final.journal.first,
            subst (OpensAt f) (sym (k.place ∙ o.first)) (o.place f was),
            subst
                (λ (z : List Step).
                IsOwnFull Tells c (after (z ++ final.entries)) (size_of final.journal.first (z ++ final.entries)) size
                need)
                (firsts f found steps was s)
                (subst (λ (n : ℕ). IsOwnFull Tells c (after (k.first ++ final.entries)) n size need) there.holds.size
                (subst (λ (z : State). IsOwnFull Tells c z final.journal.size size need) k.state
                (own_more (h.clocks.tells joined.clock) Tells c final.current final.journal.size (⊥) (⊥)
                (StepFaults.Full size need) from_joined (λ z. z) (r c)))),
          ))
      by_fault (StepFaults.Spent last) y r =
          spent_serving last serves inputs (λ c told f found steps was s.
          subst (λ (z : List Step). IsOwnSpent Tells c (after (z ++ final.entries)) last) (firsts f found steps was s)
          (subst (λ (z : State). IsOwnSpent Tells c z last) k.state
          (own_more (h.clocks.tells joined.clock) Tells c final.current final.journal.size (⊥) (⊥)
          (StepFaults.Spent last) from_joined (λ z. z) (r c))))
      by_fault StepFaults.Disk y r =
          let rose = r [] in
          let low = kj.count in
          cause_disk (serves_adds h.words serves) inputs (failed_so (omega (
            arith,
            rose,
            low,
            ap (λ (d : D). h.disks.faults d) o.disk,
          )))
      by_fault StepFaults.Memory y r = cause_memory opened
      by_fault any0 y r = absurd (r [])

  refused_why : (settled : Result (Unit {0}) StepFault) (fault : StepFault) → Finishes settled
      → settled ≡ Err fault → Why (stop_of_step fault)
  refused_why _ fault (Had_ended ended same) e =
      let is = has_ended joined same ended in
      subst (λ (f : StepFault). Why (stop_of_step f)) (err_same StepFaults.Ended fault e)
      (cause_disk (serves_adds h.words serves) inputs
      (failed_so (risen h.disks laws h.clocks h.disk.before spool o final k is)))
  refused_why settled fault (Settled _ going x) e =
      own_why fault (subst (HasSettled h.disks (h.clocks.tells joined.clock) joined final) e x)

  outcome_why : (settled : Result (Unit {0}) StepFault) → Finishes settled → (stop : Stop)
      → (result : Result (Unit {0}) Stop) → result ≡ Err stop → IsOutcome settled ends result → Why stop
  outcome_why settled x stop _ e (Well ok undecided) = absurd cc
  outcome_why settled x stop _ e (Refused fault is) =
      subst Why (err_same (stop_of_step fault) stop e) (refused_why settled fault x is)
  outcome_why settled x stop _ e (Decided halt ok decides) =
      subst Why (err_same _ stop e) (of_worker halt serves inputs decides)

  finish_why : (settled : Result (Unit {0}) StepFault) → Finishes settled → (stop : Stop)
      → IsFinishStop settled ends stop → Why stop
  finish_why settled x stop (inl short) = subst Why (sym short) (cause_memory opened)
  finish_why settled x stop (inr o) = outcome_why settled x stop (Err stop) refl o

  -- ---- all of it

  pub served_ended : {L S : Type 0} (links : LinkView L) (stations : StationView S)
      → SessionLaws h.disks h.clocks links stations → (sessions : ℕ) (limits : Limits) → AreLimits sessions limits
      → (before after : List S) (out : Output) (result : Result (Unit {0}) Stop) (front : List Step)
      → roles_in stations before ≡ roles_named h.words → CallOthers (roles_in stations before) → IsFront h front
      → (grown : IsPrefix front joined.entries)
      → AreWorkers h.disks h.clocks links stations limits before after ends front (base_of h.disks h.clocks spool)
      joined.entries → HasFinished h.disks (h.clocks.tells joined.clock) ends out joined final result
      → HasEnded h (StationsLeft h links stations sessions before after) out result
  served_ended links stations known most limits are before after out result front roles apart own grown did x = record {
    opening = opened;
    ends = ends;
    added = final.entries;
    torn_step = b.torn_step;
    sources = sources;
    disk = subst (λ (d : D). DiskLeft h.disks h.disk.before d opened final.entries b.torn_step) (sym after_is)
        (disk_served h.disks laws h.clocks h.disk.before spool o final k b.torn_step b.fails);
    uncalled_unless = λ none. absurd (none (serves_opens h.words serves));
    safe_before = λ none. absurd (none serves);
    printed = printed_map out result (λ stop e why. finish_why x.settled x.behind stop why)
        (λ t is. of_serve t serves inputs peers as_many is) x.printed;
    history = λ f found steps was s.
        subst (λ (y : List Step). IsHistory (y ++ (final.entries ++ b.torn_step))) (firsts f found steps was s)
        b.fails.tried;
    own = λ none. absurd (none serves);
    in_turn = λ none. absurd (none serves);
    of_call = of_call;
    only_adding = λ none. absurd (none (serves_adds h.words serves));
    calm = λ ok. b.calm (x.well ok).0;
    settled = λ e ok f found steps was s.
        subst (λ (y : List Step). NothingIsDue Tells (y ++ final.entries)) (firsts f found steps was s)
        (subst (λ (z : State). (told : ℕ) × Tells told × IsQuiet z (step_moment told z.moment)) k.state
        (quiet x.settled x.behind (x.well ok).0));
    recorded = λ e ok. recorded;
    undecided = λ ok. (x.well ok).1;
    stations_are = Worked serves limits front grown.0 b.back (base_of h.disks h.clocks spool) are refl whole found
        own.own theirs sessions_are
        (subst (λ (y : List Step). ComesBehind h y b.back b.torn_step) (sym grown.1) b.last);
  } where
    as_many : length ends ≡ length (roles_named h.words)
    as_many =
        ends_as_many h.disks h.clocks links stations limits before after ends front (base_of h.disks h.clocks spool)
        joined.entries did
        ∙ (sym (length-map before stations.role) ∙ ap (λ (rs : List Role). length rs) roles)

    b : Behind x.settled
    b = behind x.settled x.behind

    whole : final.entries ≡ front ++ (grown.0 ++ b.back)
    whole = b.entries ∙ (ap (λ (y : List Step). y ++ b.back) (sym grown.1) ∙ append_assoc front grown.0 b.back)

    theirs : AreWorkers h.disks h.clocks links stations limits before after ends front
        (base_of h.disks h.clocks spool) (front ++ grown.0)
    theirs =
        subst (AreWorkers h.disks h.clocks links stations limits before after ends front
        (base_of h.disks h.clocks spool)) (sym grown.1) did

    -- what the workers made is theirs
    made : AreMade (TellsUnder (base_of h.disks h.clocks spool)) (after_steps (kj.first ++ front)) grown.0
    made =
        steps_are_timed h.disks h.clocks links stations kj.first front grown.0 limits before after ends
        (base_of h.disks h.clocks spool) kj.found (front_records kj.first joined.entries kj.each) theirs

    late : AreInTurn 2 (grown.0 ++ b.back)
    late =
        late_append grown.0 b.back
        (made_late (TellsUnder (base_of h.disks h.clocks spool)) (after_steps (kj.first ++ front)) grown.0 made)
        (back_late joined.entries b.back b.torn_step b.last)

    made_timely : ForOpened h (λ steps. AreTimed Tells (after_steps (steps ++ front)) grown.0)
    made_timely f found steps was s =
        subst (λ (y : List Step). AreTimed Tells (after_steps (y ++ front)) grown.0) (firsts_joined f found steps was s)
        (made_timed (TellsUnder (base_of h.disks h.clocks spool)) Tells (after_steps (kj.first ++ front)) grown.0
        listed made)

    timed : ForOpened h (λ steps. AreTimed Tells (after_steps (steps ++ front)) (grown.0 ++ b.back))
    timed f found steps was s =
        timed_append Tells (after_steps (steps ++ front)) grown.0 b.back (made_timely f found steps was s)
        (subst (λ (st : State). AreTimed Tells st b.back)
        (ap (λ (y : List Step). after_steps (steps ++ y)) (sym grown.1)
        ∙ ap (λ (y : List Step). after_steps y) (sym (append_assoc steps front grown.0))
        ∙ after_append empty (steps ++ front) grown.0)
        (back_timed joined.entries b.back b.torn_step b.last f found steps was s))

    of_call : AreOfCall h final.entries
    of_call = subst (AreOfCall h) (sym whole) (more_of_call h serves front (grown.0 ++ b.back) own.of_call late timed)

    recorded : ForTables h (λ c. ForOpened h (λ steps. IsRecorded (after_steps (steps ++ final.entries)) c))
    recorded c told f found steps was s =
        subst (λ (y : List Step). IsRecorded (after_steps (steps ++ y)) c) (sym whole)
        (recorded_behind c steps front (grown.0 ++ b.back) late (own.recorded c told f found steps was s))

    bodies : ForOpened h (λ first. spool.opened.bodies ≡ map body_of first)
    bodies f found steps was s = o.bodies
        ∙ ap (map body_of) (same_steps h.disks laws h.disk.before spool o f found steps was s)

    told : ForDisk h (λ f. (first : List Step) (is : IsFound f first)
        → HasTold (base_of h.disks h.clocks spool) (map body_of first) (map body_of (compacted_of is)))
    told f was first is =
        subst
        (λ (bodies : List (List ℕ)).
        HasTold (base_of h.disks h.clocks spool) bodies (map body_of (compacted_of is))) found_is
        (subst (HasTold (base_of h.disks h.clocks spool) spool.opened.found) between_is
        (has_told h.disks laws h.clocks h.disk.before spool o joined kj f was))
      where
        same : o.found ≡ first
        same = same_found h.disks laws h.disk.before spool o f first was is.stands

        found_is : spool.opened.found ≡ map body_of first
        found_is = o.found_is ∙ ap (map body_of) same

        between : (x : List Step) → o.found ≡ x → (of : IsFound f x) → o.between ≡ compacted_of of
        between x e = subst (λ (y : List Step). (of : IsFound f y) → o.between ≡ compacted_of of) e (o.compacted f was)

        between_is : spool.opened.between ≡ map body_of (compacted_of is)
        between_is = o.between_is ∙ ap (map body_of) (between first same is)

    gone_on : ForOpened h (λ first. (g : List ℕ) → h.disks.may_leave spool.opened.over g → StandsFor g first)
    gone_on f found steps was s g may =
        let there = o.told f was in
        subst (StandsFor g) (same_steps h.disks laws h.disk.before spool o f found steps was s)
        (subst (λ (y : List ℕ). StandsFor y o.steps)
        (sym (o.stands.holds.settled there.0 there.1 g (subst (λ (d : D). h.disks.may_leave d g) o.over may)))
        (stands_held h.disks spool.journal spool.current o.steps o.stands there.0
        (o.stands.holds.file there.0 there.1)))

    found : IsBaseOf h (base_of h.disks h.clocks spool)
    found = record {
      found = bodies;
      told = told;
      synced = spool.opened.synced;
      sync = o.sync;
      since = refl;
      over = spool.opened.over;
      opened_at = refl;
      gone_on = gone_on;
      count = ap (λ (d : D). h.disks.faults d) o.disk;
      place = λ f was. subst (OpensAt f) (sym o.first) (o.place f was);
      listed = ap (λ (c : C). where_listed (h.clocks.moments c)) handed_clock;
    }

    -- ---- the sessions, in all that the run added

    all_added : final.entries ≡ ((front ++ grown.0) ++ b.back)
    all_added = b.entries ∙ ap (λ (y : List Step). y ++ b.back) (sym grown.1)

    entries_are : ForOpened h
        (λ first. AreEntries (base_of h.disks h.clocks spool) first ((front ++ grown.0) ++ b.back))
    entries_are f found steps was s = record {
      found = sym (bodies f found steps was s);
      each = subst (λ (y : List Step). AreRecords (y ++ ((front ++ grown.0) ++ b.back))) (firsts f found steps was s)
          (subst (λ (y : List Step). AreRecords (k.first ++ y)) all_added k.each);
      possible = subst (λ (y : List Step). IsHistory (y ++ ((front ++ grown.0) ++ b.back))) (firsts f found steps was s)
          (subst (λ (y : List Step). IsHistory (k.first ++ y)) all_added k.history);
    }

    -- what came behind the workers was due
    back_own : (steps back torn_step : List Step) → ComesBehind h joined.entries back torn_step
        → (f : List ℕ) (found : List Step) → h.disks.content h.disk.before ≡ Some f → Opens f found steps
        → AreOwn Tells [] [] (after_steps (steps ++ (front ++ grown.0))) back
    back_own steps back torn_step (Went_on due) f found was s =
        subst (λ (y : List Step). AreOwn Tells [] [] (after_steps (steps ++ y)) back) (sym grown.1)
        (own_front Tells [] [] (after_steps (steps ++ joined.entries)) back torn_step (due.1 f found steps was s))
    back_own steps back torn_step (Had_failed failed none) f found was s =
        subst (AreOwn Tells [] [] (after_steps (steps ++ (front ++ grown.0)))) (sym none) tt

    sessions_are : ForOpened h (λ first. SessionsServed h.disks h.clocks links stations limits before theirs.dealt
        theirs.done first (front ++ (grown.0 ++ b.back)) (length front))
    sessions_are f found steps was s =
        let e = entries_are f found steps was s in
        let x = known.agree is_apdu steps front (front ++ grown.0) b.back limits before after ends
        (base_of h.disks h.clocks spool) known.tells e
        (behind_for_none Tells steps (front ++ grown.0) b.back
        (back_own steps b.back b.torn_step b.last f found was s)) theirs in
        subst (λ (y : List Step). SessionsServed h.disks h.clocks links stations limits before theirs.dealt theirs.done
        steps y (length front)) (append_assoc front grown.0 b.back) (record {
          parts = x.0;
          roles = x.4;
          of_links = x.1;
          good = x.2;
          agree = x.3;
          lanes = known.lanes is_apdu steps ((front ++ grown.0) ++ b.back) (length front) x.0 known.tells e.possible;
          called =
              known.called is_apdu steps ((front ++ grown.0) ++ b.back) (length front) x.0 known.tells e.possible
              (subst CallOthers (sym x.4) apart);
        })
