-- What `serve` makes before its workers.
use Rattle.std.proofs.Common.{◌≡◌, ℕ, List, [], ◌∷◌, ◌++◌, Some, Result, Ok, Err, refl, sym, ap}
use Rattle.std.proofs.Common.{subst, ◌∙◌}
use Rattle.std.proofs.Common.{false, true≢false, arith, inl, inr}
use Rattle.std.specs.Prelude.{◌⊎◌}
use Rattle.mta_edge.specs.Causes.{Rose}
use Rattle.mta_edge.specs.Views.{ClockView, DiskLaws, DiskView}
use Rattle.mta_journal.specs.Shown.{Shown as JournalShown}
use Rattle.mta_records.specs.declared.step.Step.{Step}
use Rattle.mta_records.specs.declared.step.Step.TheVariants.{Accept, Tables}
use Rattle.mta_records.specs.declared.fault.StepFault.{StepFault}
use Rattle.mta_records.specs.declared.fault.StepFault.TheVariants as StepFaults
use Rattle.mta_histories.specs.Lanes.{State}
use Rattle.mta_spool.specs.Shown.{Shown}
use Rattle.mta_spool.specs.Stands.{Appends, IsOfNoLane, TellsFewer}
use Rattle.mta_spool.specs.Turning.{IsRecorded, Records}
use Rattle.mta_commands.specs.Serving.{HasBegun, IsNextOwn, IsOwnFull, IsOwnRefusal, IsOwnSpent, records, RecordsFirst}
use Rattle.mta_commands.specs.Serving.{settles}
use Rattle.mta_commands.specs.Submit.{apdu, AreInTurn, due, HasSettled, IsNextStep, IsRefusal, tables, turn_after}
use Rattle.mta_commands.proofs.Added.{adds_more, adds_refused, adds_then, front_in_turn, turn_after_append, turn_stays}
use Rattle.mta_commands.proofs.Added.{unchanged}
use Rattle.mta_commands.proofs.Provenance.{recorded_as}
use Rattle.mta_commands.proofs.Same.{err_same}
use Rattle.mta_commands.proofs.Stored.{not_same, Recording}

-- ---- refusals

-- a step that is next for `submit` behind its APDU is one of its own
next_own : (tells : ℕ → Type 0) (conf input : List ℕ) (added : List Step) (s : State) (step : Step)
    → turn_after 0 added ≡ 2 → IsNextStep tells conf input added s step → IsNextOwn tells conf s step
next_own tells conf input added s _ turn (tables first changed) = records changed
next_own tells conf input added s _ turn (apdu moment low recorded timed) = absurd (omega (arith, turn, low))
next_own tells conf input added s step turn (due moment _ behind timed next) = settles moment step timed next

own_of : (tells : ℕ → Type 0) (conf input : List ℕ) (added : List Step) (s : State) (size : ℕ)
    (failed other : Type 0) (fault : StepFault) → turn_after 0 added ≡ 2 → (failed → other)
    → IsRefusal tells conf input added s size failed fault → IsOwnRefusal tells conf s size other fault
own_of tells conf input added s size failed other (StepFaults.Full used need) turn so r = record {
  step = r.step;
  next = next_own tells conf input added s r.step turn r.next;
  size_is = r.size_is;
  need_is = r.need_is;
  over = r.over;
}
own_of tells conf input added s size failed other (StepFaults.Spent last) turn so r = record {
  step = r.step;
  next = next_own tells conf input added s r.step turn r.next;
  last_is = r.last_is;
  over = r.over;
}
own_of tells conf input added s size failed other StepFaults.Disk turn so r = so r
own_of tells conf input added s size failed other any8 turn so r = r

-- the same for one who knew more moments
pub own_more : (tells other : ℕ → Type 0) (conf : List ℕ) (s : State) (size : ℕ) (failed failed_too : Type 0)
    (fault : StepFault) → ((t : ℕ) → tells t → other t) → (failed → failed_too)
    → IsOwnRefusal tells conf s size failed fault → IsOwnRefusal other conf s size failed_too fault
own_more tells other conf s size failed failed_too fault more so r = by_fault fault r
  where
    next_more : (step : Step) → IsNextOwn tells conf s step → IsNextOwn other conf s step
    next_more _ (records changed) = records changed
    next_more step (settles moment _ timed next) = settles moment step (timed.0, more timed.0 timed.1, timed.2) next

    by_fault : (f : StepFault) → IsOwnRefusal tells conf s size failed f
        → IsOwnRefusal other conf s size failed_too f
    by_fault (StepFaults.Full used need) r = record {
      step = r.step;
      next = next_more r.step r.next;
      size_is = r.size_is;
      need_is = r.need_is;
      over = r.over;
    }
    by_fault (StepFaults.Spent last) r = record {
      step = r.step;
      next = next_more r.step r.next;
      last_is = r.last_is;
      over = r.over;
    }
    by_fault StepFaults.Disk r = so r
    by_fault any0 r = r

module _ {D C : Type 0} (disks : DiskView D) where
  -- why what is due was not done, whatever the tables are
  pub settled_why : (tells : ℕ → Type 0) (conf : List ℕ) (old new : Shown D C) (fault : StepFault)
      (result : Result (Unit {0}) StepFault) → result ≡ Err fault → (h : HasSettled disks tells old new result)
      → IsOwnRefusal tells conf new.current new.journal.size
      (Rose (disks.faults old.journal.disk) (disks.faults new.journal.disk)) fault
  settled_why tells conf old new fault result e h =
      let before : List Step = Accept 0 [] ∷ [] in
      let behind : turn_after 0 before ≡ 2 = omega arith in
      let turn : turn_after 0 (before ++ h.added) ≡ 2 =
      turn_after_append 0 before h.added ∙ ap (λ (k : ℕ). turn_after k h.added) behind
      ∙ turn_stays h.added (front_in_turn 2 h.added h.torn_step h.in_turn) in
      own_of tells conf [] (before ++ h.added) new.current new.journal.size _ _ fault turn (λ r. r)
      (h.refused fault e conf [] before behind)

  -- why tables were not recorded
  record_why : (tells : ℕ → Type 0) (conf : List ℕ) (old new : Shown D C) (fault : StepFault)
      → old.journal.ended ≡ false → (IsRecorded old.current conf → ⊥) → IsOfNoLane (Some fault)
      → Appends disks (Tables conf) old new (Some fault)
      → IsOwnRefusal tells conf new.current new.journal.size
      (Rose (disks.faults old.journal.disk) (disks.faults new.journal.disk)) fault
  record_why tells conf old new (StepFaults.Full size need) going other no_lane a =
      let is = unchanged disks (Tables conf) old new (StepFaults.Full size need) (λ e. absurd cc) a in
      let full = a.full size need refl in
      subst (λ (s : State). IsOwnFull tells conf s new.journal.size size need) (sym is.1) (record {
        step = Tables conf;
        next = records other;
        size_is = full.0 ∙ ap (λ (j : JournalShown D). j.size) (sym is.0);
        need_is = full.1;
        over = full.2;
      })
  record_why tells conf old new (StepFaults.Spent last) going other no_lane a =
      let is = unchanged disks (Tables conf) old new (StepFaults.Spent last) (λ e. absurd cc) a in
      let spent = a.spent last refl in
      subst (λ (s : State). IsOwnSpent tells conf s last) (sym is.1)
      (record { step = Tables conf; next = records other; last_is = spent.0; over = spent.1 })
  record_why tells conf old new StepFaults.Disk going other no_lane a = a.disk refl
  record_why tells conf old new StepFaults.Ended going other no_lane a =
      absurd (true≢false (sym (a.ended.0 refl) ∙ going))
  record_why tells conf old new StepFaults.Memory going other no_lane a = tt
  record_why tells conf old new any4 going other no_lane a = no_lane

-- ---- their order

-- the tables, if any, and behind them what is due
first_then : (conf : List ℕ) (a b torn_step : List Step) → (a ≡ []) ⊎ (a ≡ Tables conf ∷ [])
    → AreInTurn 2 (b ++ torn_step) → RecordsFirst conf ((a ++ b) ++ torn_step)
first_then conf a b torn_step (inl e) p =
    inl (subst (λ (x : List Step). AreInTurn 2 ((x ++ b) ++ torn_step)) (sym e) p)
first_then conf a b torn_step (inr e) p =
    inr (b ++ torn_step, ap (λ (x : List Step). (x ++ b) ++ torn_step) e, p)

-- the tables were tried
tried_first : (conf : List ℕ) (torn_step : List Step) → (torn_step ≡ []) ⊎ (torn_step ≡ Tables conf ∷ [])
    → RecordsFirst conf torn_step
tried_first conf torn_step (inl e) = inl (subst (AreInTurn 2) (sym e) tt)
tried_first conf torn_step (inr e) = inr ([], e, tt)

-- ---- both

module _ {D C : Type 0} (disks : DiskView D) (laws : DiskLaws disks) (clocks : ClockView C) where
  -- the tables stand, and what is due was done, or not all of it
  pub begun : (conf : List ℕ) (old mid new : Shown D C) (added : List Step) (result : Result (Unit {0}) StepFault)
      → Recording disks (clocks.tells old.clock) conf [] old mid added → TellsFewer clocks old.clock mid.clock
      → HasSettled disks (clocks.tells mid.clock) mid new result
      → HasBegun disks (clocks.tells old.clock) conf old new result
  begun conf old mid new added result so fewer h = record {
    added = added ++ h.added;
    torn_step = h.torn_step;
    adds = adds_then disks (clocks.tells old.clock) conf [] old mid new added h.added h.torn_step _ so.adds
        (adds_more disks (clocks.tells mid.clock) (clocks.tells old.clock) conf [] mid new h.added h.torn_step _ fewer
        (h.adds conf []));
    first = first_then conf added h.added h.torn_step so.which h.in_turn;
    recorded = λ ok. recorded_as mid.current new.current conf (h.tables (λ e. other (sym ok ∙ e))) so.last;
    refused = λ fault e.
        own_more (clocks.tells mid.clock) (clocks.tells old.clock) conf new.current new.journal.size _ _ fault fewer
        (λ r. omega (arith, r, so.adds.later))
        (settled_why disks (clocks.tells mid.clock) conf mid new fault result e h);
    going = λ ok. h.going (λ e. other (sym ok ∙ e));
  } where
    other : ◌≡◌ {A = Result (Unit {0}) StepFault} (Ok tt) (Err StepFaults.Disk) → ⊥
    other e = cc

  -- the tables were not recorded
  pub not_recorded : (conf : List ℕ) (old new : Shown D C) (fault : StepFault) → old.journal.ended ≡ false
      → IsOfNoLane (Some fault) → Records disks conf old new (Err fault)
      → HasBegun disks (clocks.tells old.clock) conf old new (Err fault)
  not_recorded conf old new fault going no_lane r =
      let other : IsRecorded old.current conf → ⊥ =
      λ recorded. not_same old.journal.ended fault going (r.same recorded).1 in
      let a = r.appends other in
      let x = adds_refused disks laws (clocks.tells old.clock) (Tables conf) old new fault
      (◌≡◌ {A = Result (Unit {0}) StepFault} (Err fault) (Err StepFaults.Disk)) (λ e. ap Err e) no_lane a in
      record {
        added = [];
        torn_step = x.torn_step;
        adds = x.adds conf [] (λ steps s. refl);
        first = tried_first conf x.torn_step x.at_most;
        recorded = λ ok. absurd cc;
        refused = λ f e.
            subst (IsOwnRefusal (clocks.tells old.clock) conf new.current new.journal.size
            (Rose (disks.faults old.journal.disk) (disks.faults new.journal.disk))) (err_same fault f e)
            (record_why disks (clocks.tells old.clock) conf old new fault going other no_lane a);
        going = λ e. absurd cc;
      }
