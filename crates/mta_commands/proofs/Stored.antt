-- The tables are recorded, and then an APDU is accepted.
use Rattle.std.proofs.Common.{◌≡◌, ◌≢◌, ℕ, ◌+◌, ◌≤◌, ◌<◌, ◌^◌, List, [], ◌∷◌}
use Rattle.std.proofs.Common.{◌++◌, length, Option, Some, None, Result}
use Rattle.std.proofs.Common.{Ok, Err, Bool, false, true, refl, sym, ap, subst, ◌∙◌, true≢false, arith}
use Rattle.std.proofs.Common.{inl, inr}
use Rattle.std.specs.Prelude.{◌⊎◌, if◌then◌else◌, IfOk}
use Rattle.std.proofs.lemmas.Bool.{cases_eq, cases_lt}
use Rattle.std.proofs.lemmas.List.{append-nil}
use Rattle.mta_edge.specs.Views.{DiskView, DiskLaws, ClockView}
use Rattle.mta_edge.specs.Causes.{Rose}
use Rattle.mta_records.specs.declared.step.Step.{Step}
use Rattle.mta_records.specs.declared.step.Step.TheVariants.{Tables, Accept}
use Rattle.mta_records.specs.declared.fault.StepFault.{StepFault}
use Rattle.mta_records.specs.declared.fault.StepFault.TheVariants as StepFaults
use Rattle.mta_journal.specs.Shown.{Shown as JournalShown}
use Rattle.mta_journal.specs.Appending.{journal_limit}
use Rattle.mta_machine.specs.Items.{numbered}
use Rattle.mta_machine.specs.Machine.{last_tables}
use Rattle.mta_histories.specs.Lanes.{State, empty}
use Rattle.mta_histories.specs.Classes.{class_of}
use Rattle.mta_histories.specs.History.{after_step}
use Rattle.mta_spool.specs.Shown.{Shown}
use Rattle.mta_spool.specs.Stands.{Stands, Appends, AtMoment, step_moment, need_of, fault_of, IsSpent, IsOfNoLane}
use Rattle.mta_spool.specs.Stands.{IsOfNoRefusal, last_number}
use Rattle.mta_spool.specs.Turning.{IsRecorded, Records, IsUnchanged}
use Rattle.mta_spool.proofs.Dues.{next_is_due}
use Rattle.mta_spool.proofs.Numbers.{due_opens_none, last_item}
use Rattle.mta_commands.specs.Submit.{AreInTurn, turn_after, Adds, IsNextStep, tables as next_tables}
use Rattle.mta_commands.specs.Submit.{apdu as next_apdu, due as next_due, IsFullFor, IsSpentFor, IsRefusal, HasStored}
use Rattle.mta_commands.proofs.Same.{some_same, ok_same, err_same}
use Rattle.mta_commands.proofs.Added.{after_append, turn_append, turn_after_append, turn_refused, adds_still}
use Rattle.mta_commands.proofs.Added.{adds_one, adds_refused, adds_then, unchanged}

-- it opens no lane
last_of_next : (tells : ℕ → Type 0) (conf input : List ℕ) (added : List Step) (s : State) (step : Step)
    → IsNextStep tells conf input added s step → last_number s (class_of step) ≡ length s.machine.items
last_of_next tells conf input added s step (next_tables turn other) = refl
last_of_next tells conf input added s step (next_apdu moment turn same timed) = refl
last_of_next tells conf input added s step (next_due moment due turn timed next) =
    sym (last_item s (class_of step) (due_opens_none (class_of step) (next_is_due s moment step next)))

module _ {D C : Type 0} (disks : DiskView D) where
  -- ---- a step that was made or refused

  -- the state behind a step that was made
  pub made_state : (step : Step) (old new : Shown D C) → Appends disks step old new None → (steps : List Step)
      → Stands disks old steps → new.current ≡ after_step old.current step
  made_state step old new appends steps s = (appends.done refl steps s).state_is ∙ after_append empty steps
      (step ∷ []) ∙ ap (λ (x : State). after_step x step) (sym s.state_is)

  -- no refusal for a lane stood for it
  no_refusal : (step : Step) (old new : Shown D C) → Appends disks step old new None → old.journal.ended ≡ false
      → IsOfNoRefusal old.current step
  no_refusal step old new appends going f stands = refused (appends.row_where going f stands)
    where
      refused : (None ≡ Some f) ⊎ (None ≡ Some StepFaults.Memory) → ⊥
      refused (inl e) = cc
      refused (inr e) = cc

  -- numbers were left for it
  pub numbers_left : (step : Step) (old new : Shown D C) → Appends disks step old new None
      → old.journal.ended ≡ false → IsSpent old.current step → ⊥
  numbers_left step old new appends going spent =
      let e = appends.spent_where going (no_refusal step old new appends going) spent in cc

  -- and it fits
  pub fits : (step : Step) (old new : Shown D C) → Appends disks step old new None → old.journal.ended ≡ false
      → old.journal.size + need_of step ≤ journal_limit
  fits step old new appends going =
      elim (cases_lt journal_limit (old.journal.size + need_of step)) [
        | inl over ↦ absurd (refused (appends.full_where going (no_refusal step old new appends going)
            (numbers_left step old new appends going) over))
        | inr fit ↦ fit
      ]
    where
      refused : (None ≡ Some (StepFaults.Full old.journal.size (need_of step))) ⊎ (None ≡ Some StepFaults.Memory)
          → ⊥
      refused (inl e) = cc
      refused (inr e) = cc

  -- why a step that is next was refused
  pub refusal : (tells : ℕ → Type 0) (conf input : List ℕ) (added : List Step) (step : Step) (mid new : Shown D C)
      (before : ℕ) (fault : StepFault) → before ≤ disks.faults mid.journal.disk → mid.journal.ended ≡ false
      → IsNextStep tells conf input added mid.current step → IsOfNoLane (Some fault)
      → Appends disks step mid new (Some fault)
      → IsRefusal tells conf input added new.current new.journal.size
      (Rose before (disks.faults new.journal.disk)) fault
  refusal tells conf input added step mid new before (StepFaults.Full size need) le going next no_lane appends =
      let is = unchanged disks step mid new (StepFaults.Full size need) (λ e. absurd cc) appends in
      let full = appends.full size need refl in
      subst (λ (s : State). IsFullFor tells conf input added s new.journal.size size need) (sym is.1)
      (record {
        step = step;
        next = next;
        size_is = full.0 ∙ ap (λ (j : JournalShown D). j.size) (sym is.0);
        need_is =
            full.1;
        over = full.2;
      })
  refusal tells conf input added step mid new before (StepFaults.Spent last) le going next no_lane appends =
      let is = unchanged disks step mid new (StepFaults.Spent last) (λ e. absurd cc) appends in
      let spent = appends.spent last refl in
      subst (λ (s : State). IsSpentFor tells conf input added s last) (sym is.1)
      (record {
        step = step;
        next = next;
        last_is = spent.0 ∙ last_of_next tells conf input added mid.current step next;
        over = spent.1;
      })
  refusal tells conf input added step mid new before StepFaults.Disk le going next no_lane appends =
      let rose = appends.disk refl in omega (arith, rose, le)
  refusal tells conf input added step mid new before StepFaults.Ended le going next no_lane appends =
      let ended = appends.ended.0 refl in absurd (true≢false (sym ended ∙ going))
  refusal tells conf input added step mid new before StepFaults.Memory le going next no_lane appends = tt
  refusal tells conf input added step mid new before (StepFaults.Fenced generation) le going next no_lane appends =
      no_lane
  refusal tells conf input added step mid new before (StepFaults.BusyLanes count) le going next no_lane appends =
      no_lane
  refusal tells conf input added step mid new before any8 le going next no_lane appends = no_lane

-- ---- the tables

-- the text recorded last
abbrev last_text : State → Option (List ℕ)
last_text s = numbered s.machine.tables (last_tables s.machine)

-- where a text is recorded last, there are tables
pub tables_there : (ts : List (List ℕ)) (text : List ℕ) → numbered ts (length ts) ≡ Some text → ts ≢ []
tables_there [] text last none = absurd cc
tables_there (t ∷ ts) text last none = absurd cc

-- what recording the tables leaves
pub record Recording {D C : Type 0} (disks : DiskView D) (tells : ℕ → Type 0) (conf input : List ℕ)
    (old mid : Shown D C) (added : List Step) : Type 0 where
  pub adds : Adds disks tells conf input old mid added [] ⊥
  pub in_turn : AreInTurn 0 added
  pub turn : turn_after 0 added ≤ 1
  pub last : IsRecorded mid.current conf
  pub items : length mid.current.machine.items ≡ length old.current.machine.items
  pub going : mid.journal.ended ≡ false
  pub which : (added ≡ []) ⊎ (added ≡ Tables conf ∷ [])

same_text : (a b : List ℕ) → (a ≡ b) ⊎ (a ≡ b → ⊥)
same_text [] [] = inl refl
same_text [] (y ∷ ys) = inr (λ e. absurd cc)
same_text (x ∷ xs) [] = inr (λ e. absurd cc)
same_text (x ∷ xs) (y ∷ ys) =
    elim (cases_eq x y) [
      | inl first ↦ elim (same_text xs ys) [
        | inl rest ↦ inl (ap (λ (h : ℕ). h ∷ xs) first ∙ ap (λ (t : List ℕ). y ∷ t) rest)
        | inr other ↦ inr (λ e. other (tail_same e))
      ]
      | inr other ↦ inr (λ e. other (head_same e))
    ]
  where
    tail_same : x ∷ xs ≡ y ∷ ys → xs ≡ ys
    tail_same e = cc

    head_same : x ∷ xs ≡ y ∷ ys → x ≡ y
    head_same e = cc

-- whether the text is this one
is_text : (o : Option (List ℕ)) (text : List ℕ) → (o ≡ Some text) ⊎ (o ≡ Some text → ⊥)
is_text None text = inr (λ e. absurd cc)
is_text (Some other) text =
    elim (same_text other text) [
      | inl same ↦ inl (ap (λ (x : List ℕ). Some x) same)
      | inr apart ↦ inr (λ e. apart (some_same other text e))
    ]

-- tables that are those recorded last are not refused
pub not_same : (ended : Bool) (fault : StepFault) → ended ≡ false
    → ◌≡◌ {A = Result (Unit {0}) StepFault} (Err fault) (if ended then Err StepFaults.Ended else Ok tt) → ⊥
not_same true fault going e = cc
not_same false fault going e = cc

module _ {D C : Type 0} (disks : DiskView D) (laws : DiskLaws disks) (tells : ℕ → Type 0) where
  -- they were recorded, or are those recorded last
  pub recording : (conf input : List ℕ) (old mid : Shown D C) → ((steps : List Step) × Stands disks old steps)
      → old.journal.ended ≡ false → Records disks conf old mid (Ok tt)
      → (added : List Step) × Recording disks tells conf input old mid added
  recording conf input old mid here going records =
      elim (is_text (last_text old.current) conf) [
        | inl recorded ↦ (
            let is = (records.same recorded).0 in
            let same : IsUnchanged old mid = (
              ap (λ (v : Shown D C). v.journal) is,
              ap (λ (v : Shown D C). v.current) is,
              ap (λ (v : Shown D C). v.entries) is,
            ) in (
              [],
              record {
                adds = adds_still disks laws tells conf input old mid ⊥ same;
                in_turn = tt;
                turn = omega arith;
                last = ap last_text same.1 ∙ recorded;
                items = ap (λ (s : State). length s.machine.items) same.1;
                going = ap (λ (j : JournalShown D). j.ended) same.0 ∙ going;
                which = inl refl;
              },
            ))
        | inr other ↦ (
            let a = records.appends other in (
              Tables conf ∷ [],
              record {
                adds = adds_one disks tells conf input (Tables conf) old mid ⊥ a (λ steps s. refl);
                in_turn = (omega arith, omega arith, tt);
                turn = omega arith;
                last = records.recorded refl;
                items = ap (λ (s : State). length s.machine.items)
                    (made_state disks (Tables conf) old mid a here.0 here.1);
                going = a.going refl;
                which = inr refl;
              },
            ))
      ]

  -- they were refused
  pub tables_refused : (conf input : List ℕ) (old new : Shown D C) (fault : StepFault) → old.journal.ended ≡ false
      → IsOfNoLane (Some fault) → Records disks conf old new (Err fault)
      → HasStored disks tells conf input old new (Err fault)
  tables_refused conf input old new fault going no_lane records =
      let other : IsRecorded old.current conf → ⊥ = λ recorded. not_same old.journal.ended fault going
      (records.same recorded).1 in
      let a = records.appends other in
      let r = adds_refused disks laws tells (Tables conf) old new fault
      (◌≡◌ {A = Result ℕ StepFault} (Err fault) (Err StepFaults.Disk)) (λ e. ap Err e) no_lane a in
      record {
        added = [];
        torn_step = r.torn_step;
        adds = r.adds conf input (λ steps s. refl);
        in_turn = turn_refused 0 (Tables conf) r.torn_step (omega arith) (omega arith) r.at_most;
        small = λ n e. absurd cc;
        accepted = λ n e. absurd cc;
        turn = λ n e. absurd cc;
        tables = λ n e. absurd cc;
        refused = λ f e. subst
            (IsRefusal tells conf input [] new.current new.journal.size
            (Rose (disks.faults old.journal.disk) (disks.faults new.journal.disk))) (err_same fault f e)
            (refusal disks tells conf input [] (Tables conf) old new (disks.faults old.journal.disk) fault
            (omega arith) going (next_tables refl other) no_lane a);
        going = λ n e. absurd cc;
      }

  -- ---- the APDU

  -- it was accepted behind the tables
  accepted : (now : ℕ → Type 0) (conf input : List ℕ) (old mid new : Shown D C) (added : List Step) (told n : ℕ)
      → Recording disks tells conf input old mid added → ((steps : List Step) × Stands disks old steps)
      → now told → ((t : ℕ) → now t → tells t)
      → Appends disks (Accept (step_moment told mid.current.moment) input) mid new None
      → n ≡ length mid.current.machine.items + 1 → HasStored disks tells conf input old new (Ok n)
  accepted now conf input old mid new added told n so here tell more appends number =
      let when : ℕ = step_moment told mid.current.moment in
      let step : Step = Accept when input in
      let there = so.adds.stands (λ w. w) here.0 here.1 in
      record {
        added = added ++ step ∷ [];
        torn_step = [];
        adds = adds_then disks tells conf input old mid new added (step ∷ []) [] _ so.adds
            (adds_one disks tells conf input step mid new _ appends
            (λ steps s. (refl, (told, more told tell, ap (λ (x : State). step_moment told x.moment) s.state_is))));
        in_turn = subst (AreInTurn 0) (sym (append-nil (added ++ step ∷ [])))
            (turn_append 0 added (step ∷ []) so.in_turn (so.turn, omega arith, tt));
        small = λ k e. omega (arith, ok_same n k e, number, left);
        accepted = λ k e steps s. record {
          front = added;
          moment = when;
          back = [];
          accept = refl;
          number = sym (ok_same n k e) ∙ number ∙ ap (λ (x : State). length x.machine.items + 1)
              (so.adds.stands (λ w. w) steps s).state_is;
          next = sym (ok_same n k e) ∙ number ∙ ap (λ (x : ℕ). x + 1) so.items ∙ ap
              (λ (x : State). length x.machine.items + 1) s.state_is;
        };
        turn = λ k e. turn_after_append 0 added (step ∷ []);
        tables = λ k e. ap last_text (made_state disks step mid new appends (here.0 ++ added) there) ∙ so.last;
        refused = λ fault e. absurd cc;
        going = λ k e. appends.going refl;
      }
    where
      left : length mid.current.machine.items + 2 < 2 ^ 32
      left = elim (cases_lt (length mid.current.machine.items + 2) (2 ^ 32)) [
        | inl lt ↦ lt
        | inr over ↦ absurd (numbers_left disks (Accept (step_moment told mid.current.moment) input) mid new appends
            so.going over)
      ]

  -- it was refused behind the tables
  accept_refused : (now : ℕ → Type 0) (conf input : List ℕ) (old mid new : Shown D C) (added : List Step)
      (told : ℕ) (fault : StepFault) → Recording disks tells conf input old mid added → now told
      → ((t : ℕ) → now t → tells t) → IsOfNoLane (Some fault)
      → Appends disks (Accept (step_moment told mid.current.moment) input) mid new (Some fault) → HasStored disks
      tells conf input old new (Err fault)
  accept_refused now conf input old mid new added told fault so tell more no_lane appends =
      let when : ℕ = step_moment told mid.current.moment in
      let step : Step = Accept when input in
      let r = adds_refused disks laws tells step mid new fault
      (◌≡◌ {A = Result ℕ StepFault} (Err fault) (Err StepFaults.Disk)) (λ e. ap Err e) no_lane appends in
      record {
        added = added;
        torn_step = r.torn_step;
        adds = subst (λ (x : List Step). Adds disks tells conf input old new x r.torn_step
            (◌≡◌ {A = Result ℕ StepFault} (Err fault) (Err StepFaults.Disk))) (append-nil added)
            (adds_then disks tells conf input old mid new added [] r.torn_step _ so.adds
            (r.adds conf input (λ steps s.
            (refl, (told, more told tell, ap (λ (x : State). step_moment told x.moment) s.state_is)))));
        in_turn = turn_append 0 added r.torn_step so.in_turn
            (turn_refused (turn_after 0 added) step r.torn_step so.turn (omega arith) r.at_most);
        small = λ n e. absurd cc;
        accepted = λ n e. absurd cc;
        turn = λ n e. absurd cc;
        tables = λ n e. absurd cc;
        refused = λ f e. subst
            (IsRefusal tells conf input added new.current new.journal.size
            (Rose (disks.faults old.journal.disk) (disks.faults new.journal.disk))) (err_same fault f e)
            (refusal disks tells conf input added step mid new (disks.faults old.journal.disk) fault
            so.adds.later so.going (next_apdu when so.turn so.last (told, more told tell, refl)) no_lane appends);
        going = λ n e. absurd cc;
      }

  -- what accepting it leaves
  pub stored : (clocks : ClockView C) (conf input : List ℕ) (old mid new : Shown D C) (added : List Step)
      (result : Result ℕ StepFault) → Recording disks tells conf input old mid added
      → ((steps : List Step) × Stands disks old steps) → ((t : ℕ) → clocks.tells mid.clock t → tells t)
      → IsOfNoLane (fault_of result)
      → AtMoment clocks mid.clock mid.current.moment (λ m. Appends disks (Accept m input) mid new (fault_of result))
      → IfOk result (λ n. n ≡ length mid.current.machine.items + 1) → HasStored disks tells conf input old new
      result
  stored clocks conf input old mid new added (Ok n) so here more no_lane made number =
      accepted (clocks.tells mid.clock) conf input old mid new added made.told n so here made.tells more made.at number
  stored clocks conf input old mid new added (Err fault) so here more no_lane made number =
      accept_refused (clocks.tells mid.clock) conf input old mid new added made.told fault so
      made.tells more no_lane made.at
