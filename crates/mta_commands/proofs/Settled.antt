-- Turns that are made until nothing is due.
use Rattle.std.proofs.Common.{◌≡◌, ℕ, ◌-◌, ◌<◌, List, [], ◌∷◌, ◌++◌, None, Some, Result, Ok}
use Rattle.std.proofs.Common.{Err}
use Rattle.std.proofs.Common.{false, refl, sym, ap, subst, ◌∙◌, true≢false, arith, inl, inr}
use Rattle.std.proofs.lemmas.List.{append-nil}
use Rattle.mta_edge.specs.Views.{DiskView, DiskLaws, ClockView}
use Rattle.mta_edge.specs.Causes.{Rose}
use Rattle.mta_records.specs.declared.step.Step.{Step}
use Rattle.mta_records.specs.declared.fault.StepFault.{StepFault}
use Rattle.mta_records.specs.declared.fault.StepFault.TheVariants as StepFaults
use Rattle.mta_journal.specs.Appending.{journal_limit}
use Rattle.mta_journal.specs.Shown.{Shown as JournalShown}
use Rattle.mta_histories.specs.Lanes.{State}
use Rattle.mta_histories.specs.Due.{IsQuiet, IsNext}
use Rattle.mta_histories.specs.History.{after}
use Rattle.mta_images.proofs.Bodies.{size-more}
use Rattle.mta_spool.specs.Bases.{KeepsOn}
use Rattle.mta_spool.specs.Shown.{Shown}
use Rattle.mta_spool.specs.Stands.{Stands, Appends, TellsFewer, step_moment, IsOfNoLane}
use Rattle.mta_spool.specs.Turning.{IsUnchanged, Turns}
use Rattle.mta_commands.specs.Submit.{IsOwn, AreInTurn, turn_after, Adds, due as next_due, IsRefusal, HasSettled}
use Rattle.mta_commands.proofs.Same.{err_same}
use Rattle.mta_commands.proofs.Dues.{next_turn, next_own, next_tables}
use Rattle.mta_commands.proofs.Added.{turn_append, turn_after_append, turn_stays, turn_refused, adds_still}
use Rattle.mta_commands.proofs.Added.{adds_one, adds_refused, adds_then, adds_more, unchanged}
use Rattle.mta_commands.proofs.Stored.{made_state, fits, refusal}

-- what has been done so far
pub record Settling {D C : Type 0} (disks : DiskView D) (clocks : ClockView C) (old now : Shown D C)
    (added : List Step) : Type 0 where
  pub adds : (conf input : List ℕ) → Adds disks (clocks.tells old.clock) conf input old now added [] ⊥
  pub in_turn : AreInTurn 2 added
  pub tables : now.current.machine.tables ≡ old.current.machine.tables
  pub going : now.journal.ended ≡ false
  pub clock : TellsFewer clocks old.clock now.clock
  pub opened : now.opened ≡ old.opened
  pub keeps : KeepsOn disks clocks old now
  pub stands : (steps : List Step) × Stands disks now steps

module _ {D C : Type 0} (disks : DiskView D) (laws : DiskLaws disks) (clocks : ClockView C) where
  due_own : (mid : Shown D C) (step : Step) (told : ℕ) → clocks.tells mid.clock told
      → IsNext mid.current (step_moment told mid.current.moment) step
      → (conf input : List ℕ) (steps : List Step) → Stands disks mid steps
      → IsOwn (clocks.tells mid.clock) conf input (after steps) step
  due_own mid step told tell next conf input steps s =
      subst (λ (x : State). IsOwn (clocks.tells mid.clock) conf input x step) s.state_is
      (next_own (clocks.tells mid.clock) conf input mid.current (step_moment told mid.current.moment) step
      (told, tell, refl) next)

  pub settling_none : (old : Shown D C) → old.journal.ended ≡ false
      → ((steps : List Step) × Stands disks old steps) → Settling disks clocks old old []
  settling_none old going stands = record {
    adds = λ conf input. adds_still disks laws (clocks.tells old.clock) conf input old old ⊥
        (refl, refl, refl);
    in_turn = tt;
    tables = refl;
    going = going;
    clock = λ m t. t;
    opened = refl;
    keeps = λ base k. k;
    stands = stands;
  }

  pub settling_more : (old mid new : Shown D C) (added : List Step) (step : Step) (told : ℕ) → Settling disks clocks
      old mid added → clocks.tells mid.clock told → IsNext mid.current (step_moment told mid.current.moment) step
      → Appends disks step mid new None
      → TellsFewer clocks mid.clock new.clock → new.opened ≡ mid.opened → KeepsOn disks clocks mid new
      → Settling disks clocks old new (added ++ step ∷ [])
  settling_more old mid new added step told so tell next appends clock opened keeps =
      let turn = next_turn mid.current (step_moment told mid.current.moment) step next in
      let here = so.stands in
      record {
        adds = λ conf input. adds_then disks (clocks.tells old.clock) conf input old mid new added (step ∷ []) [] ⊥
            (so.adds conf input)
            (adds_more disks (clocks.tells mid.clock) (clocks.tells old.clock) conf input mid new (step ∷ []) [] ⊥
            so.clock (adds_one disks (clocks.tells mid.clock) conf input step mid new ⊥ appends
            (due_own mid step told tell next conf input)));
        in_turn = turn_append 2 added (step ∷ []) so.in_turn
            (subst (λ (k : ℕ). AreInTurn k (step ∷ [])) (sym (turn_stays added so.in_turn))
            (omega (arith, turn), omega (arith, turn), tt));
        tables = ap (λ (s : State). s.machine.tables) (made_state disks step mid new appends here.0 here.1)
            ∙ next_tables mid.current (step_moment told mid.current.moment) step next ∙ so.tables;
        going = appends.going refl;
        clock = λ m t. so.clock m (clock m t);
        opened = opened ∙ so.opened;
        keeps = λ base k. keeps base (so.keeps base k);
        stands = (here.0 ++ step ∷ [], appends.done refl here.0 here.1);
      }

  -- a step more leaves less room in the journal
  pub less_room : (mid new : Shown D C) (step : Step) → mid.journal.ended ≡ false
      → ((steps : List Step) × Stands disks mid steps) → Appends disks step mid new None → journal_limit -
      new.journal.size < journal_limit - mid.journal.size
  less_room mid new step going here appends =
      let now = appends.done refl here.0 here.1 in
      let fit = fits disks step mid new appends going in
      omega (arith, fit, here.1.holds.size, now.holds.size, size-more mid.journal.first here.0 step, appends.place)

  -- nothing is due any more
  pub settled : (old mid new : Shown D C) (added : List Step) (told : ℕ) → Settling disks clocks old mid added
      → clocks.tells mid.clock told → IsQuiet mid.current (step_moment told mid.current.moment)
      → IsUnchanged mid new → HasSettled disks (clocks.tells old.clock) old new (Ok tt)
  settled old mid new added told so tell quiet is = record {
    added = added ++ [];
    torn_step = [];
    adds = λ conf input. adds_then disks (clocks.tells old.clock) conf input old mid new added [] [] _
        (so.adds conf input) (adds_still disks laws (clocks.tells old.clock) conf input mid new _ is);
    in_turn = subst (AreInTurn 2) (sym (append-nil (added ++ []) ∙ append-nil added)) so.in_turn;
    tables = λ calm. ap (λ (s : State). s.machine.tables) is.1 ∙ so.tables;
    quiet = λ ok. (
      told,
      so.clock told tell,
      subst (λ (s : State). IsQuiet s (step_moment told s.moment)) (sym is.1)
          quiet,
    );
    going = λ other. ap (λ (j : JournalShown D). j.ended) is.0 ∙ so.going;
    refused = λ fault e. absurd cc;
  }

  -- there was no memory to look for a step
  unsettled : (old mid new : Shown D C) (added : List Step) → Settling disks clocks old mid added → IsUnchanged mid
      new → HasSettled disks (clocks.tells old.clock) old new (Err StepFaults.Memory)
  unsettled old mid new added so is = record {
    added = added ++ [];
    torn_step = [];
    adds = λ conf input. adds_then disks (clocks.tells old.clock) conf input old mid new added [] [] _
        (so.adds conf input) (adds_still disks laws (clocks.tells old.clock) conf input mid new _ is);
    in_turn = subst (AreInTurn 2) (sym (append-nil (added ++ []) ∙ append-nil added)) so.in_turn;
    tables = λ calm. ap (λ (s : State). s.machine.tables) is.1 ∙ so.tables;
    quiet = λ ok. absurd cc;
    going = λ other. ap (λ (j : JournalShown D). j.ended) is.0 ∙ so.going;
    refused = λ fault e conf input before turn. subst
        (IsRefusal (clocks.tells old.clock) conf input (before ++ (added ++ [])) new.current new.journal.size
        (Rose (disks.faults old.journal.disk) (disks.faults new.journal.disk))) (err_same StepFaults.Memory fault e) tt;
  }

  -- the step that is next was refused
  due_refused : (old mid new : Shown D C) (added : List Step) (step : Step) (told : ℕ) (fault : StepFault)
      → Settling disks clocks old mid added → clocks.tells mid.clock told
      → IsNext mid.current (step_moment told mid.current.moment) step → IsOfNoLane (Some fault)
      → Appends disks step mid new (Some fault)
      → HasSettled disks (clocks.tells old.clock) old new (Err fault)
  due_refused old mid new added step told fault so tell next no_lane appends =
      let turn = next_turn mid.current (step_moment told mid.current.moment) step next in
      let failed : Type 0 = ◌≡◌ {A = Result (Unit {0}) StepFault} (Err fault) (Err StepFaults.Disk) in
      let r = adds_refused disks laws (clocks.tells mid.clock) step mid new fault failed (λ e. ap Err e) no_lane
      appends in
      record {
        added = added;
        torn_step = r.torn_step;
        adds = λ conf input. subst
            (λ (x : List Step). Adds disks (clocks.tells old.clock) conf input old new x r.torn_step failed)
            (append-nil added)
            (adds_then disks (clocks.tells old.clock) conf input old mid new added [] r.torn_step failed
            (so.adds conf input)
            (adds_more disks (clocks.tells mid.clock) (clocks.tells old.clock) conf input mid new [] r.torn_step failed
            so.clock (r.adds conf input (due_own mid step told tell next conf input))));
        in_turn = turn_append 2 added r.torn_step so.in_turn
            (subst (λ (k : ℕ). AreInTurn k r.torn_step) (sym (turn_stays added so.in_turn))
            (turn_refused 2 step r.torn_step (omega (arith, turn)) (omega (arith, turn)) r.at_most));
        tables = λ calm. ap (λ (s : State). s.machine.tables)
            (unchanged disks step mid new fault (λ e. calm (ap Err e)) appends).1 ∙ so.tables;
        quiet = λ ok. absurd cc;
        going = λ other. ap (λ (j : JournalShown D). j.ended)
            (unchanged disks step mid new fault (λ e. other (ap Err e)) appends).0
            ∙ so.going;
        refused = λ f e conf input before behind. subst
            (IsRefusal (clocks.tells old.clock) conf input (before ++ added) new.current new.journal.size
            (Rose (disks.faults old.journal.disk) (disks.faults new.journal.disk))) (err_same fault f e)
            (refusal disks (clocks.tells old.clock) conf input (before ++ added) step mid new
            (disks.faults old.journal.disk) fault (so.adds [] []).later so.going
            (next_due (step_moment told mid.current.moment) step
            (turn_after_append 0 before added ∙ ap (λ (k : ℕ). turn_after k added) behind
            ∙ turn_stays added so.in_turn)
            (told, so.clock told tell, refl) next) no_lane appends);
      }

  -- a turn was refused
  pub settling_refused : (old mid new : Shown D C) (added : List Step) (told : ℕ) (fault : StepFault)
      → Settling disks clocks old mid added → clocks.tells mid.clock told → IsOfNoLane (Some fault)
      → Turns disks (step_moment told mid.current.moment) mid new (Err fault)
      → HasSettled disks (clocks.tells old.clock) old new (Err fault)
  settling_refused old mid new added told fault so tell no_lane (inl ended) =
      absurd (true≢false (sym ended.1 ∙ so.going))
  settling_refused old mid new added told fault so tell no_lane (inr (inl memory)) =
      subst (λ (f : StepFault). HasSettled disks (clocks.tells old.clock) old new (Err f)) (sym memory.0)
      (unsettled old mid new added so memory.2)
  settling_refused old mid new added told fault so tell no_lane (inr (inr r)) =
      due_refused old mid new added r.1.0 told fault so tell r.1.1 no_lane r.1.2
