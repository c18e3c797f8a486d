-- What `submit` leaves of an open spool.
use Rattle.std.proofs.Common.{◌≡◌, ℕ, List, [], ◌∷◌, ◌++◌, length, Result, Ok, Err, Some, refl, sym}
use Rattle.std.proofs.Common.{ap}
use Rattle.std.proofs.Common.{subst, ◌∙◌, append_assoc, arith, inl, inr}
use Rattle.std.specs.Prelude.{◌⊎◌}
use Rattle.std.proofs.lemmas.List.{append-nil}
use Rattle.mta_edge.specs.Views.{DiskView}
use Rattle.mta_edge.specs.Causes.{Rose}
use Rattle.mta_records.specs.declared.step.Step.{Step}
use Rattle.mta_records.specs.declared.step.Step.TheVariants.{Accept}
use Rattle.mta_records.specs.declared.fault.StepFault.{StepFault}
use Rattle.mta_records.specs.declared.fault.StepFault.TheVariants as StepFaults
use Rattle.mta_machine.specs.Items.{numbered}
use Rattle.mta_histories.specs.Lanes.{State}
use Rattle.mta_spool.specs.Shown.{Shown}
use Rattle.mta_spool.specs.Stands.{IsOfNoLane}
use Rattle.mta_commands.specs.declared.stop.Stop.{Stop}
use Rattle.mta_commands.specs.declared.stop.Stop.TheVariants as Stops
use Rattle.mta_commands.specs.Lines.{accepted_line}
use Rattle.mta_output.specs.Output.{Output, Prints, PrintsFront}
use Rattle.mta_commands.specs.Output.{whole, stopped, cut, PrintsOrFails}
use Rattle.mta_commands.specs.Submit.{AreInTurn, Adds, IsNextStep, tables, apdu, due}
use Rattle.mta_commands.specs.Submit.{IsRefusal, IsAccepted, HasStored, HasSettled, HasAcknowledged, stop_of_step}
use Rattle.mta_commands.specs.Submit.{IsWorkStop, full, spent, disk, memory, IsAcceptedLine, HasWorked}
use Rattle.mta_commands.proofs.Same.{err_same}
use Rattle.mta_commands.proofs.Added.{timed_more, turn_append, adds_calm, adds_then, adds_more}
use Rattle.mta_commands.proofs.Added.{adds_unless}

-- ---- what is printed

-- the output is as it was
pub prints_nothing : (out : Output) → out.after ≡ out.before → Prints out []
prints_nothing out same = record {
  each = λ f was. (f, same ∙ was, sym (append-nil f));
  back = λ g now. (g, sym same ∙ now, sym (append-nil g));
}

-- ---- stops

-- a refused step is that stop
work_stop : (tells : ℕ → Type 0) (conf input : List ℕ) (added : List Step) (s : State) (size : ℕ)
    (failed : Type 0) (fault : StepFault) → IsRefusal tells conf input added s size failed fault
    → IsWorkStop tells conf input added s size failed (stop_of_step fault)
work_stop tells conf input added s size failed (StepFaults.Full used need) r = full used need r
work_stop tells conf input added s size failed (StepFaults.Spent last) r = spent last r
work_stop tells conf input added s size failed StepFaults.Disk r = disk r
work_stop tells conf input added s size failed StepFaults.Memory r = memory
work_stop tells conf input added s size failed any7 r = absurd r

-- and it is of no lane
refusal_no_lane : (tells : ℕ → Type 0) (conf input : List ℕ) (added : List Step) (s : State) (size : ℕ)
    (failed : Type 0) (fault : StepFault) → IsRefusal tells conf input added s size failed fault → IsOfNoLane
    (Some fault)
refusal_no_lane tells conf input added s size failed (StepFaults.Fenced generation) r = r
refusal_no_lane tells conf input added s size failed (StepFaults.NoLane lane) r = r
refusal_no_lane tells conf input added s size failed (StepFaults.BusyLanes count) r = r
refusal_no_lane tells conf input added s size failed StepFaults.Unexpected r = r
refusal_no_lane tells conf input added s size failed any7 r = tt

next_more : (tells other : ℕ → Type 0) (conf input : List ℕ) (added : List Step) (s : State) (step : Step)
    → ((t : ℕ) → tells t → other t) → IsNextStep tells conf input added s step
    → IsNextStep other conf input added s step
next_more tells other conf input added s step more (tables turn changed) = tables turn changed
next_more tells other conf input added s step more (apdu moment turn last timed) = apdu moment turn last
    (timed_more tells other s.moment moment more timed)
next_more tells other conf input added s step more (due moment st turn timed next) = due moment st turn
    (timed_more tells other s.moment moment more timed) next

-- the same refusal for one who knew more moments, and saw an earlier count
refusal_more : (tells other : ℕ → Type 0) (conf input : List ℕ) (added : List Step) (s : State) (size : ℕ)
    (failed failed_too : Type 0) (fault : StepFault) → ((t : ℕ) → tells t → other t) → (failed → failed_too)
    → IsRefusal tells conf input added s size failed fault
    → IsRefusal other conf input added s size failed_too fault
refusal_more tells other conf input added s size failed failed_too (StepFaults.Full used need) more too r =
    record {
      step = r.step;
      next = next_more tells other conf input added s r.step more r.next;
      size_is = r.size_is;
      need_is = r.need_is;
      over = r.over;
    }
refusal_more tells other conf input added s size failed failed_too (StepFaults.Spent last) more too r =
    record {
      step = r.step;
      next = next_more tells other conf input added s r.step more r.next;
      last_is = r.last_is;
      over = r.over;
    }
refusal_more tells other conf input added s size failed failed_too StepFaults.Disk more too r = too r
refusal_more tells other conf input added s size failed failed_too StepFaults.Memory more too r = tt
refusal_more tells other conf input added s size failed failed_too any9 more too r = r

disk_stop : {T : Type 0} (fault : StepFault) → ◌≡◌ {A = Result T StepFault} (Err fault) (Err StepFaults.Disk)
    → ◌≡◌ {A = Result (Unit {0}) Stop} (Err (stop_of_step fault)) (Err Stops.Disk)
disk_stop fault e = ap (λ (f : StepFault). Err (stop_of_step f)) (err_same fault StepFaults.Disk e)

-- ---- the item

-- an item that was accepted stays where more steps are added
pub accepted_more : (steps added more : List Step) (input : List ℕ) (n : ℕ) → IsAccepted steps added input n
    → IsAccepted steps (added ++ more) input n
accepted_more steps added more input n a = record {
  front = a.front;
  moment = a.moment;
  back = a.back ++ more;
  accept = ap (λ (x : List Step). x ++ more) a.accept ∙ append_assoc a.front (Accept a.moment input ∷ a.back) more;
  number = a.number;
  next = a.next;
}

module _ {D C : Type 0} (disks : DiskView D) (tells : ℕ → Type 0) (conf input : List ℕ) (old : Shown D C) where
  accepted_text : (n : ℕ) (mid : Shown D C) → (has : HasStored disks tells conf input old mid (Ok n))
      → (more : List Step) → IsAcceptedLine disks old (has.added ++ more) input (accepted_line n)
  accepted_text n mid has more = record {
    number = n;
    small = has.small n refl;
    text_is = refl;
    accepted = λ steps s. accepted_more steps has.added more input n (has.accepted n refl steps s);
  }

  -- ---- the tables or the APDU were refused

  pub stored_no_lane : (new : Shown D C) (fault : StepFault) → HasStored disks tells conf input old new (Err fault)
      → IsOfNoLane (Some fault)
  stored_no_lane new fault has =
      refusal_no_lane tells conf input has.added new.current new.journal.size
      (Rose (disks.faults old.journal.disk) (disks.faults new.journal.disk)) fault (has.refused fault refl)

  pub work_refused : (out : Output) (new : Shown D C) (fault : StepFault) → out.after ≡ out.before
      → HasStored disks tells conf input old new (Err fault)
      → HasWorked disks tells conf input out old new (Err (stop_of_step fault))
  work_refused out new fault same has = record {
    added = has.added;
    torn_step = has.torn_step;
    adds = adds_unless disks tells conf input old new has.added has.torn_step _ _ (disk_stop fault) has.adds;
    in_turn = has.in_turn;
    printed = stopped (stop_of_step fault)
        (work_stop tells conf input has.added new.current new.journal.size
        (Rose (disks.faults old.journal.disk) (disks.faults new.journal.disk)) fault (has.refused fault refl)) []
        (inl refl) (prints_nothing out same);
    quiet = λ ok. absurd cc;
    tables = λ ok. absurd cc;
  }

  -- ---- the APDU was accepted

  stored_calm : {n : ℕ} → ◌≡◌ {A = Result ℕ StepFault} (Ok n) (Err StepFaults.Disk) → ⊥
  stored_calm e = cc

  stored_turn : (mid : Shown D C) (n : ℕ) → (has : HasStored disks tells conf input old mid (Ok n)) → AreInTurn 0
      has.added
  stored_turn mid n has = subst (AreInTurn 0)
      (ap (λ (t : List Step). has.added ++ t) (has.adds.calm stored_calm) ∙ append-nil has.added) has.in_turn

  -- its number was not printed whole
  pub work_unsaid : (out : Output) (new : Shown D C) (n : ℕ) (stop : Stop)
      → HasStored disks tells conf input old new (Ok n) → HasAcknowledged out n (Err stop)
      → HasWorked disks tells conf input out old new (Err stop)
  work_unsaid out new n stop has said = record {
    added = has.added;
    torn_step = has.torn_step;
    adds = adds_unless disks tells conf input old new has.added has.torn_step _ _ (λ e. absurd (stored_calm e))
        has.adds;
    in_turn = has.in_turn;
    printed = unsaid said;
    quiet = λ ok. absurd cc;
    tables = λ ok. absurd cc;
  } where
    text : IsAcceptedLine disks old has.added input (accepted_line n)
    text = record { number = n; small = has.small n refl; text_is = refl; accepted = has.accepted n refl }

    Why : Stop → Type 0
    Why = IsWorkStop tells conf input has.added new.current new.journal.size
        (Rose (disks.faults old.journal.disk) (disks.faults new.journal.disk))

    unsaid : ((stop ≡ Stops.Memory) × (out.after ≡ out.before)) ⊎
        ((stop ≡ Stops.Sink) × PrintsFront out (accepted_line n)) → PrintsOrFails Why
        (IsAcceptedLine disks old has.added input) out (Err stop)
    unsaid (inl m) = subst (λ (s : Stop). PrintsOrFails Why (IsAcceptedLine disks old has.added input) out (Err s))
        (sym m.0) (stopped Stops.Memory memory [] (inl refl) (prints_nothing out m.1))
    unsaid (inr s) = subst (λ (x : Stop). PrintsOrFails Why (IsAcceptedLine disks old has.added input) out (Err x))
        (sym s.0) (cut (accepted_line n) text s.1)

  -- what settling adds behind it
  settling_adds : {result : Result (Unit {0}) StepFault} (later : ℕ → Type 0) (mid new : Shown D C) (n : ℕ)
      (has : HasStored disks tells conf input old mid (Ok n)) → ((t : ℕ) → later t → tells t)
      → (settled : HasSettled disks later mid new result)
      → Adds disks tells conf input old new (has.added ++ settled.added) settled.torn_step
      (result ≡ Err StepFaults.Disk)
  settling_adds later mid new n has more settled =
      adds_then disks tells conf input old mid new has.added settled.added settled.torn_step _
      (adds_calm disks tells conf input old mid has.added has.torn_step _ stored_calm has.adds)
      (adds_more disks later tells conf input mid new settled.added settled.torn_step _ more (settled.adds conf input))

  settling_turn : {result : Result (Unit {0}) StepFault} (later : ℕ → Type 0) (mid new : Shown D C) (n : ℕ)
      (has : HasStored disks tells conf input old mid (Ok n)) (settled : HasSettled disks later mid new result)
      → AreInTurn 0 ((has.added ++ settled.added) ++ settled.torn_step)
  settling_turn later mid new n has settled =
      subst (AreInTurn 0) (sym (append_assoc has.added settled.added settled.torn_step))
      (turn_append 0 has.added (settled.added ++ settled.torn_step) (stored_turn mid n has)
      (subst (λ (k : ℕ). AreInTurn k (settled.added ++ settled.torn_step)) (sym (has.turn n refl)) settled.in_turn))

  -- all that was due is done
  pub work_settled : (later : ℕ → Type 0) (out : Output) (mid new : Shown D C) (n : ℕ)
      → HasStored disks tells conf input old mid (Ok n) → ((t : ℕ) → later t → tells t)
      → Prints out (accepted_line n) → HasSettled disks later mid new (Ok tt)
      → HasWorked disks tells conf input out old new (Ok tt)
  work_settled later out mid new n has more printed settled = record {
    added = has.added ++ settled.added;
    torn_step = settled.torn_step;
    adds = adds_unless disks tells conf input old new (has.added ++ settled.added) settled.torn_step _ _
        (λ e. absurd (settled_calm e)) (settling_adds later mid new n has more settled);
    in_turn = settling_turn later mid new n has settled;
    printed = whole tt (accepted_line n) (accepted_text n mid has settled.added) printed;
    quiet = λ ok. let q = settled.quiet refl in (q.0, more q.0 q.1, q.2);
    tables = λ ok. ap (λ (ts : List (List ℕ)). numbered ts (length ts)) (settled.tables settled_calm)
        ∙ has.tables n refl;
  } where
    settled_calm : ◌≡◌ {A = Result (Unit {0}) StepFault} (Ok tt) (Err StepFaults.Disk) → ⊥
    settled_calm e = cc

  -- a step of it was refused
  -- what settling was refused for is no refusal of a lane's step
  pub settled_no_lane : (later : ℕ → Type 0) (mid new : Shown D C) (n : ℕ) (fault : StepFault)
      → HasStored disks tells conf input old mid (Ok n) → HasSettled disks later mid new (Err fault)
      → IsOfNoLane (Some fault)
  settled_no_lane later mid new n fault has settled =
      refusal_no_lane later conf input (has.added ++ settled.added) new.current new.journal.size
      (Rose (disks.faults mid.journal.disk) (disks.faults new.journal.disk)) fault
      (settled.refused fault refl conf input has.added (has.turn n refl))

  pub work_unsettled : (later : ℕ → Type 0) (out : Output) (mid new : Shown D C) (n : ℕ) (fault : StepFault)
      → HasStored disks tells conf input old mid (Ok n) → ((t : ℕ) → later t → tells t)
      → Prints out (accepted_line n) → HasSettled disks later mid new (Err fault)
      → HasWorked disks tells conf input out old new (Err (stop_of_step fault))
  work_unsettled later out mid new n fault has more printed settled = record {
    added = has.added ++ settled.added;
    torn_step = settled.torn_step;
    adds = adds_unless disks tells conf input old new (has.added ++ settled.added) settled.torn_step _ _
        (disk_stop fault) (settling_adds later mid new n has more settled);
    in_turn = settling_turn later mid new n has settled;
    printed = stopped (stop_of_step fault)
        (work_stop tells conf input (has.added ++ settled.added) new.current new.journal.size
        (Rose (disks.faults old.journal.disk) (disks.faults new.journal.disk)) fault why)
        (accepted_line n) (inr (accepted_text n mid has settled.added)) printed;
    quiet = λ ok. absurd cc;
    tables = λ ok. absurd cc;
  } where
    why : IsRefusal tells conf input (has.added ++ settled.added) new.current new.journal.size
        (Rose (disks.faults old.journal.disk) (disks.faults new.journal.disk)) fault
    why = refusal_more later tells conf input (has.added ++ settled.added) new.current new.journal.size
        (Rose (disks.faults mid.journal.disk) (disks.faults new.journal.disk)) _ fault more
        (λ r. omega (arith, r, has.adds.later)) (settled.refused fault refl conf input has.added (has.turn n refl))
