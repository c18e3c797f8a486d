-- The first cause of a refusal is told.
use Rattle.std.proofs.Common.{◌≡◌, ℕ, ◌+◌, ◌<◌, ◌≤◌, inl, inr, true, false, Bool, List, Option, Some}
use Rattle.std.proofs.Common.{refl, sym, ap, ◌∙◌, arith}
use Rattle.std.specs.Prelude.{◌⊎◌}
use Rattle.mta_edge.specs.Views.{DiskView}
use Rattle.mta_journal.specs.Shown.{Shown as JournalShown}
use Rattle.mta_journal.specs.Appending.{journal_limit}
use Rattle.mta_records.specs.declared.fault.StepFault.{StepFault}
use Rattle.mta_records.specs.declared.fault.StepFault.TheVariants as Faults
use Rattle.mta_records.specs.declared.step.Step.{Step}
use Rattle.mta_histories.specs.Classes.{class_of}
use Rattle.mta_histories.specs.History.{when}
use Rattle.mta_histories.specs.Lanes.{State}
use Rattle.mta_spool.specs.Order.{FirstCauseIsTold, IsCause, IsFirstCause, place_of}
use Rattle.mta_spool.specs.Refusals.{IsOfLane, IsRefused}
use Rattle.mta_spool.specs.Stands.{IsOfNoRefusal, last_number, Makes, need_of}
use Rattle.mta_spool.proofs.Refused.{refusal_of_lane}

-- a refusal for a lane is a cause, and has a place before the others
lane_is_cause : {D : Type 0} (journal : JournalShown D) (s : State) (step : Step) (f : StepFault)
    → IsRefused s (class_of step) (when s step) f → IsOfLane f → IsCause journal s step f
lane_is_cause journal s step (Faults.NoLane lane) is of = is
lane_is_cause journal s step (Faults.Fenced generation) is of = is
lane_is_cause journal s step Faults.Unexpected is of = is
lane_is_cause journal s step (Faults.BusyLanes count) is of = is
lane_is_cause journal s step f is of = absurd of

lane_is_before : (f : StepFault) → IsOfLane f → place_of f < 6
lane_is_before (Faults.NoLane lane) of = omega arith
lane_is_before (Faults.Fenced generation) of = omega arith
lane_is_before Faults.Unexpected of = omega arith
lane_is_before (Faults.BusyLanes count) of = omega arith
lane_is_before f of = absurd of

module _ {D : Type 0} (model : DiskView D) (step : Step) (old new : JournalShown D) (s t : State) (a b : List Step)
    (fault : Option StepFault) (m : Makes model step old s a new t b fault)
  where
    goes_on : (f : StepFault) → 0 < place_of f
        → ((before : StepFault) → IsCause old s step before → place_of before < place_of f → ⊥) → old.ended ≡ false
    goes_on f behind first = by_test old.ended refl
      where
        by_test : (e : Bool) → old.ended ≡ e → e ≡ false
        by_test true is = absurd (first Faults.Ended is behind)
        by_test false is = refl

    none_for_lane : (f : StepFault) → 6 ≤ place_of f
        → ((before : StepFault) → IsCause old s step before → place_of before < place_of f → ⊥)
        → IsOfNoRefusal s step
    none_for_lane f behind first g is =
        let of = refusal_of_lane s (class_of step) (when s step) g is in
        first g (lane_is_cause old s step g is of)
        (let before = lane_is_before g of in omega (arith, before, behind))

    pub first_told : (first : StepFault) → IsFirstCause old s step first
        → (fault ≡ Some first) ⊎ (fault ≡ Some Faults.Memory)
    first_told Faults.Ended f = inl (m.ended.1 f.cause)
    first_told (Faults.NoLane lane) f =
        m.row_where (goes_on (Faults.NoLane lane) (omega arith) f.first) (Faults.NoLane lane) f.cause
    first_told (Faults.Fenced generation) f =
        m.row_where (goes_on (Faults.Fenced generation) (omega arith) f.first) (Faults.Fenced generation) f.cause
    first_told Faults.Unexpected f =
        m.row_where (goes_on Faults.Unexpected (omega arith) f.first) Faults.Unexpected f.cause
    first_told (Faults.BusyLanes count) f =
        m.row_where (goes_on (Faults.BusyLanes count) (omega arith) f.first) (Faults.BusyLanes count) f.cause
    first_told (Faults.Spent last) f =
        let told : fault ≡ Some (Faults.Spent (last_number s (class_of step))) =
        m.spent_where (goes_on (Faults.Spent last) (omega arith) f.first)
        (none_for_lane (Faults.Spent last) (omega arith) f.first) f.cause.1 in
        inl (told ∙ ap (λ (n : ℕ). Some (Faults.Spent n)) (sym f.cause.0))
    first_told Faults.Memory f = absurd f.cause
    first_told (Faults.Full size need) f =
        let long : journal_long size need = f.cause.2 in
        full (m.full_where (goes_on (Faults.Full size need) (omega arith) f.first)
        (none_for_lane (Faults.Full size need) (omega arith) f.first)
        (λ spent. f.first (Faults.Spent (last_number s (class_of step))) (refl, spent) (omega arith))
        (passes size need f.cause.0 f.cause.1 long))
      where
        journal_long : ℕ → ℕ → Type 0
        journal_long x y = journal_limit < x + y

        passes : (x y : ℕ) → x ≡ old.size → y ≡ need_of step → journal_long x y
            → journal_limit < old.size + need_of step
        passes x y p q l = omega (arith, p, q, l)

        full : (fault ≡ Some (Faults.Full old.size (need_of step))) ⊎ (fault ≡ Some Faults.Memory)
            → (fault ≡ Some (Faults.Full size need)) ⊎ (fault ≡ Some Faults.Memory)
        full (inl told) = inl (told ∙ ap (λ (n : ℕ). Some (Faults.Full n (need_of step))) (sym f.cause.0)
            ∙ ap (λ (n : ℕ). Some (Faults.Full size n)) (sym f.cause.1))
        full (inr memory) = inr memory
    first_told Faults.Disk f = absurd f.cause

pub first_cause_is_told : {D : Type 0} (model : DiskView D) → FirstCauseIsTold model
first_cause_is_told model step old new s t a b fault m first is =
    first_told model step old new s t a b fault m first is
