-- A due step is one that a worker may make.
use Rattle.std.proofs.Common.{ℕ}
use Rattle.mta_records.specs.declared.step.Step.{Step}
use Rattle.mta_histories.specs.Lanes.{State}
use Rattle.mta_histories.specs.Classes.{Settling, deliver, expand, report, affirm, discard, back}
use Rattle.mta_histories.specs.Due.{settling_step, IsNext}
use Rattle.mta_spool.specs.Moments.{IsTimed}
use Rattle.mta_spool.proofs.DueSteps.{of_next}
use Rattle.mta_worker_step_laws.specs.Steps.{IsMade}

settling_made : (tells : ℕ → Type 0) (s : State) (how : Settling) (i r moment : ℕ) → IsTimed tells s.moment moment
    → IsMade tells s (settling_step how i r moment)
settling_made tells s deliver i r moment timed = (tt, timed)
settling_made tells s expand i r moment timed = (tt, timed)
settling_made tells s report i r moment timed = (tt, timed)
settling_made tells s affirm i r moment timed = (tt, timed)
settling_made tells s discard i r moment timed = (tt, timed)
settling_made tells s back i r moment timed = (tt, timed)

pub due_made : (tells : ℕ → Type 0) (s : State) (moment : ℕ) (due : Step) → IsTimed tells s.moment moment
    → IsNext s moment due → IsMade tells s due
due_made tells s moment due timed next =
    of_next (IsMade tells s) s moment due (λ how i r. settling_made tells s how i r moment timed)
    (λ n k. (tt, timed)) next
