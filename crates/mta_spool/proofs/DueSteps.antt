-- What a due step is: one that settles a recipient, or that gives an activity up.
use Rattle.std.proofs.Common.{◌≡◌, ℕ, Some, sym, subst, inl, inr}
use Rattle.mta_records.specs.declared.step.Step.{Step}
use Rattle.mta_records.specs.declared.step.Step.TheVariants as step
use Rattle.mta_procedures.specs.declared.verdict.Verdict.{Verdict}
use Rattle.mta_procedures.specs.declared.verdict.Verdict.TheVariants as Verdicts
use Rattle.mta_lane_send.specs.Half.{last_of}
use Rattle.mta_histories.specs.Lanes.{State}
use Rattle.mta_histories.specs.Classes.{Settling, deliver, expand, report, affirm, discard, back, class_of}
use Rattle.mta_histories.specs.Due.{settling_step, step_of, IsDue, IsNext}
use Rattle.mta_spool.specs.Moments.{IsOfWorkers}

some_same : (a b : Step) → Some a ≡ Some b → a ≡ b
some_same a b e = cc

-- what holds of each step that settles a recipient holds of the one that a verdict calls for
of_verdict : (P : Step → Type 0) (i r moment : ℕ) (due : Step)
    → ((how : Settling) → P (settling_step how i r moment))
    → (v : Verdict) → step_of v i r moment ≡ Some due → P due
of_verdict P i r moment due p (Verdicts.Deliver place) e =
    subst P (some_same (step.Deliver i r moment) due e) (p deliver)
of_verdict P i r moment due p (Verdicts.Expand place) e =
    subst P (some_same (step.Expand i r moment) due e) (p expand)
of_verdict P i r moment due p (Verdicts.Relay place) e = absurd cc
of_verdict P i r moment due p Verdicts.Affirm e = subst P (some_same (step.Affirm i r moment) due e) (p affirm)
of_verdict P i r moment due p (Verdicts.NonDeliver reason diagnostic) e =
    subst P (some_same (step.Report i r moment) due e) (p report)
of_verdict P i r moment due p (Verdicts.Hold until) e = absurd cc
of_verdict P i r moment due p Verdicts.Back e = subst P (some_same (step.Back i r moment) due e) (p back)
of_verdict P i r moment due p Verdicts.Discard e = subst P (some_same (step.Discard i r moment) due e) (p discard)

-- and of a due step, where it holds of each that gives an activity up
of_due : (P : Step → Type 0) (s : State) (i r moment : ℕ) (due : Step)
    → ((how : Settling) → P (settling_step how i r moment))
    → ((n k : ℕ) → P (step.Abandon n k moment))
    → IsDue s i r moment due → P due
of_due P s i r moment due p q (inl d) = of_verdict P i r moment due p d.verdict d.step_is
of_due P s i r moment due p q (inr x) = subst P (sym x.step_is) (q x.number (last_of x.lane.sending))

pub of_next : (P : Step → Type 0) (s : State) (moment : ℕ) (due : Step)
    → ((how : Settling) (i r : ℕ) → P (settling_step how i r moment))
    → ((n k : ℕ) → P (step.Abandon n k moment))
    → IsNext s moment due → P due
of_next P s moment due p q next =
    of_due P s next.item next.recipient moment due (λ how. p how next.item next.recipient) q next.is_due

-- ---- it neither records tables nor accepts an APDU

settling_class : (how : Settling) (i r moment : ℕ) → IsOfWorkers (class_of (settling_step how i r moment))
settling_class deliver i r moment = tt
settling_class expand i r moment = tt
settling_class report i r moment = tt
settling_class affirm i r moment = tt
settling_class discard i r moment = tt
settling_class back i r moment = tt

pub due_class : (s : State) (moment : ℕ) (due : Step) → IsNext s moment due → IsOfWorkers (class_of due)
due_class s moment due next =
    of_next (λ (x : Step). IsOfWorkers (class_of x)) s moment due (λ how i r. settling_class how i r moment)
    (λ n k. tt) next
