-- What a due step is for `submit`: of the last turn, its own, and none that records tables.
use Rattle.std.proofs.Common.{◌≡◌, ℕ, List, refl}
use Rattle.mta_records.specs.declared.step.Step.{Step}
use Rattle.mta_histories.specs.Lanes.{State}
use Rattle.mta_histories.specs.Classes.{Settling, deliver, expand, report, affirm, discard, back}
use Rattle.mta_histories.specs.History.{after_step}
use Rattle.mta_histories.specs.Due.{settling_step, IsNext}
use Rattle.mta_spool.specs.Moments.{IsTimed}
use Rattle.mta_spool.proofs.DueSteps.{due_class, of_next}
use Rattle.mta_spool.proofs.TablesKept.{tables_kept}
use Rattle.mta_commands.specs.Submit.{IsOwn, turn_of}

-- ---- it is of the turn of what is due

settling_turn : (how : Settling) (i r moment : ℕ) → turn_of (settling_step how i r moment) ≡ 2
settling_turn deliver i r moment = refl
settling_turn expand i r moment = refl
settling_turn report i r moment = refl
settling_turn affirm i r moment = refl
settling_turn discard i r moment = refl
settling_turn back i r moment = refl

pub next_turn : (s : State) (moment : ℕ) (due : Step) → IsNext s moment due → turn_of due ≡ 2
next_turn s moment due next =
    of_next (λ (x : Step). turn_of x ≡ 2) s moment due (λ how i r. settling_turn how i r moment) (λ n k. refl) next

-- ---- its moment is the clock's

settling_own : (tells : ℕ → Type 0) (conf input : List ℕ) (s : State) (how : Settling) (i r moment : ℕ)
    → IsTimed tells s.moment moment → IsOwn tells conf input s (settling_step how i r moment)
settling_own tells conf input s deliver i r moment timed = timed
settling_own tells conf input s expand i r moment timed = timed
settling_own tells conf input s report i r moment timed = timed
settling_own tells conf input s affirm i r moment timed = timed
settling_own tells conf input s discard i r moment timed = timed
settling_own tells conf input s back i r moment timed = timed

pub next_own : (tells : ℕ → Type 0) (conf input : List ℕ) (s : State) (moment : ℕ) (due : Step)
    → IsTimed tells s.moment moment → IsNext s moment due → IsOwn tells conf input s due
next_own tells conf input s moment due timed next =
    of_next (IsOwn tells conf input s) s moment due
    (λ how i r. settling_own tells conf input s how i r moment timed) (λ n k. timed) next

-- ---- it records no tables

pub next_tables : (s : State) (moment : ℕ) (due : Step) → IsNext s moment due
    → (after_step s due).machine.tables ≡ s.machine.tables
next_tables s moment due next = tables_kept s due (due_class s moment due next)
