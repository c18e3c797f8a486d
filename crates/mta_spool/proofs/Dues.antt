-- What is known of a step that is next.
use Rattle.std.proofs.Common.{◌≡◌, ℕ, ◌+◌, ◌≤◌, ◌<◌, ◌^◌, inl, inr, List, Ok, Option, Some, length, refl}
use Rattle.std.proofs.Common.{sym, ap, subst}
use Rattle.std.proofs.Common.{arith}
use Rattle.std.specs.Prelude.{IfSome, is_some}
use Rattle.mta_ber.specs.Times.{last_moment}
use Rattle.mta_procedures.specs.declared.verdict.Verdict.{Verdict}
use Rattle.mta_procedures.specs.declared.verdict.Verdict.TheVariants as Verdicts
use Rattle.mta_records.specs.declared.step.Step.{Step}
use Rattle.mta_records.specs.declared.step.Step.TheVariants as step
use Rattle.mta_histories.specs.Classes.{class_of, moment_of}
use Rattle.mta_histories.specs.Lanes.{State}
use Rattle.mta_histories.specs.History.{IsPossible}
use Rattle.mta_histories.specs.Kept.{IsKept}
use Rattle.mta_histories.specs.Due.{IsDue, IsNext, step_of}
use Rattle.mta_histories.specs.Numbers.{numbers_needed}
use Rattle.mta_histories.proofs.Dues.{due_steps_are_possible}
use Rattle.mta_histories.proofs.Needed.{numbers_suffice}
use Rattle.mta_tables.specs.Tables.{TablesValue, tables_of}
use Rattle.mta_machine.specs.Apdu.{value_read}
use Rattle.mta_machine.specs.Rules.{is_tables_text, tables_value}
use Rattle.mta_lane_send.specs.Half.{last_of}
use Rattle.mta_spool.specs.Due.{IsDueStep}
use Rattle.mta_spool.specs.Stands.{IsOfNoRefusal}
use Rattle.mta_spool.proofs.Refused.{allowed}

some-is : (a b : Step) → ◌≡◌ {A = Option Step} (Some a) (Some b) → a ≡ b
some-is a b e = cc

told : (a b : Step) (moment : ℕ) → ◌≡◌ {A = Option Step} (Some a) (Some b) → moment_of a ≡ Some moment
    → moment_of b ≡ Some moment
told a b moment e is = subst (λ (x : Step). moment_of x ≡ Some moment) (some-is a b e) is

due-by : (v : Verdict) (i r moment : ℕ) (due : Step) → step_of v i r moment ≡ Some due → IsDueStep due
due-by (Verdicts.Deliver place) i r moment due e = subst IsDueStep (some-is (step.Deliver i r moment) due e) tt
due-by (Verdicts.Expand place) i r moment due e = subst IsDueStep (some-is (step.Expand i r moment) due e) tt
due-by Verdicts.Affirm i r moment due e = subst IsDueStep (some-is (step.Affirm i r moment) due e) tt
due-by (Verdicts.NonDeliver reason diagnostic) i r moment due e =
    subst IsDueStep (some-is (step.Report i r moment) due e) tt
due-by Verdicts.Back i r moment due e = subst IsDueStep (some-is (step.Back i r moment) due e) tt
due-by Verdicts.Discard i r moment due e = subst IsDueStep (some-is (step.Discard i r moment) due e) tt
due-by any0 i r moment due e = absurd cc

due-of : (s : State) (i r moment : ℕ) (due : Step) → IsDue s i r moment due → IsDueStep due
due-of s i r moment due (inl d) = due-by d.verdict i r moment due d.step_is
due-of s i r moment due (inr d) = subst IsDueStep (sym d.step_is) tt

-- it is one of those that may be due
pub next_is_due : (s : State) (moment : ℕ) (due : Step) → IsNext s moment due → IsDueStep due
next_is_due s moment due next = due-of s next.item next.recipient moment due next.is_due

moment-by : (v : Verdict) (i r moment : ℕ) (due : Step) → step_of v i r moment ≡ Some due → moment_of due ≡ Some moment
moment-by (Verdicts.Deliver place) i r moment due e = told (step.Deliver i r moment) due moment e refl
moment-by (Verdicts.Expand place) i r moment due e = told (step.Expand i r moment) due moment e refl
moment-by Verdicts.Affirm i r moment due e = told (step.Affirm i r moment) due moment e refl
moment-by (Verdicts.NonDeliver reason diagnostic) i r moment due e = told (step.Report i r moment) due moment e refl
moment-by Verdicts.Back i r moment due e = told (step.Back i r moment) due moment e refl
moment-by Verdicts.Discard i r moment due e = told (step.Discard i r moment) due moment e refl
moment-by any0 i r moment due e = absurd cc

moment-of : (s : State) (i r moment : ℕ) (due : Step) → IsDue s i r moment due → moment_of due ≡ Some moment
moment-of s i r moment due (inl d) = moment-by d.verdict i r moment due d.step_is
moment-of s i r moment due (inr d) = ap moment_of d.step_is

-- it carries the moment at which it is due
pub next_fits : (s : State) (moment : ℕ) (due : Step) → moment ≤ last_moment → IsNext s moment due
    → IfSome (moment_of due) (λ m. m ≤ last_moment)
next_fits s moment due fits next =
    subst (λ (o : Option ℕ). IfSome o (λ m. m ≤ last_moment))
    (sym (moment-of s next.item next.recipient moment due next.is_due)) fits

-- ---- no refusal for a lane stands for it

not-by : (s : State) (v : Verdict) (i r moment : ℕ) (due : Step) → step_of v i r moment ≡ Some due
    → IsOfNoRefusal s due
not-by s (Verdicts.Deliver place) i r moment due e =
    subst (IsOfNoRefusal s) (some-is (step.Deliver i r moment) due e) (λ f is. is)
not-by s (Verdicts.Expand place) i r moment due e =
    subst (IsOfNoRefusal s) (some-is (step.Expand i r moment) due e) (λ f is. is)
not-by s Verdicts.Affirm i r moment due e =
    subst (IsOfNoRefusal s) (some-is (step.Affirm i r moment) due e) (λ f is. is)
not-by s (Verdicts.NonDeliver reason diagnostic) i r moment due e =
    subst (IsOfNoRefusal s) (some-is (step.Report i r moment) due e) (λ f is. is)
not-by s Verdicts.Back i r moment due e =
    subst (IsOfNoRefusal s) (some-is (step.Back i r moment) due e) (λ f is. is)
not-by s Verdicts.Discard i r moment due e =
    subst (IsOfNoRefusal s) (some-is (step.Discard i r moment) due e) (λ f is. is)
not-by s any1 i r moment due e = absurd cc

not-of : (s : State) (i r moment : ℕ) (due : Step) → IsDue s i r moment due → IsOfNoRefusal s due
not-of s i r moment due (inl d) = not-by s d.verdict i r moment due d.step_is
not-of s i r moment due (inr d) = subst (IsOfNoRefusal s) (sym d.step_is)
    (λ f is. allowed s (class_of (step.Abandon d.number (last_of d.lane.sending) moment)) moment f
    (record { lane = d.lane; lane_is = d.lane_is; current = tt; needs = (d.sending, d.expired) }) is)

pub next_not_refused : (s : State) (moment : ℕ) (due : Step) → IsNext s moment due → IsOfNoRefusal s due
next_not_refused s moment due next = not-of s next.item next.recipient moment due next.is_due

-- where enough numbers are left it is possible
pub next_is_possible : (s : State) (moment : ℕ) (due : Step) → IsKept s → s.moment ≤ moment → IsNext s moment due
    → length s.machine.items + numbers_needed s (class_of due) < 2 ^ 32 → IsPossible s due
next_is_possible s moment due kept timely next left =
    due_steps_are_possible s next.item next.recipient moment due kept timely next.is_due
    (omega (arith, left, numbers_suffice s due))

-- ---- tables

-- a text that is read as tables may be recorded
pub tables_possible : (s : State) (text : List ℕ) (tables : TablesValue) → tables_of text ≡ Ok tables
    → length s.machine.items < 2 ^ 32 → IsPossible s (step.Tables text)
unfolding is_tables_text tables_value
tables_possible s text tables read numbers = record {
  allowed = ap (λ r. is_some (value_read r)) read;
  as_machine = tt;
  timely = omega arith;
  numbers = numbers;
}
