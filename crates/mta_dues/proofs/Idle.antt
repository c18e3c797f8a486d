-- Of an item that is idle nothing is due.
use Rattle.std.proofs.Common.{inl, inr, ◌≡◌, ℕ, Bool, true, false, List, Option, Some, None, refl, sym, ap, ◌∙◌}
use Rattle.std.specs.Prelude.{option_map, option_and_then}
use Rattle.std.proofs.lemmas.Option.{same_Some}
use Rattle.mta_records.specs.declared.step.Step.{Step}
use Rattle.mta_apdu.specs.Apdus.{ApduValue}
use Rattle.mta_procedures.specs.declared.verdict.Verdict.{Verdict}
use Rattle.mta_procedures.specs.declared.verdict.Verdict.TheVariants as Verdicts
use Rattle.mta_machine.specs.Items.{ItemValue, Machine, numbered, has_status, is_pending, is_pending_at}
use Rattle.mta_machine.specs.Rules.{is_expired, passed_back, verdict_of}
use Rattle.mta_machine.specs.Machine.{last_tables, settled, verdict_at, verdict_on}
use Rattle.mta_histories.specs.Lanes.{State}
use Rattle.mta_histories.specs.Kept.{IsKept}
use Rattle.mta_histories.specs.Due.{step_of}
use Rattle.mta_idle_laws.specs.Idle.{calls_at_once, IsAtRest, IsIdle}
use Rattle.mta_dues.specs.Answers.{IsDueOf, IsFirstOf}
use Rattle.mta_dues.proofs.Recipients.{expires, not_pending}

-- a verdict that calls for nothing at once calls for no step
no_step : (v : Option Verdict) (back : Option ApduValue) (i r moment : ℕ) (w : Verdict) (due : Step)
    → calls_at_once v ≡ false → option_map (settled back) v ≡ Some w → step_of w i r moment ≡ Some due → ⊥
no_step None back i r moment w due waits is step = absurd cc
no_step (Some (Verdicts.Deliver place)) back i r moment w due waits is step = absurd cc
no_step (Some (Verdicts.Expand place)) back i r moment w due waits is step = absurd cc
no_step (Some (Verdicts.Relay place)) back i r moment w due waits is step =
    let same : Verdicts.Relay place ≡ w = same_Some (Verdicts.Relay place) w is in
    let none : None ≡ Some due = ap (λ (x : Verdict). step_of x i r moment) same ∙ step in
    absurd cc
no_step (Some Verdicts.Affirm) back i r moment w due waits is step = absurd cc
no_step (Some (Verdicts.NonDeliver reason diagnostic)) back i r moment w due waits is step = absurd cc
no_step (Some (Verdicts.Hold until)) back i r moment w due waits is step =
    let same : Verdicts.Hold until ≡ w = same_Some (Verdicts.Hold until) w is in
    let none : None ≡ Some due = ap (λ (x : Verdict). step_of x i r moment) same ∙ step in
    absurd cc
no_step (Some Verdicts.Back) back i r moment w due waits is step = absurd cc
no_step (Some Verdicts.Discard) back i r moment w due waits is step = absurd cc

verdict_is : (m : Machine) (i r moment format : ℕ) (text : List ℕ) (item : ItemValue)
    → numbered m.tables (last_tables m) ≡ Some text → format ≡ m.format → numbered m.items i ≡ Some item
    → verdict_at m i r moment
    ≡ option_map (settled (passed_back text m.items item)) (verdict_of format text item.octets item.arrival r moment)
verdict_is m i r moment format text item text_is format_is item_is =
    ap (λ (t : Option (List ℕ)). verdict_on m.format m.items t (numbered m.items i) r moment) text_is
    ∙ ap (λ (x : Option ItemValue). verdict_on m.format m.items (Some text) x r moment) item_is
    ∙ ap (λ (f : ℕ). verdict_on f m.items (Some text) (Some item) r moment) (sym format_is)

pub at_rest : (s : State) (i r moment format : ℕ) (text : List ℕ) (item : ItemValue)
    → numbered s.machine.tables (last_tables s.machine) ≡ Some text → format ≡ s.machine.format
    → numbered s.machine.items i ≡ Some item → IsAtRest format text item r moment → IsDueOf s i r moment None
at_rest s i r moment format text item text_is format_is item_is rest due (inl d) =
    no_step (verdict_of format text item.octets item.arrival r moment) (passed_back text s.machine.items item) i r
    moment
    d.verdict due rest.waits (sym (verdict_is s.machine i r moment format text item text_is format_is item_is)
    ∙ d.verdict_is) d.step_is
at_rest s i r moment format text item text_is format_is item_is rest due (inr d) =
    let does : is_expired format text item.octets item.arrival moment ≡ true =
    (expires s.machine i r moment format text item d.lane.transfer text_is format_is item_is d.has).0 d.expired in
    let never = rest.unexpired in
    absurd cc

pub pending_of : (m : Machine) (i r : ℕ) (item : ItemValue) → numbered m.items i ≡ Some item
    → is_pending_at m i r ≡ true → has_status is_pending (numbered item.statuses r) ≡ true
pending_of m i r item is pending =
    sym
    (ap
    (λ (o : Option ItemValue). has_status is_pending
    (option_and_then (λ (x : ItemValue). numbered x.statuses r) o)) is)
    ∙ pending

nothing_while_idle : (s : State) (i r moment format : ℕ) (text : List ℕ) (item : ItemValue) → IsKept s
    → numbered s.machine.tables (last_tables s.machine) ≡ Some text → format ≡ s.machine.format
    → numbered s.machine.items i ≡ Some item → IsIdle format text item moment → IsDueOf s i r moment None
nothing_while_idle s i r moment format text item kept text_is format_is item_is idle =
    by_test (is_pending_at s.machine i r) refl
  where
    by_test : (b : Bool) → is_pending_at s.machine i r ≡ b → IsDueOf s i r moment None
    by_test true pending =
        at_rest s i r moment format text item text_is format_is item_is
        (idle r (pending_of s.machine i r item item_is pending))
    by_test false never = not_pending s i r moment kept never

-- nothing is due of an item at a moment at which it is idle
pub nothing_of_idle : (s : State) (i moment format : ℕ) (text : List ℕ) (item : ItemValue) → IsKept s
    → numbered s.machine.tables (last_tables s.machine) ≡ Some text → format ≡ s.machine.format
    → numbered s.machine.items i ≡ Some item → IsIdle format text item moment → IsFirstOf s i moment None
nothing_of_idle s i moment format text item kept text_is format_is item_is idle = λ r.
    nothing_while_idle s i r moment format text item kept text_is format_is item_is idle
