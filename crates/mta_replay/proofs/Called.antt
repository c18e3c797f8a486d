-- A recipient is settled under a verdict that calls for it.
use Rattle.std.proofs.Common.{◌≡◌, ◌≤◌, ℕ, zero, suc, Bool, true, false, eqb, List, [], ◌∷◌}
use Rattle.std.proofs.Common.{Option, Some, None, refl, sym, ap, subst, ◌∙◌}
use Rattle.std.specs.Prelude.{◌||◌}
use Rattle.std.specs.List.{All}
use Rattle.std.proofs.lemmas.Bool.{eq-eqb}
use Rattle.std.proofs.lemmas.List.Elements.{All-head, All-tail}
use Rattle.std.proofs.lemmas.Option.{same_Some}
use Rattle.mta_ber.specs.Times.{last_moment}
use Rattle.mta_records.specs.declared.step.Step.TheVariants as step
use Rattle.mta_procedures.specs.declared.verdict.Verdict.{Verdict}
use Rattle.mta_procedures.specs.declared.verdict.Verdict.TheVariants as Verdicts
use Rattle.mta_machine.specs.Items.{ItemValue, Machine, numbered, is_pending_at}
use Rattle.mta_machine.specs.Machine.{Discharge, not_delivered, ArePending, HasVerdict, IsJustified, verdict_at}
use Rattle.mta_machine.specs.Machine.{verdict_on, last_tables}
use Rattle.mta_histories.specs.Lanes.{State, IsFree}
use Rattle.mta_histories.specs.Classes.{Settling, deliver, expand, report, affirm, discard, back}
use Rattle.mta_histories.specs.History.{IsPossible, reported}
use Rattle.mta_histories.specs.Due.{settling_step}
use Rattle.mta_state.specs.declared.kept.Kept.{Kept}
use Rattle.mta_state.specs.Asked.{IsStored}
use Rattle.mta_state.specs.Kept.{state_of}
use Rattle.mta_state.specs.Prepared.{Prepares}
use Rattle.mta_replay.specs.Settleable.{MaySettle, IsReady, IsReadyBy, calls, calls_for}

-- ---- what is found

pub ready : (s : State) (format i r moment : ℕ) (text : List ℕ) (item : ItemValue) → format ≡ s.machine.format
    → numbered s.machine.tables (last_tables s.machine) ≡ Some text → numbered s.machine.items i ≡ Some item
    → MaySettle s i r moment
    → IsReadyBy s i r moment (verdict_on format s.machine.items (Some text) (Some item) r moment)
ready s format i r moment text item format_is text_is item_is may =
    subst (λ (f : ℕ). IsReadyBy s i r moment (verdict_on f s.machine.items (Some text) (Some item) r moment))
    (sym format_is)
    (subst
    (λ (t : Option (List ℕ)).
    IsReadyBy s i r moment (verdict_on s.machine.format s.machine.items t (Some item) r moment)) text_is
    (subst
    (λ (x : Option ItemValue).
    IsReadyBy s i r moment
    (verdict_on s.machine.format s.machine.items (numbered s.machine.tables (last_tables s.machine)) x r moment))
    item_is (by_verdict (verdict_at s.machine i r moment) refl)))
  where
    by_verdict : (v : Option Verdict) → verdict_at s.machine i r moment ≡ v → IsReadyBy s i r moment v
    by_verdict None none = λ v is. let some = is.verdict_is in absurd cc
    by_verdict (Some v) some = record { may = may; verdict_is = some }

pub never_ready : (s : State) (i r moment : ℕ) → (MaySettle s i r moment → ⊥) → IsReadyBy s i r moment None
never_ready s i r moment never v is = never is.may

-- ---- what a step needs

named-alone : (r : ℕ) (P : Type 0) → (eqb r r || false ≡ true → P) → P
named-alone r P p = p (first (eqb r r) (eq-eqb r r refl))
  where
    first : (a : Bool) → a ≡ true → (a || false) ≡ true
    first true e = refl
    first false e = absurd cc

pub the-verdict : (m : Machine) (i r moment : ℕ) (v : Verdict) → HasVerdict m i (r ∷ []) moment v
    → verdict_at m i r moment ≡ Some v
the-verdict m i r moment v has =
    let same : r ≡ has.0 = cc in
    subst (λ (q : ℕ). verdict_at m i q moment ≡ Some v) (sym same) has.2

-- what a step needs gives the verdict, which calls for it
pub record IsCalled (s : State) (how : Settling) (i r moment : ℕ) : Type 0 where
  pub verdict : Verdict
  pub ready : IsReady s i r moment verdict
  pub called : calls how verdict ≡ true

called-by : (s : State) (how : Settling) (i r moment : ℕ) (v : Verdict) → IsFree s i r
    → ArePending s.machine i (r ∷ []) → HasVerdict s.machine i (r ∷ []) moment v → s.machine.moment ≤ moment
    → s.moment ≤ moment → calls how v ≡ true → IsCalled s how i r moment
called-by s how i r moment v free pending has in_time timely called = record {
  verdict = v;
  ready = record {
    may = record {
      waiting = record { pending = named-alone r (is_pending_at s.machine i r ≡ true) (pending r); free = free };
      in_time = in_time;
      timely = timely;
    };
    verdict_is = the-verdict s.machine i r moment v has;
  };
  called = called;
}

reported-is : (v : Option Verdict) → (a : ℕ) × (b : ℕ) × (reported v ≡ not_delivered a b)
reported-is None = (0, 0, refl)
reported-is (Some (Verdicts.Deliver place)) = (0, 0, refl)
reported-is (Some (Verdicts.Expand place)) = (0, 0, refl)
reported-is (Some (Verdicts.Relay place)) = (0, 0, refl)
reported-is (Some Verdicts.Affirm) = (0, 0, refl)
reported-is (Some (Verdicts.NonDeliver reason diagnostic)) = (reason, diagnostic, refl)
reported-is (Some (Verdicts.Hold until)) = (0, 0, refl)
reported-is (Some Verdicts.Back) = (0, 0, refl)
reported-is (Some Verdicts.Discard) = (0, 0, refl)

-- a step that settles a recipient is possible only where the verdict calls for it
pub called : (s : State) (how : Settling) (i r moment : ℕ) → IsPossible s (settling_step how i r moment)
    → IsCalled s how i r moment
called s deliver i r moment p =
    called-by s deliver i r moment (Verdicts.Deliver p.as_machine.2.0) p.allowed p.as_machine.0 p.as_machine.2.1
    p.as_machine.3 p.timely refl
called s expand i r moment p =
    called-by s expand i r moment (Verdicts.Expand p.as_machine.2.0) p.allowed p.as_machine.0 p.as_machine.2.1
    p.as_machine.3 p.timely refl
called s report i r moment p =
    let v = reported-is (verdict_at s.machine i r moment) in
    let has : HasVerdict s.machine i (r ∷ []) moment (Verdicts.NonDeliver v.0 v.1) =
    subst (λ (how : Discharge). IsJustified s.machine i (r ∷ []) how moment) v.2 p.as_machine.2 in
    called-by s report i r moment (Verdicts.NonDeliver v.0 v.1) p.allowed p.as_machine.0 has p.as_machine.3 p.timely
    refl
called s affirm i r moment p =
    called-by s affirm i r moment Verdicts.Affirm p.allowed p.as_machine.0 p.as_machine.2 p.as_machine.3 p.timely refl
called s discard i r moment p =
    called-by s discard i r moment Verdicts.Discard p.allowed p.as_machine.0 p.as_machine.2 p.as_machine.3 p.timely refl
called s back i r moment p =
    called-by s back i r moment Verdicts.Back p.allowed p.as_machine.0 p.as_machine.2 p.as_machine.3 p.timely refl

-- before tables are recorded no recipient is settled
pub before_tables : (s : State) (how : Settling) (i r moment : ℕ)
    → numbered s.machine.tables (last_tables s.machine) ≡ None → IsPossible s (settling_step how i r moment) → ⊥
before_tables s how i r moment none possible =
    let c = called s how i r moment possible in
    let isnt : verdict_at s.machine i r moment ≡ None =
    ap (λ (t : Option (List ℕ)). verdict_on s.machine.format s.machine.items t (numbered s.machine.items i) r moment)
    none in
    let is = c.ready.verdict_is in absurd cc

-- ---- where no step is possible

module _ (k : Kept) (i r moment : ℕ) where
  abbrev Never : Settling → Type 0
  Never how = IsPossible (state_of k) (settling_step how i r moment) → ⊥

  uncalled : (how : Settling) (v : Option Verdict) → IsReadyBy (state_of k) i r moment v → calls_for how v ≡ false
      → Never how
  uncalled how None never e possible =
      let c = called (state_of k) how i r moment possible in never c.verdict c.ready
  uncalled how (Some v) is e possible =
      let c = called (state_of k) how i r moment possible in
      let same : c.verdict ≡ v = same_Some c.verdict v (sym c.ready.verdict_is ∙ is.verdict_is) in
      let does = subst (λ (w : Verdict). calls how w ≡ true) same c.called in absurd cc

  absent : (how : Settling) → None ≡ numbered k.parts.items.items i → Never how
  absent how none possible =
      let c = called (state_of k) how i r moment possible in
      let isnt : is_pending_at (state_of k).machine i r ≡ false = rw (sym none) refl in
      let is = c.ready.may.waiting.pending in absurd cc

  pub no_deliver : (v : Option Verdict) → IsReadyBy (state_of k) i r moment v → calls_for deliver v ≡ false
      → Prepares (state_of k) (step.Deliver i r moment) None
  no_deliver = uncalled deliver

  pub none_to_deliver : None ≡ numbered k.parts.items.items i → Prepares (state_of k) (step.Deliver i r moment) None
  none_to_deliver = absent deliver

  pub no_expand : (v : Option Verdict) → IsReadyBy (state_of k) i r moment v → calls_for expand v ≡ false
      → Prepares (state_of k) (step.Expand i r moment) None
  no_expand = uncalled expand

  pub none_to_expand : None ≡ numbered k.parts.items.items i → Prepares (state_of k) (step.Expand i r moment) None
  none_to_expand = absent expand

  pub no_report : (v : Option Verdict) → IsReadyBy (state_of k) i r moment v → calls_for report v ≡ false
      → Prepares (state_of k) (step.Report i r moment) None
  no_report = uncalled report

  pub none_to_report : None ≡ numbered k.parts.items.items i → Prepares (state_of k) (step.Report i r moment) None
  none_to_report = absent report

  pub no_affirm : (v : Option Verdict) → IsReadyBy (state_of k) i r moment v → calls_for affirm v ≡ false
      → Prepares (state_of k) (step.Affirm i r moment) None
  no_affirm = uncalled affirm

  pub none_to_affirm : None ≡ numbered k.parts.items.items i → Prepares (state_of k) (step.Affirm i r moment) None
  none_to_affirm = absent affirm

  pub no_discard : (v : Option Verdict) → IsReadyBy (state_of k) i r moment v → calls_for discard v ≡ false
      → Prepares (state_of k) (step.Discard i r moment) None
  no_discard = uncalled discard

  pub none_to_discard : None ≡ numbered k.parts.items.items i → Prepares (state_of k) (step.Discard i r moment) None
  none_to_discard = absent discard

  pub no_back : (v : Option Verdict) → IsReadyBy (state_of k) i r moment v → calls_for back v ≡ false
      → Prepares (state_of k) (step.Back i r moment) None
  no_back = uncalled back

  pub none_to_back : None ≡ numbered k.parts.items.items i → Prepares (state_of k) (step.Back i r moment) None
  none_to_back = absent back

-- ---- what is stored

found-of-all : {X : Type 0} (P : X → Type 0) (xs : List X) (n : ℕ) (x : X) → All P xs → numbered xs n ≡ Some x → P x
found-of-all P [] zero x all e = absurd cc
found-of-all P [] (suc n) x all e = absurd cc
found-of-all P (y ∷ xs) zero x all e = absurd cc
found-of-all P (y ∷ xs) (suc zero) x all e = subst P (same_Some y x e) (All-head P y xs all)
found-of-all P (y ∷ xs) (suc (suc n)) x all e = found-of-all P xs (suc n) x (All-tail P y xs all) e

pub arrived : (items : List ItemValue) (i : ℕ) (item : ItemValue) → All IsStored items → Some item ≡ numbered items i
    → item.arrival ≤ last_moment
arrived items i item all e = (found-of-all IsStored items i item all (sym e)).arrived

pub ruleset ready_laws = (ready, never_ready)

pub ruleset no_deliver_laws = (no_deliver, none_to_deliver)

pub ruleset no_expand_laws = (no_expand, none_to_expand)

pub ruleset no_report_laws = (no_report, none_to_report)

pub ruleset no_affirm_laws = (no_affirm, none_to_affirm)

pub ruleset no_discard_laws = (no_discard, none_to_discard)

pub ruleset no_back_laws = (no_back, none_to_back)
