-- What is possible before tables are recorded.
use Rattle.std.proofs.Common.{◌≡◌, ◌≢◌, ℕ, List, [], ◌∷◌, length, get_or, Option, Some, None, refl, sym, ap}
use Rattle.std.proofs.Common.{subst, ◌∙◌, arith}
use Rattle.std.proofs.lemmas.Option.{slice_get-get_or}
use Rattle.mta_procedures.specs.declared.verdict.Verdict.{Verdict}
use Rattle.mta_procedures.specs.declared.verdict.Verdict.TheVariants as Verdicts
use Rattle.mta_machine.specs.Items.{Machine, numbered}
use Rattle.mta_machine.specs.Machine.{Discharge, HasVerdict, IsJustified, last_tables, not_delivered, verdict_at}
use Rattle.mta_machine.specs.Machine.{verdict_on}
use Rattle.mta_histories.specs.Lanes.{State}
use Rattle.mta_histories.specs.Classes.{Class, Settling, accepts, affirm, back, begins, class_of, deliver, discard}
use Rattle.mta_histories.specs.Classes.{expand, on_lane, opens, records, report, sets_format, settles}
use Rattle.mta_histories.specs.History.{MachineNeeds, NamesPeer, StepNeeds, discharge_by, when}
use Rattle.mta_histories.specs.Kept.{IsKept}
use Rattle.mta_histories.proofs.LaneLists.{each-at}
use Rattle.mta_replay.specs.Laws.{NeedsNoTables, TablesComeFirst}

-- the last of some is there
pub no_last : {A : Type 0} (xs : List A) → numbered xs (length xs) ≡ None → xs ≡ []
no_last [] none = refl
no_last (x ∷ xs) none =
    let there = slice_get-get_or (x ∷ xs) (length xs) x (omega arith) in
    let both : Some (get_or (x ∷ xs) (length xs) x) ≡ None = sym there ∙ none in absurd cc

module _ (m : Machine) (none : numbered m.tables (last_tables m) ≡ None) where
  no_verdict : (i r moment : ℕ) → verdict_at m i r moment ≡ None
  no_verdict i r moment =
      ap (λ (o : Option (List ℕ)). verdict_on m.format m.items o (numbered m.items i) r moment) none

  nothing_called : (i : ℕ) (rs : List ℕ) (moment : ℕ) (v : Verdict) → HasVerdict m i rs moment v → ⊥
  nothing_called i rs moment v has =
      let both : None ≡ Some v = sym (no_verdict i has.0 moment) ∙ has.2 in absurd cc

settles_none : (s : State) (how : Settling) (i r moment : ℕ)
    → numbered s.machine.tables (last_tables s.machine) ≡ None → MachineNeeds s (settles how i r) moment → ⊥
settles_none s deliver i r moment none needs =
    nothing_called s.machine none i (r ∷ []) moment (Verdicts.Deliver needs.2.0) needs.2.1
settles_none s expand i r moment none needs =
    nothing_called s.machine none i (r ∷ []) moment (Verdicts.Expand needs.2.0) needs.2.1
settles_none s report i r moment none needs =
    let by : discharge_by report (verdict_at s.machine i r moment) ≡ not_delivered 0 0 =
    ap (discharge_by report) (no_verdict s.machine none i r moment) in
    nothing_called s.machine none i (r ∷ []) moment (Verdicts.NonDeliver 0 0)
    (subst (λ (how : Discharge). IsJustified s.machine i (r ∷ []) how moment) by needs.2)
settles_none s affirm i r moment none needs =
    nothing_called s.machine none i (r ∷ []) moment Verdicts.Affirm needs.2
settles_none s discard i r moment none needs =
    nothing_called s.machine none i (r ∷ []) moment Verdicts.Discard needs.2
settles_none s back i r moment none needs =
    nothing_called s.machine none i (r ∷ []) moment Verdicts.Back needs.2

by_class : (s : State) (c : Class) (moment : ℕ) → IsKept s
    → numbered s.machine.tables (last_tables s.machine) ≡ None → StepNeeds s c moment → MachineNeeds s c moment
    → NeedsNoTables c
by_class s (begins t) moment kept none allowed needs = tt
by_class s sets_format moment kept none allowed needs = tt
by_class s (records text) moment kept none allowed needs = tt
by_class s (accepts octets) moment kept none allowed needs = needs.1 (no_last s.machine.tables none)
by_class s (settles how i r) moment kept none allowed needs = settles_none s how i r moment none needs
by_class s (opens role peer reference twa checkpoint window) moment kept none allowed needs =
    subst (λ (o : Option (List ℕ)). NamesPeer o peer) none allowed.named
by_class s (on_lane n generation step) moment kept none allowed needs =
    each-at (λ lane. s.machine.tables ≢ []) s.lanes.open_lanes n allowed.lane allowed.lane_is kept.recorded
    (no_last s.machine.tables none)

pub tables_come_first : TablesComeFirst
tables_come_first s step kept none possible =
    by_class s (class_of step) (when s step) kept none possible.allowed possible.as_machine
