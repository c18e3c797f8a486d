-- Where no tables were recorded nothing is possible but recording some, setting the format and beginning with a
-- snapshot, nothing is due and nothing waits.
use Rattle.std.proofs.Common.{◌≡◌, ◌≢◌, ℕ, false, List, [], ◌∷◌, length, Option, Some, None, sym, ap, ◌∙◌}
use Rattle.mta_records.specs.declared.step.Step.{Step}
use Rattle.std.proofs.Common.{inl, inr}
use Rattle.mta_procedures.specs.declared.verdict.Verdict.{Verdict}
use Rattle.mta_procedures.specs.declared.verdict.Verdict.TheVariants as Verdicts
use Rattle.mta_machine.specs.Items.{Machine, numbered}
use Rattle.mta_machine.specs.Machine.{verdict_at, verdict_on, last_tables, relay_at, relay_on}
use Rattle.mta_machine.specs.Machine.{HasVerdict, IsJustified}
use Rattle.mta_histories.specs.Classes.{Settling, deliver, expand, report, affirm, discard, back}
use Rattle.mta_histories.specs.Classes.{Class, begins, sets_format, records, accepts, settles, opens, on_lane}
use Rattle.mta_histories.specs.Classes.{class_of}
use Rattle.mta_histories.specs.Lanes.{Lane, State, lane_at}
use Rattle.mta_histories.specs.History.{StepNeeds, MachineNeeds, IsPossible, NamesPeer, reported, when}
use Rattle.mta_histories.specs.Kept.{IsKept}
use Rattle.mta_histories.specs.Due.{IsQuiet, IsNoBatch, HasQueue}
use Rattle.mta_histories.proofs.LaneLists.{each-at}
use Rattle.mta_replay.specs.Ready.{sets_rules}
use Rattle.mta_replay.specs.Starting.{TransfersNext}

none-at : (m : Machine) → m.tables ≡ [] → numbered m.tables (last_tables m) ≡ None
none-at m is = ap (λ (ts : List (List ℕ)). numbered ts (length ts)) is

no-verdict : (s : State) (i r moment : ℕ) → s.machine.tables ≡ [] → verdict_at s.machine i r moment ≡ None
no-verdict s i r moment is =
    ap (λ (t : Option (List ℕ)). verdict_on s.machine.format s.machine.items t (numbered s.machine.items i) r moment)
    (none-at s.machine is)

no-relay : (s : State) (i r moment : ℕ) → s.machine.tables ≡ []
    → relay_at s.machine s.machine.format (last_tables s.machine) i r moment ≡ None
no-relay s i r moment is =
    ap (λ (t : Option (List ℕ)). relay_on s.machine.format t (numbered s.machine.items i) r moment)
    (none-at s.machine is)

not-both : {A : Type 0} (o : Option A) (x : A) → o ≡ None → o ≡ Some x → ⊥
not-both {A = A} o x none some = let e : ◌≡◌ {A = Option A} None (Some x) = sym none ∙ some in cc

-- ---- steps

no-has : (s : State) (i : ℕ) (rs : List ℕ) (moment : ℕ) (v : Verdict) → s.machine.tables ≡ []
    → HasVerdict s.machine i rs moment v → ⊥
no-has s i rs moment v is h = not-both (verdict_at s.machine i h.0 moment) v (no-verdict s i h.0 moment is) h.2

no-settling : (s : State) (how : Settling) (i r moment : ℕ) → s.machine.tables ≡ []
    → MachineNeeds s (settles how i r) moment → ⊥
no-settling s deliver i r moment is needs = no-has s i (r ∷ []) moment (Verdicts.Deliver needs.2.0) is needs.2.1
no-settling s expand i r moment is needs = no-has s i (r ∷ []) moment (Verdicts.Expand needs.2.0) is needs.2.1
no-settling s report i r moment is needs =
    by_verdict (verdict_at s.machine i r moment) (no-verdict s i r moment is) needs.2
  where
    by_verdict : (o : Option Verdict) → o ≡ None → IsJustified s.machine i (r ∷ []) (reported o) moment → ⊥
    by_verdict None e j = no-has s i (r ∷ []) moment (Verdicts.NonDeliver 0 0) is j
    by_verdict (Some v) e j = cc
no-settling s affirm i r moment is needs = no-has s i (r ∷ []) moment Verdicts.Affirm is needs.2
no-settling s discard i r moment is needs = no-has s i (r ∷ []) moment Verdicts.Discard is needs.2
no-settling s back i r moment is needs = no-has s i (r ∷ []) moment Verdicts.Back is needs.2

no-lane : (s : State) (n : ℕ) (lane : Lane) → IsKept s → s.machine.tables ≡ []
    → lane_at n s.lanes.open_lanes ≡ Some lane → ⊥
no-lane s n lane kept is there = each-at (λ l. s.machine.tables ≢ []) s.lanes.open_lanes n lane there kept.recorded is

no-step : (s : State) (c : Class) (moment : ℕ) → IsKept s → s.machine.tables ≡ [] → sets_rules c ≡ false
    → StepNeeds s c moment → MachineNeeds s c moment → ⊥
no-step s (begins t) moment kept is other allowed needs = cc
no-step s sets_format moment kept is other allowed needs = cc
no-step s (records text) moment kept is other allowed needs = cc
no-step s (accepts octets) moment kept is other allowed needs = needs.1 is
no-step s (settles how i r) moment kept is other allowed needs = no-settling s how i r moment is needs
no-step s (opens role peer reference twa checkpoint window) moment kept is other allowed needs = by_text
    (numbered s.machine.tables (last_tables s.machine)) (none-at s.machine is) allowed.named
  where
    by_text : (t : Option (List ℕ)) → t ≡ None → NamesPeer t peer → ⊥
    by_text None none named = named
    by_text (Some text) none named = cc
no-step s (on_lane n generation step) moment kept is other allowed needs =
    no-lane s n allowed.lane kept is allowed.lane_is

pub nothing_but_tables : (s : State) (step : Step) → IsKept s → s.machine.tables ≡ []
    → sets_rules (class_of step) ≡ false → IsPossible s step → ⊥
nothing_but_tables s step kept is other possible =
    no-step s (class_of step) (when s step) kept is other possible.allowed possible.as_machine

-- ---- what is due and what waits

pub nothing_is_due : (s : State) (moment : ℕ) → IsKept s → s.machine.tables ≡ [] → IsQuiet s moment
nothing_is_due s moment kept is i r due (inl d) =
    not-both (verdict_at s.machine i r moment) d.verdict (no-verdict s i r moment is) d.verdict_is
nothing_is_due s moment kept is i r due (inr d) = no-lane s d.number d.lane kept is d.lane_is

pub nothing_is_relayed : (s : State) (peer : List ℕ) (moment : ℕ) → s.machine.tables ≡ [] → IsNoBatch s peer moment
nothing_is_relayed s peer moment is i r relayed =
    not-both (relay_at s.machine s.machine.format (last_tables s.machine) i r moment) peer (no-relay s i r moment is)
    relayed.relayed

pub nothing_waits : (s : State) (peer : List ℕ) → s.machine.tables ≡ [] → HasQueue s peer None
nothing_waits s peer is text there =
    absurd (not-both (numbered s.machine.tables (last_tables s.machine)) text (none-at s.machine is) there)

pub nothing_transfers : (s : State) (n g i : ℕ) (rs : List ℕ) (moment : ℕ) → s.machine.tables ≡ []
    → TransfersNext s n g i rs moment None
nothing_transfers s n g i rs moment is =
    λ may.
    not-both (numbered s.machine.tables (last_tables s.machine)) may.can.text (none-at s.machine is) may.can.text_is
