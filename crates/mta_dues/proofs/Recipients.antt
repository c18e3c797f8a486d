-- What is due of one recipient.
use Rattle.std.specs.Prelude.{◌↔◌}
use Rattle.std.proofs.lemmas.Bool.{eqb-true, eq-eqb, ne_eqb, and_parts, and_from}
use Rattle.std.proofs.Common.{inl, inr, eqb, ◌≡◌, ◌≢◌, ◌≤◌, ◌<◌, ◌+◌, ℕ, Bool, true}
use Rattle.std.proofs.Common.{false, cond, List, [], ◌∷◌, Option, Some, None, refl, sym, ap, subst, ◌∙◌}
use Rattle.std.proofs.Common.{arith}
use Rattle.std.specs.List.{find}
use Rattle.std.proofs.lemmas.Option.{same_Some}
use Rattle.std.proofs.lemmas.List.Sums.{sum_by-cons}
use Rattle.mta_lane_send.specs.declared.state.SendState.{SendState}
use Rattle.mta_lane_send.specs.declared.state.SendState.TheVariants.{Idle, Sending, Ending, Dropping}
use Rattle.mta_lane_send.specs.Half.{is_sending, last_of}
use Rattle.mta_records.specs.declared.step.Step.{Step}
use Rattle.mta_records.specs.declared.step.Step.TheVariants as step
use Rattle.mta_procedures.specs.declared.verdict.Verdict.{Verdict}
use Rattle.mta_machine.specs.Items.{ItemValue, Machine, names, numbered, is_pending_at}
use Rattle.mta_machine.specs.Rules.{is_expired}
use Rattle.mta_machine.specs.Machine.{last_tables, verdict_at, verdict_on}
use Rattle.mta_histories.specs.Lanes.{Lane, State, Transfer, lane_at, is_transferring, is_for, holds, activities_of}
use Rattle.mta_histories.specs.History.{HasExpired}
use Rattle.mta_histories.specs.Due.{IsDue, IsDueByVerdict, IsDueByExpiry}
use Rattle.mta_histories.specs.Kept.{IsKept, AreNumbered, pending_count}
use Rattle.mta_dues.specs.Answers.{IsDueOf, is_sending_for, step_by}

-- ---- a lane whose activity is in Sending holds its recipients

sending_transfers : (state : SendState) → is_sending state (last_of state) ≡ true → is_transferring state ≡ true
sending_transfers (Idle last) e = absurd cc
sending_transfers (Sending k c) e = refl
sending_transfers (Ending k c) e = absurd cc
sending_transfers (Dropping k) e = absurd cc

count-cons : (lane : Lane) (lanes : List Lane) (i r : ℕ)
    → activities_of (lane ∷ lanes) i r ≡ cond (holds i r lane) 1 0 + activities_of lanes i r
count-cons lane lanes i r = sum_by-cons (λ (x : Lane). cond (holds i r x) 1 0) lane lanes

held_at : (i r n : ℕ) (lanes : List Lane) (lane : Lane) → lane_at n lanes ≡ Some lane → holds i r lane ≡ true
    → 1 ≤ activities_of lanes i r
held_at i r n [] lane at holding = absurd cc
held_at i r n (l ∷ lanes) lane at holding =
    by_test (λ rest. held_at i r n lanes lane rest holding) (eqb n l.number) at (count-cons l lanes i r)
  where
    by_test : (lane_at n lanes ≡ Some lane → 1 ≤ activities_of lanes i r) → (b : Bool)
        → cond b (Some l) (lane_at n lanes) ≡ Some lane
        → activities_of (l ∷ lanes) i r ≡ cond (holds i r l) 1 0 + activities_of lanes i r
        → 1 ≤ activities_of (l ∷ lanes) i r
    by_test more true same count =
        let one : ◌≡◌ {A = ℕ} (cond (holds i r l) 1 0) 1 =
        ap {B = ℕ} (λ (x : Lane). cond (holds i r x) 1 0) (same_Some l lane same)
        ∙ ap {B = ℕ} (λ (b : Bool). cond b 1 0) holding in
        omega (arith, count, one)
    by_test more false rest count = let some = more rest in omega (arith, count, some)

held : (s : State) (i r moment : ℕ) (due : Step) → IsDueByExpiry s i r moment due
    → 1 ≤ activities_of s.lanes.open_lanes i r
held s i r moment due e =
    held_at i r e.number s.lanes.open_lanes e.lane e.lane_is
    (and_from (is_transferring e.lane.sending) (is_for i r e.lane.transfer)
    (sending_transfers e.lane.sending e.sending) e.has)

-- ---- nothing is due of who is not pending

pub not_pending : (s : State) (i r moment : ℕ) → IsKept s → is_pending_at s.machine i r ≡ false
    → IsDueOf s i r moment None
not_pending s i r moment kept never due (inl e) = let does = e.waiting.pending in absurd cc
not_pending s i r moment kept never due (inr e) =
    let most = kept.one_activity i r in
    let none : pending_count s.machine i r ≡ 0 = rw never refl in
    absurd (omega (arith, most, none, held s i r moment due e))

-- ---- who is pending and in no activity

waiting_some : (s : State) (i r moment : ℕ) (v : Option Verdict) → is_pending_at s.machine i r ≡ true
    → activities_of s.lanes.open_lanes i r ≡ 0 → verdict_at s.machine i r moment ≡ v → (due : Step)
    → step_by v i r moment ≡ Some due → IsDue s i r moment due
waiting_some s i r moment None pending free is due e = absurd cc
waiting_some s i r moment (Some v) pending free is due e =
    inl (record { waiting = record { pending = pending; free = free }; verdict = v; verdict_is = is; step_is = e })

waiting_none : (s : State) (i r moment : ℕ) (v : Option Verdict) → activities_of s.lanes.open_lanes i r ≡ 0
    → verdict_at s.machine i r moment ≡ v → step_by v i r moment ≡ None → (due : Step)
    → IsDue s i r moment due → ⊥
waiting_none s i r moment v free is e due (inl d) =
    let same : step_by v i r moment ≡ Some due =
    ap (λ (x : Option Verdict). step_by x i r moment) (sym is ∙ d.verdict_is) ∙ d.step_is in
    absurd cc
waiting_none s i r moment v free is e due (inr d) = absurd (omega (arith, free, held s i r moment due d))

waiting_due : (s : State) (i r moment : ℕ) (v : Option Verdict) → is_pending_at s.machine i r ≡ true
    → activities_of s.lanes.open_lanes i r ≡ 0 → verdict_at s.machine i r moment ≡ v → (d : Option Step)
    → step_by v i r moment ≡ d → IsDueOf s i r moment d
waiting_due s i r moment v pending free is None e = waiting_none s i r moment v free is e
waiting_due s i r moment v pending free is (Some due) e = waiting_some s i r moment v pending free is due e

pub by_verdict : (s : State) (i r moment format : ℕ) (text : List ℕ) (item : ItemValue)
    → numbered s.machine.tables (last_tables s.machine) ≡ Some text → format ≡ s.machine.format
    → numbered s.machine.items i ≡ Some item
    → is_pending_at s.machine i r ≡ true → activities_of s.lanes.open_lanes i r ≡ 0
    → IsDueOf s i r moment (step_by (verdict_on format s.machine.items (Some text) (Some item) r moment) i r moment)
by_verdict s i r moment format text item text_is format_is item_is pending free =
    waiting_due s i r moment (verdict_on format s.machine.items (Some text) (Some item) r moment) pending free
    (ap (λ (t : Option (List ℕ)). verdict_on s.machine.format s.machine.items t (numbered s.machine.items i) r moment)
    text_is
    ∙ ap (λ (x : Option ItemValue). verdict_on s.machine.format s.machine.items (Some text) x r moment) item_is
    ∙ ap (λ (f : ℕ). verdict_on f s.machine.items (Some text) (Some item) r moment) (sym format_is))
    (step_by (verdict_on format s.machine.items (Some text) (Some item) r moment) i r moment) refl

-- ---- who is in an activity

-- what is found has the number by which it is found
pub record IsFound (i r above : ℕ) (lanes : List Lane) (lane : Lane) : Type 0 where
  pub sends : is_sending_for i r lane ≡ true
  pub higher : above < lane.number
  pub at : lane_at lane.number lanes ≡ Some lane

found_there : (i r above most : ℕ) (lanes : List Lane) (lane : Lane) → AreNumbered above lanes most
    → find (is_sending_for i r) lanes ≡ Some lane → IsFound i r above lanes lane
found_there i r above most [] lane numbered e = absurd cc
found_there i r above most (l ∷ lanes) lane numbered e =
    by_test (found_there i r l.number most lanes lane numbered.1) (is_sending_for i r l) refl e
  where
    by_test : (find (is_sending_for i r) lanes ≡ Some lane → IsFound i r l.number lanes lane)
        → (b : Bool) → is_sending_for i r l ≡ b
        → cond b (Some l) (find (is_sending_for i r) lanes) ≡ Some lane
        → IsFound i r above (l ∷ lanes) lane
    by_test more true test same =
        let here : l ≡ lane = same_Some l lane same in
        subst (λ (x : Lane). IsFound i r above (l ∷ lanes) x) here
        (record { sends = test; higher = numbered.0; at = rw (eq-eqb l.number l.number refl) refl })
    by_test more false test rest =
        let there = more rest in
        let other : eqb lane.number l.number ≡ false =
        ne_eqb lane.number l.number (λ same. omega (arith, same, there.higher)) in
        record { sends = there.sends; higher = omega (arith, numbered.0, there.higher); at = rw other there.at }

none_there : (i r : ℕ) (lanes : List Lane) (n : ℕ) (lane : Lane) → find (is_sending_for i r) lanes ≡ None
    → lane_at n lanes ≡ Some lane → is_sending_for i r lane ≡ false
none_there i r [] n lane none at = absurd cc
none_there i r (l ∷ lanes) n lane none at =
    by_tests (none_there i r lanes n lane) (is_sending_for i r l) refl none (eqb n l.number) at
  where
    by_tests : (find (is_sending_for i r) lanes ≡ None → lane_at n lanes ≡ Some lane
        → is_sending_for i r lane ≡ false)
        → (b : Bool) → is_sending_for i r l ≡ b → cond b (Some l) (find (is_sending_for i r) lanes) ≡ None
        → (c : Bool) → cond c (Some l) (lane_at n lanes) ≡ Some lane → is_sending_for i r lane ≡ false
    by_tests more true test some c at = absurd cc
    by_tests more false test rest true same =
        subst (λ (x : Lane). is_sending_for i r x ≡ false) (same_Some l lane same) test
    by_tests more false test rest false other = more rest other

-- the lane of an activity that is due to be given up passes the test
sends_for : (s : State) (i r moment : ℕ) (due : Step) (e : IsDueByExpiry s i r moment due)
    → is_sending_for i r e.lane ≡ true
sends_for s i r moment due e =
    and_from (is_sending e.lane.sending (last_of e.lane.sending)) (is_for i r e.lane.transfer) e.sending e.has

busy_not_free : (s : State) (i r moment : ℕ) (due : Step) → activities_of s.lanes.open_lanes i r ≢ 0
    → IsDueByVerdict s i r moment due → ⊥
busy_not_free s i r moment due busy d = busy d.waiting.free

-- no activity that has the recipient is in Sending
pub none_sending : (s : State) (i r moment : ℕ) → activities_of s.lanes.open_lanes i r ≢ 0
    → None ≡ find (is_sending_for i r) s.lanes.open_lanes → IsDueOf s i r moment None
none_sending s i r moment busy none due (inl d) = busy_not_free s i r moment due busy d
none_sending s i r moment busy none due (inr d) =
    let never = none_there i r s.lanes.open_lanes d.number d.lane (sym none) d.lane_is in
    let does = sends_for s i r moment due d in absurd cc

-- what expires of an activity for a recipient of the item
pub expires : (m : Machine) (i r moment format : ℕ) (text : List ℕ) (item : ItemValue) (t : Option Transfer)
    → numbered m.tables (last_tables m) ≡ Some text → format ≡ m.format → numbered m.items i ≡ Some item
    → is_for i r t ≡ true → HasExpired m t moment ↔ (is_expired format text item.octets item.arrival moment ≡ true)
expires m i r moment format text item None text_is format_is item_is has = absurd cc
expires m i r moment format text item (Some t) text_is format_is item_is has =
    let same : i ≡ t.item = eqb-true i t.item (and_parts (eqb i t.item) (names t.recipients r) has).0 in
    let is : numbered m.items t.item ≡ Some item = subst (λ (j : ℕ). numbered m.items j
    ≡ Some item) same item_is in
    rw text_is (rw is (rw format_is (λ e. e, λ e. e)))

-- the activity has not expired
pub not_expired : (s : State) (i r moment format : ℕ) (text : List ℕ) (item : ItemValue)
    → activities_of s.lanes.open_lanes i r ≢ 0
    → numbered s.machine.tables (last_tables s.machine) ≡ Some text → format ≡ s.machine.format
    → numbered s.machine.items i ≡ Some item
    → is_expired format text item.octets item.arrival moment ≡ false → IsDueOf s i r moment None
not_expired s i r moment format text item busy text_is format_is item_is never due (inl d) =
    busy_not_free s i r moment due busy d
not_expired s i r moment format text item busy text_is format_is item_is never due (inr d) =
    let does = (expires s.machine i r moment format text item d.lane.transfer text_is format_is item_is d.has).0
    d.expired in absurd cc

-- the activity has expired, and is given up
pub abandoned : (s : State) (i r moment format : ℕ) (text : List ℕ) (item : ItemValue) (lane : Lane) → IsKept s
    → numbered s.machine.tables (last_tables s.machine) ≡ Some text → format ≡ s.machine.format
    → numbered s.machine.items i ≡ Some item
    → Some lane ≡ find (is_sending_for i r) s.lanes.open_lanes
    → is_expired format text item.octets item.arrival moment ≡ true
    → IsDueOf s i r moment (Some (step.Abandon lane.number (last_of lane.sending) moment))
abandoned s i r moment format text item lane kept text_is format_is item_is found does =
    let there = found_there i r 0 s.lanes.count s.lanes.open_lanes lane kept.numbered_lanes (sym found) in
    let both =
    and_parts (is_sending lane.sending (last_of lane.sending)) (is_for i r lane.transfer) there.sends in
    inr (record {
      number = lane.number;
      lane = lane;
      lane_is = there.at;
      sending = both.0;
      has = both.1;
      expired = (expires s.machine i r moment format text item lane.transfer text_is format_is item_is both.1).1 does;
      step_is = refl;
    })

pub ruleset in_activity_laws = (none_sending, not_expired, abandoned)
