-- Of which first recipients of an item it is known that they wait.
use Rattle.std.proofs.Common.{inl, inr, ◌≡◌, ◌≤◌, ◌<◌, ◌+◌, ◌&&◌, ℕ, zero, suc, eqb, Bool, true, false, cond}
use Rattle.std.proofs.Common.{List, length, Some, refl, sym, ap, subst, ◌∙◌, arith}
use Rattle.std.specs.Prelude.{max, nat_le, nat_lt}
use Rattle.std.proofs.lemmas.Bool.{and_parts, cases_lt, eqb-true, leb-true, ltb-true}
use Rattle.std.proofs.lemmas.Option.{same_Some}
use Rattle.mta_machine.specs.Items.{AreSettled, ItemValue, numbered, has_status, is_pending, is_pending_at}
use Rattle.mta_machine.specs.Rules.{is_expired, verdict_of}
use Rattle.mta_machine.specs.Machine.{last_tables}
use Rattle.mta_histories.specs.Lanes.{State}
use Rattle.mta_histories.specs.Kept.{IsKept}
use Rattle.mta_histories.specs.Due.{IsDue}
use Rattle.mta_idle_laws.specs.Idle.{calls_at_once, IsAtRest, IsIdle, IsIdleUntil}
use Rattle.mta_idle_laws.specs.Next.{next_change}
use Rattle.mta_idle_laws.proofs.Stays.{verdicts_stay}
use Rattle.mta_dues.specs.Answers.{NoneDueUpTo}
use Rattle.mta_dues.specs.declared.looked.Looked.{Looked}
use Rattle.mta_dues.specs.Looked.{AreIdleUpTo, is_calling, IsLookedIn, looked_up_to}
use Rattle.mta_dues.proofs.Idle.{at_rest, pending_of}
use Rattle.mta_dues.proofs.Pending.{past}
use Rattle.mta_dues.proofs.Recipients.{not_pending}

-- ---- recipients in turn

module _ (format : ℕ) (text : List ℕ) (item : ItemValue) where
  -- no recipient is numbered 0
  pub idle_at_0 : (moment : ℕ) → AreIdleUpTo format text item 0 moment
  idle_at_0 moment zero low pending = absurd cc
  idle_at_0 moment (suc r) low pending = absurd (omega (arith, low))

  pub idle_settled : (n moment : ℕ) → AreSettled item.statuses n → AreIdleUpTo format text item n moment
  idle_settled n moment settled r low pending = let never = settled.none r low in absurd cc

  -- two that are known
  pub idle_max : (a b moment : ℕ) → AreIdleUpTo format text item a moment → AreIdleUpTo format text item b moment
      → AreIdleUpTo format text item (max a b) moment
  idle_max a b moment one two r low = elim (cases_lt a r) [
    | inl above ↦ two r (omega (arith, low, above))
    | inr below ↦ one r below
  ]

  -- nothing is called for at once of one more
  pub idle_further : (n moment : ℕ) (called : Bool)
      → is_expired format text item.octets item.arrival moment ≡ false → AreIdleUpTo format text item n moment
      → called ≡ is_calling format text item (n + 1) moment → called ≡ false
      → AreIdleUpTo format text item (n + 1) moment
  idle_further n moment called unexpired before is isnt r low = elim (cases_lt n r) [
    | inl above ↦ (let same : n + 1 ≡ r = omega (arith, low, above) in
        subst
        (λ (q : ℕ). has_status is_pending (numbered item.statuses q) ≡ true → IsAtRest format text item q moment) same
        (λ pending. record { waits = waits pending; unexpired = unexpired }))
    | inr below ↦ before r below
  ] where
    waits : has_status is_pending (numbered item.statuses (n + 1)) ≡ true
        → calls_at_once (verdict_of format text item.octets item.arrival (n + 1) moment) ≡ false
    waits pending =
        let calls : (true && calls_at_once (verdict_of format text item.octets item.arrival (n + 1) moment)) ≡ false =
        subst
        (λ (b : Bool). (b && calls_at_once (verdict_of format text item.octets item.arrival (n + 1) moment)) ≡ false)
        pending (sym is ∙ isnt) in
        calls

  -- all wait
  pub all_idle : (most moment : ℕ) → length item.statuses ≤ most → AreIdleUpTo format text item most moment
      → IsIdle format text item moment
  all_idle most moment few idle r pending = elim (cases_lt most r) [
    | inl above ↦ (let never = past item.statuses r (omega (arith, few, above)) in absurd cc)
    | inr below ↦ idle r below pending
  ]

  pub idle_until : (moment until : ℕ) → IsIdle format text item moment
      → next_change format text item.octets item.arrival moment ≡ Some until
      → IsIdleUntil format text item moment (Some until)
  idle_until moment until idle next = (λ r pending. (idle r pending).waits, next)

  -- who waits does so until the next change
  pub idle_on : (most moment until : ℕ) → next_change format text item.octets item.arrival moment ≡ Some until
      → AreIdleUpTo format text item most moment
      → (n : ℕ) → moment ≤ n → n < until → AreIdleUpTo format text item most n
  idle_on most moment until next idle n from below r low pending =
      let stay = verdicts_stay format text item.octets item.arrival moment until next in
      let same = stay.same n from below in
      let before = idle r low pending in
      record {
        waits = ap calls_at_once (same.verdicts r) ∙ before.waits;
        unexpired = same.expired ∙ before.unexpired;
      }

  -- before it the item has not expired
  pub unexpired_before : (moment until : ℕ) → next_change format text item.octets item.arrival moment ≡ Some until
      → is_expired format text item.octets item.arrival moment ≡ false
  unexpired_before moment until next =
      (verdicts_stay format text item.octets item.arrival moment until next).unexpired

-- ---- what was kept

-- what is kept of an item, once it is asked for
pub looked_so : (format : ℕ) (text : List ℕ) (items : List ItemValue) (looked : Looked) (number moment : ℕ)
    (item : ItemValue) → IsLookedIn format text items looked → numbered items number ≡ Some item
    → AreIdleUpTo format text item (looked_up_to looked number moment) moment
looked_so format text items looked number moment item is item_is =
    by_test ((eqb looked.number number && nat_le looked.from moment) && nat_lt moment looked.until) refl
  where
    by_test : (b : Bool)
        → ((eqb looked.number number && nat_le looked.from moment) && nat_lt moment looked.until) ≡ b
        → AreIdleUpTo format text item (cond b looked.most 0) moment
    by_test true holds =
        let parts =
        and_parts (eqb looked.number number && nat_le looked.from moment) (nat_lt moment looked.until) holds in
        let first = and_parts (eqb looked.number number) (nat_le looked.from moment) parts.0 in
        let same : looked.number ≡ number = eqb-true looked.number number first.0 in
        let one : is.item ≡ item =
        same_Some is.item item (sym is.item_is ∙ ap (λ (n : ℕ). numbered items n) same ∙ item_is) in
        subst (λ (x : ItemValue). AreIdleUpTo format text x looked.most moment) one
        (is.idle moment (leb-true looked.from moment first.1) (ltb-true moment looked.until parts.1))
    by_test false holds = idle_at_0 format text item moment

-- ---- what is due

-- of who waits nothing is due
pub none_due : (s : State) (i most moment format : ℕ) (text : List ℕ) (item : ItemValue) → IsKept s
    → numbered s.machine.tables (last_tables s.machine) ≡ Some text → format ≡ s.machine.format
    → numbered s.machine.items i ≡ Some item → AreIdleUpTo format text item most moment → NoneDueUpTo s i most moment
none_due s i most moment format text item kept text_is format_is item_is idle r due low =
    by_test (is_pending_at s.machine i r) refl
  where
    by_test : (b : Bool) → is_pending_at s.machine i r ≡ b → IsDue s i r moment due → ⊥
    by_test true pending =
        at_rest s i r moment format text item text_is format_is item_is
        (idle r low (pending_of s.machine i r item item_is pending)) due
    by_test false never = not_pending s i r moment kept never due

pub ruleset waiting_laws = (idle_further)

pub ruleset known_laws = (idle_settled, idle_max)
