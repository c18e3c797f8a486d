-- Until when an item is idle, once its APDU is read.
use Rattle.std.proofs.Common.{◌≡◌, ℕ, zero, suc, ◌+◌, ◌≤◌, ◌<◌, false, List, length, Option, Some, None}
use Rattle.std.proofs.Common.{refl, sym, ap, subst, ◌∙◌, inl, inr, arith}
use Rattle.std.proofs.lemmas.Bool.{cases_lt}
use Rattle.std.proofs.lemmas.Option.{slice_get_past}
use Rattle.mta_apdu.specs.Apdus.{ApduValue}
use Rattle.mta_tables.specs.Tables.{TablesValue}
use Rattle.mta_records.specs.declared.state.Status.{Status}
use Rattle.mta_machine.specs.Apdu.{value_of}
use Rattle.mta_machine.specs.Items.{AreSettled, ItemValue, numbered, has_status, is_pending}
use Rattle.mta_machine.specs.Rules.{tables_value}
use Rattle.mta_idle_laws.specs.Idle.{calls_at_once, IsIdleUntil}
use Rattle.mta_idle_laws.specs.Next.{next_change, next_under}
use Rattle.mta_table_rules.specs.Waits.{WaitsUnder, AllWaitUnder, WaitUpTo, IsIdleUnder}
use Rattle.mta_table_rules.proofs.Read.{verdict_is}

-- ---- recipients in turn

past : (ss : List (Option Status)) (r : ℕ) → length ss < r → has_status is_pending (numbered ss r) ≡ false
past ss zero above = refl
past ss (suc k) above = ap (has_status is_pending) (slice_get_past ss k (omega (arith, above)))

pub wait_settled : (format : ℕ) (t : TablesValue) (v : ApduValue) (item : ItemValue) (n moment : ℕ)
    → AreSettled item.statuses n → WaitUpTo format t v item n moment
wait_settled format t v item n moment settled r low pending = let never = settled.none r low in absurd cc

pub wait_further : (format : ℕ) (t : TablesValue) (v : ApduValue) (item : ItemValue) (n moment : ℕ)
    → WaitUpTo format t v item n moment
    → WaitsUnder format t v item (n + 1) moment → WaitUpTo format t v item (n + 1) moment
wait_further format t v item n moment before here r low = elim (cases_lt n r) [
  | inl above ↦ (let is : n + 1 ≡ r = omega (arith, low, above) in
      subst (λ (q : ℕ). WaitsUnder format t v item q moment) is here)
  | inr below ↦ before r below
]

pub all_up_to : (format : ℕ) (t : TablesValue) (v : ApduValue) (item : ItemValue) (most moment : ℕ)
    → length item.statuses ≤ most → WaitUpTo format t v item most moment → AllWaitUnder format t v item moment
all_up_to format t v item most moment few all r pending = elim (cases_lt most r) [
  | inl above ↦ (let never = past item.statuses r (omega (arith, few, above)) in absurd cc)
  | inr below ↦ all r below pending
]

-- ---- what is read

pub next_is : (format : ℕ) (t : TablesValue) (octets : List ℕ) (v : Option ApduValue) (arrival moment : ℕ)
    → tables_value t.text ≡ Some t → value_of octets ≡ v
    → next_change format t.text octets arrival moment ≡ next_under format (Some t) v arrival moment
unfolding next_change
next_is format t octets v arrival moment e h =
    ap (λ (o : Option TablesValue). next_under format o (value_of octets) arrival moment) e
    ∙ ap (λ (o : Option ApduValue). next_under format (Some t) o arrival moment) h

pub idle_is : (format : ℕ) (t : TablesValue) (item : ItemValue) (v : ApduValue) (moment : ℕ) (until : Option ℕ)
    → tables_value t.text ≡ Some t → value_of item.octets ≡ Some v → IsIdleUnder format t v item moment until
    → IsIdleUntil format t.text item moment until
idle_is format t item v moment None e h is = λ all.
    next_is format t item.octets (Some v) item.arrival moment e h
    ∙ is (λ r pending. ap calls_at_once (sym (verdict_is format t item.octets v item.arrival r moment e h))
    ∙ all r pending)
idle_is format t item v moment (Some until) e h is = (
  λ r pending. ap calls_at_once (verdict_is format t item.octets v item.arrival r moment e h) ∙ is.0 r pending,
  next_is format t item.octets (Some v) item.arrival moment e h ∙ is.1,
)
