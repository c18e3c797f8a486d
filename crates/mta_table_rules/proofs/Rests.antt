-- What is found of an item that rests, recipient by recipient, once its APDU is read.
use Rattle.std.proofs.Common.{◌≡◌, ℕ, ◌≤◌, Bool, true, false, ◌&&◌, subst, List, length, Option, Some, None, sym, ap, ◌∙◌}
use Rattle.std.proofs.lemmas.Bool.{and_parts, true≢false}
use Rattle.mta_apdu.specs.Apdus.{ApduValue}
use Rattle.mta_tables.specs.Tables.{TablesValue}
use Rattle.mta_machine.specs.Apdu.{value_of}
use Rattle.mta_machine.specs.Items.{ItemValue, has_status, is_pending, numbered}
use Rattle.mta_machine.specs.Rules.{tables_value, verdict_under}
use Rattle.mta_idle_laws.specs.Idle.{calls_at_once}
use Rattle.mta_idle_laws.specs.Next.{next_under}
use Rattle.mta_idle_laws.specs.Spans.{relay_span, span_under}
use Rattle.mta_state.specs.Asked.{IsRestOf}
use Rattle.mta_state.specs.Spans.{bounds_of}
use Rattle.mta_state.specs.declared.rest.Rest.{Rest}
use Rattle.mta_table_rules.specs.Rests.{IsRestUnder, is_calling}
use Rattle.mta_table_rules.specs.Waits.{WaitUpTo, WaitsUnder}
use Rattle.mta_table_rules.proofs.IdleItems.{all_up_to, idle_is, wait_settled, wait_further}

-- ---- recipients in turn

module _ (format : ℕ) (t : TablesValue) (v : ApduValue) (item : ItemValue) (moment : ℕ) where
  -- nothing is called for at once of a recipient
  pub waits_so : (r : ℕ) (called : Bool) → called ≡ is_calling format t v item r moment → called ≡ false
      → WaitsUnder format t v item r moment
  waits_so r called is isnt pending =
      let calls : (true && calls_at_once (verdict_under format t v item.arrival r moment)) ≡ false =
      subst (λ (b : Bool). (b && calls_at_once (verdict_under format t v item.arrival r moment)) ≡ false) pending
      (sym is ∙ isnt) in
      calls

  -- something is
  pub not_idle : (r : ℕ) (called : Bool) → called ≡ is_calling format t v item r moment → called ≡ true
      → IsRestUnder format t v item moment None
  not_idle r called is does = λ all.
      let parts = and_parts (has_status is_pending (numbered item.statuses r))
      (calls_at_once (verdict_under format t v item.arrival r moment)) (sym is ∙ does) in
      let never = all r parts.0 in
      absurd (true≢false (sym parts.1 ∙ never))

  pub all_wait : (most : ℕ) (rest : Rest) → length item.statuses ≤ most → WaitUpTo format t v item most moment
      → next_under format (Some t) (Some v) item.arrival moment ≡ Some rest.until
      → Some (bounds_of rest.span) ≡ span_under format (Some t) (Some v) item.arrival
      → IsRestUnder format t v item moment (Some rest)
  all_wait most rest few wait next span = record {
    idle = (all_up_to format t v item most moment few wait, next);
    span = span;
  }

-- ---- what is read

pub span_is : (format : ℕ) (t : TablesValue) (octets : List ℕ) (v : Option ApduValue) (arrival : ℕ)
    → tables_value t.text ≡ Some t → value_of octets ≡ v
    → relay_span format t.text octets arrival ≡ span_under format (Some t) v arrival
unfolding relay_span
span_is format t octets v arrival e h =
    ap (λ (o : Option TablesValue). span_under format o (value_of octets) arrival) e
    ∙ ap (λ (o : Option ApduValue). span_under format (Some t) o arrival) h

pub rest_is : (format : ℕ) (t : TablesValue) (item : ItemValue) (v : ApduValue) (moment : ℕ) (rest : Option Rest)
    → tables_value t.text ≡ Some t → value_of item.octets ≡ Some v → IsRestUnder format t v item moment rest
    → IsRestOf format t.text item moment rest
rest_is format t item v moment None e h is = idle_is format t item v moment None e h is
rest_is format t item v moment (Some rest) e h is = record {
  idle = idle_is format t item v moment (Some rest.until) e h is.idle;
  span = span_is format t item.octets (Some v) item.arrival e h ∙ sym is.span;
}

pub ruleset resting_laws = (wait_settled, wait_further, not_idle, all_wait)
