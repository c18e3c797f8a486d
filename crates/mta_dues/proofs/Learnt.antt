-- When items may be relayed, as it is found out of them.
use Rattle.std.proofs.Common.{◌≡◌, ℕ, true, List, Some, None, sym, ap, subst, ◌∙◌}
use Rattle.std.specs.Prelude.{◌&&◌, nat_lt}
use Rattle.std.proofs.lemmas.Bool.{le-leb, lt-ltb}
use Rattle.mta_machine.specs.Items.{ItemValue}
use Rattle.mta_idle_laws.specs.Spans.{IsWithin, relay_span}
use Rattle.mta_idle_laws.proofs.Spans.{relays_within}
use Rattle.mta_state.specs.declared.rest.Span.{Span}
use Rattle.mta_state.specs.Spans.{bounds_of, has, IsSpanFor}
use Rattle.mta_dues.specs.Index.{HasPending}

-- nobody is relayed of an item of which nobody is pending
pub nobody_is : (format : ℕ) (text : List ℕ) (item : ItemValue) (span : Span) → (HasPending item → ⊥)
    → IsSpanFor format text item span
nobody_is format text item span none r moment peer pending relayed = absurd (none (r, pending))

within_has : (moment : ℕ) (span : Span) → IsWithin moment (Some (bounds_of span)) → has span moment ≡ true
within_has moment span within =
    ap (λ b. b && nat_lt moment span.until) (le-leb span.from moment within.0)
    ∙ lt-ltb moment span.until within.1

-- the span that is told is that of the item
pub span_told : (format : ℕ) (text : List ℕ) (item : ItemValue) (span : Span)
    → Some (bounds_of span) ≡ relay_span format text item.octets item.arrival → IsSpanFor format text item span
span_told format text item span is r moment peer pending relayed =
    within_has moment span
    (subst (λ o. IsWithin moment o) (sym is)
    (relays_within format text item.octets item.arrival r moment peer relayed))

-- nobody is relayed whose octets are those of no APDU
pub none_told : (format : ℕ) (text : List ℕ) (item : ItemValue) (span : Span)
    → None ≡ relay_span format text item.octets item.arrival → IsSpanFor format text item span
none_told format text item span is r moment peer pending relayed =
    absurd
    (subst (λ o. IsWithin moment o) (sym is)
    (relays_within format text item.octets item.arrival r moment peer relayed))

-- the span that was found of an item that rests
pub span_found : (format : ℕ) (text : List ℕ) (item : ItemValue) (span : Span)
    → relay_span format text item.octets item.arrival ≡ Some (bounds_of span) → IsSpanFor format text item span
span_found format text item span is = span_told format text item span (sym is)

pub ruleset told_laws = (span_told, none_told)
