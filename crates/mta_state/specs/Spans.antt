-- The span in which recipients of an item may be relayed.
use Rattle.std.specs.Prelude.{◌≡◌, ◌&&◌, ℕ, Bool, true, List, nat_le, nat_lt}
use Rattle.mta_machine.specs.Items.{ItemValue, numbered, has_status, is_pending}
use Rattle.mta_idle_laws.specs.Spans.{IsRelayedAt}
use Rattle.mta_state.specs.declared.rest.Span.{Span}

abbrev pub bounds_of : Span → ℕ × ℕ
bounds_of s = (s.from, s.until)

-- the moment lies in the span
abbrev pub has : Span → ℕ → Bool
has s moment = nat_le s.from moment && nat_lt moment s.until

-- whoever of the item is pending is relayed within the span alone
abbrev pub IsSpanFor : (format : ℕ) → List ℕ → ItemValue → Span → Type 0
IsSpanFor format text item span =
    (r moment : ℕ) (peer : List ℕ) → has_status is_pending (numbered item.statuses r) ≡ true
    → IsRelayedAt format text item.octets item.arrival r moment peer → has span moment ≡ true
