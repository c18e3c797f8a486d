-- When recipients of an APDU may be relayed, and where to (X.411, clause 14: deferral, latest delivery, maximum time,
-- routing).
use Rattle.std.specs.Prelude.{◌≡◌, ℕ, ◌≤◌, ◌<◌, List, Option, Some, None, unwrap_or}
use Rattle.mta_apdu.specs.Apdus.{ApduValue}
use Rattle.mta_tables.specs.Tables.{TablesValue}
use Rattle.mta_procedures.specs.declared.terms.Terms.{Terms}
use Rattle.mta_procedures.specs.Situations.{Situation, situation, expiry}
use Rattle.mta_machine.specs.Apdu.{value_of}
use Rattle.mta_machine.specs.Machine.{relay_by}
use Rattle.mta_machine.specs.Rules.{route_word, tables_value, terms_in, verdict_of}

-- from the end of the deferral on, and until the expiry, which does not depend on the moment of the situation
abbrev pub span_in : Situation → Terms → ℕ × ℕ
span_in s t = (unwrap_or t.deferral 0, expiry s t)

abbrev pub span_under : (format : ℕ) → Option TablesValue → Option ApduValue → (arrival : ℕ)
    → Option (ℕ × ℕ)
span_under format None v arrival = None
span_under format (Some t) None arrival = None
span_under format (Some t) (Some v) arrival = Some (span_in (situation t arrival arrival) (terms_in format v))

-- From which moment on, and until which one, a recipient of an APDU may be relayed in a format; none where text or
-- octets are not read. No step changes it.
unfoldable pub relay_span : (format : ℕ) (text octets : List ℕ) (arrival : ℕ) → Option (ℕ × ℕ)
relay_span format text octets arrival = span_under format (tables_value text) (value_of octets) arrival

-- the moment lies in the span
abbrev pub IsWithin : ℕ → Option (ℕ × ℕ) → Type 0
IsWithin moment None = ⊥
IsWithin moment (Some span) = (span.0 ≤ moment) × (moment < span.1)

-- the verdict in a format on a recipient relays to the peer at a moment
abbrev pub IsRelayedAt : (format : ℕ) (text octets : List ℕ) (arrival r moment : ℕ) (peer : List ℕ) → Type 0
IsRelayedAt format text octets arrival r moment peer =
    relay_by text (verdict_of format text octets arrival r moment) ≡ Some peer

-- nobody is relayed before the deferral has ended, nor once the APDU has expired
abbrev pub RelaysWithin : Type 0
RelaysWithin =
    (format : ℕ) (text octets : List ℕ) (arrival r moment : ℕ) (peer : List ℕ)
    → IsRelayedAt format text octets arrival r moment peer → IsWithin moment (relay_span format text octets arrival)

-- who is relayed goes to the peer to which the best route of his name leads
abbrev pub RelaysAreRouted : Type 0
RelaysAreRouted =
    (format : ℕ) (text octets : List ℕ) (arrival r moment : ℕ) (peer : List ℕ)
    → IsRelayedAt format text octets arrival r moment peer → route_word text octets r ≡ Some peer
