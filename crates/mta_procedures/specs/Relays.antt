-- Laws of what is relayed: the item has a copy for the peer, which is short enough to be taken.
use Rattle.std.specs.Prelude.{◌≡◌, ℕ, ◌<◌, ◌≤◌, Bool, List, length}
use Rattle.mta_fields.specs.declared.trace.TraceFields.{TraceFields}
use Rattle.mta_envelope_recipient.specs.declared.recipient.RecipientFields.{RecipientFields}
use Rattle.mta_envelope.specs.declared.envelope.EnvelopeFields.{EnvelopeFields}
use Rattle.mta_envelope.specs.Messages.{MessageValue}
use Rattle.mta_report.specs.declared.fields.ReportFields.{ReportFields}
use Rattle.mta_tables.specs.declared.hop.Hop.{Hop}
use Rattle.mta_tables.specs.declared.hop.Hop.TheVariants as Hops
use Rattle.mta_tables.specs.Hops.{best_hop}
use Rattle.mta_procedures.specs.declared.verdict.Verdict.TheVariants.{Relay}
use Rattle.mta_procedures.specs.Copies.{outgoing_message, outgoing_probe, outgoing_report, longest_copy}
use Rattle.mta_procedures.specs.Situations.{Situation}
use Rattle.mta_procedures.specs.Traces.{longest_trace}
use Rattle.mta_procedures.specs.Verdicts.{verdict_of_message, verdict_of_probe, verdict_of_report}

-- a recipient goes to the peer at a place; the trace has room for an element, and these octets can be sent
pub record IsRelayed (place : ℕ) (hop : Hop) (trace : List TraceFields) (octets : List ℕ) : Type 0 where
  pub leads : hop ≡ Hops.Peer place
  pub short_trace : length trace < longest_trace
  pub some : 1 ≤ length octets
  pub few : length octets ≤ longest_copy

-- each copy of the item can be sent, for whichever recipients and at whichever moment under the same tables
abbrev pub RelayedMessagesHaveCopies : Type 0
RelayedMessagesHaveCopies =
    (format : ℕ) (s t : Situation) (m : MessageValue) (r : RecipientFields) (members place : ℕ) (chosen : List ℕ)
    → s.tables ≡ t.tables → s.arrival ≡ t.arrival → verdict_of_message format s m r members ≡ Relay place
    → IsRelayed place (best_hop s.tables r.name) m.envelope.trace (outgoing_message t m chosen)

abbrev pub RelayedProbesHaveCopies : Type 0
RelayedProbesHaveCopies =
    (format : ℕ) (s t : Situation) (e : EnvelopeFields) (r : RecipientFields) (place : ℕ) (chosen : List ℕ)
    → s.tables ≡ t.tables → s.arrival ≡ t.arrival → verdict_of_probe format s e r ≡ Relay place
    → IsRelayed place (best_hop s.tables r.name) e.trace (outgoing_probe t e chosen)

abbrev pub RelayedReportsHaveCopies : Type 0
RelayedReportsHaveCopies =
    (s t : Situation) (p : ReportFields) (back : Bool) (place : ℕ)
    → s.tables ≡ t.tables → s.arrival ≡ t.arrival → verdict_of_report s p back ≡ Relay place
    → IsRelayed place (best_hop s.tables p.destination) p.trace (outgoing_report t p)

-- the copy of a report is the same at each moment
abbrev pub ReportCopiesAreTheSame : Type 0
ReportCopiesAreTheSame =
    (s t : Situation) (p : ReportFields) → s.tables ≡ t.tables → s.arrival ≡ t.arrival
    → outgoing_report s p ≡ outgoing_report t p
