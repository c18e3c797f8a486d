-- Laws of what may be done with an item of each kind, and that reports and expansions come to an end.
use Rattle.std.specs.Prelude.{◌≡◌, ℕ, ◌<◌, ◌≤◌, Bool, true, false, length, Option, Some, None}
use Rattle.mta_envelope_recipient.specs.declared.recipient.RecipientFields.{RecipientFields}
use Rattle.mta_envelope.specs.declared.envelope.EnvelopeFields.{EnvelopeFields}
use Rattle.mta_envelope.specs.Messages.{MessageValue}
use Rattle.mta_report_recipient.specs.declared.outcome.Outcome.{Outcome}
use Rattle.mta_report.specs.declared.fields.ReportFields.{ReportFields}
use Rattle.mta_tables.specs.declared.hop.Hop.{Hop}
use Rattle.mta_tables.specs.declared.hop.Hop.TheVariants as Hops
use Rattle.mta_tables.specs.Hops.{best_hop}
use Rattle.mta_tables.specs.Tables.{TablesValue}
use Rattle.mta_procedures.specs.declared.verdict.Verdict.{Verdict}
use Rattle.mta_procedures.specs.declared.verdict.Verdict.TheVariants.{Deliver, Expand, Relay, Affirm, NonDeliver, Hold}
use Rattle.mta_procedures.specs.declared.verdict.Verdict.TheVariants.{Back, Discard}
use Rattle.mta_procedures.specs.Copies.{longest_copy}
use Rattle.mta_procedures.specs.Facts.{of_list}
use Rattle.mta_procedures.specs.Histories.{is_in_history, longest_history}
use Rattle.mta_procedures.specs.Reports.{report_of}
use Rattle.mta_procedures.specs.Situations.{Situation}
use Rattle.mta_procedures.specs.Traces.{longest_trace}
use Rattle.mta_procedures.specs.Verdicts.{verdict_of_message, verdict_of_probe, verdict_of_report}
use Rattle.mta_procedures.specs.Walks.{report_walk}

-- ---- kinds

-- a message is not affirmed, not discarded and not passed back
abbrev pub IsOfMessages : Verdict → Type 0
IsOfMessages Affirm = ⊥
IsOfMessages Back = ⊥
IsOfMessages Discard = ⊥
IsOfMessages _ = Unit {0}

-- a probe is not delivered, not expanded and not held
abbrev pub IsOfProbes : Verdict → Type 0
IsOfProbes Affirm = Unit {0}
IsOfProbes (Relay place) = Unit {0}
IsOfProbes (NonDeliver reason diagnostic) = Unit {0}
IsOfProbes _ = ⊥

-- nothing is reported of a report, and it is not expanded, not affirmed and not held
abbrev pub IsOfReports : Verdict → Type 0
IsOfReports (Deliver place) = Unit {0}
IsOfReports (Relay place) = Unit {0}
IsOfReports Back = Unit {0}
IsOfReports Discard = Unit {0}
IsOfReports _ = ⊥

abbrev pub MessagesHaveTheirVerdicts : Type 0
MessagesHaveTheirVerdicts =
    (format : ℕ) (s : Situation) (m : MessageValue) (r : RecipientFields) (members : ℕ)
    → IsOfMessages (verdict_of_message format s m r members)

abbrev pub ProbesHaveTheirVerdicts : Type 0
ProbesHaveTheirVerdicts =
    (format : ℕ) (s : Situation) (e : EnvelopeFields) (r : RecipientFields)
    → IsOfProbes (verdict_of_probe format s e r)

abbrev pub ReportsMakeNoReports : Type 0
ReportsMakeNoReports = (s : Situation) (p : ReportFields) (back : Bool) → IsOfReports (verdict_of_report s p back)

-- ---- where a verdict leads

abbrev pub DeliveredMessagesAreAtMailboxes : Type 0
DeliveredMessagesAreAtMailboxes =
    (format : ℕ) (s : Situation) (m : MessageValue) (r : RecipientFields) (members place : ℕ)
    → verdict_of_message format s m r members ≡ Deliver place → best_hop s.tables r.name ≡ Hops.Local place

abbrev pub DeliveredReportsAreAtMailboxes : Type 0
DeliveredReportsAreAtMailboxes =
    (s : Situation) (p : ReportFields) (back : Bool) (place : ℕ)
    → verdict_of_report s p back ≡ Deliver place → best_hop s.tables p.destination ≡ Hops.Local place

-- a report is passed back only where there is someone to whom it can go
abbrev pub PassedReportsHaveDestinations : Type 0
PassedReportsHaveDestinations =
    (s : Situation) (p : ReportFields) (back : Bool) → verdict_of_report s p back ≡ Back → back ≡ true

-- ---- expansions

-- a recipient is the list at a place, and the trace has room for an element; where the list was not expanded before,
-- the history has room for it, and the members' copy can be taken
pub record IsExpanded (s : Situation) (m : MessageValue) (hop : Hop) (members place : ℕ) : Type 0 where
  pub leads : hop ≡ Hops.List place
  pub short_trace : length m.envelope.trace < longest_trace
  pub short_history :
      of_list s.tables hop (λ l. is_in_history l m.envelope) ≡ false → length m.envelope.history < longest_history
  pub short_copy : of_list s.tables hop (λ l. is_in_history l m.envelope) ≡ false → members ≤ longest_copy

abbrev pub ExpandedMessagesHaveRoom : Type 0
ExpandedMessagesHaveRoom =
    (format : ℕ) (s : Situation) (m : MessageValue) (r : RecipientFields) (members place : ℕ)
    → verdict_of_message format s m r members ≡ Expand place
    → IsExpanded s m (best_hop s.tables r.name) members place

-- ---- reports that are made

-- a report is made exactly where the walk ends at a name, and goes there
abbrev pub MakesReportTo : Option ReportFields → TablesValue → EnvelopeFields → Type 0
MakesReportTo None t e = report_walk t e ≡ None
MakesReportTo (Some p) t e = report_walk t e ≡ Some p.destination

abbrev pub ReportsGoWhereTheWalkEnds : Type 0
ReportsGoWhereTheWalkEnds =
    (t : TablesValue) (number arrival : ℕ) (e : EnvelopeFields) (r : RecipientFields) (outcome : Outcome)
    → MakesReportTo (report_of t number arrival e r outcome) t e
