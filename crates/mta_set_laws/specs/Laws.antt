-- The components of a SET stand in any order (X.690, 8.11): where octets spell a value, the octets of its components,
-- each spelled as it is there, spell the same value in every other order. One law for each SET.
use Rattle.std.specs.Prelude.{ℕ, Bool, List}
use Rattle.std.specs.List.{concat}
use Rattle.mta_ber.specs.declared.tag.Tag.{Tag}
use Rattle.mta_names.specs.declared.attributes.PersonFields.{PersonFields}
use Rattle.mta_fields.specs.declared.supplied.Supplied.{Supplied}
use Rattle.mta_report_recipient.specs.declared.outcome.Outcome.{Outcome}
use Rattle.mta_report_recipient.specs.declared.last.LastTrace.{LastTrace}
use Rattle.mta_report_recipient.specs.declared.reported.ReportedFields.{ReportedFields}
use Rattle.mta_report.specs.declared.envelope.EnvelopeFields.{EnvelopeFields as ReportEnvelopeFields}
use Rattle.mta_report.specs.declared.content.ContentFields.{ContentFields}
use Rattle.mta_envelope_recipient.specs.declared.recipient.RecipientFields.{RecipientFields}
use Rattle.mta_envelope.specs.declared.envelope.EnvelopeFields.{EnvelopeFields}
use Rattle.mta_names.specs.Persons.{SpellsPerson}
use Rattle.mta_fields.specs.Traces.{SpellsSupplied}
use Rattle.mta_report_recipient.specs.Deliveries.{SpellsDelivery}
use Rattle.mta_report_recipient.specs.Failures.{SpellsFailure}
use Rattle.mta_report_recipient.specs.LastTraces.{SpellsLast}
use Rattle.mta_report_recipient.specs.ReportedRecipients.{SpellsReported}
use Rattle.mta_report.specs.ReportEnvelopes.{SpellsEnvelope as SpellsReportEnvelope}
use Rattle.mta_report.specs.ReportContents.{SpellsContent}
use Rattle.mta_envelope_recipient.specs.Recipients.{SpellsRecipient}
use Rattle.mta_envelope.specs.Envelopes.{SpellsEnvelope}
use Rattle.mta_set_laws.specs.Orders.{IsOrderOf}

-- a personal name
abbrev pub PersonalNamesInAnyOrder : Type 0
PersonalNamesInAnyOrder =
    (depth : ℕ) (c : Bool) (content : List ℕ) (v : PersonFields) → (h : SpellsPerson depth c content v)
    → (ys : List (List ℕ))
    → IsOrderOf h.spelled.components ys → SpellsPerson depth c (concat ys) v

-- what a domain tells of itself in an element of a trace
abbrev pub SuppliedInformationInAnyOrder : Type 0
SuppliedInformationInAnyOrder =
    (depth : ℕ) (c : Bool) (content : List ℕ) (v : Supplied) → (h : SpellsSupplied depth c content v)
    → (ys : List (List ℕ))
    → IsOrderOf h.spelled.components ys → SpellsSupplied depth c (concat ys) v

-- a delivery
abbrev pub DeliveriesInAnyOrder : Type 0
DeliveriesInAnyOrder =
    (depth : ℕ) (c : Bool) (content : List ℕ) (v : Outcome) → (h : SpellsDelivery depth c content v)
    → (ys : List (List ℕ))
    → IsOrderOf h.spelled.components ys → SpellsDelivery depth c (concat ys) v

-- a non-delivery
abbrev pub NonDeliveriesInAnyOrder : Type 0
NonDeliveriesInAnyOrder =
    (depth : ℕ) (c : Bool) (content : List ℕ) (v : Outcome) → (h : SpellsFailure depth c content v)
    → (ys : List (List ℕ))
    → IsOrderOf h.spelled.components ys → SpellsFailure depth c (concat ys) v

-- a last trace
abbrev pub LastTracesInAnyOrder : Type 0
LastTracesInAnyOrder =
    (depth : ℕ) (c : Bool) (content : List ℕ) (v : LastTrace) → (h : SpellsLast depth c content v)
    → (ys : List (List ℕ))
    → IsOrderOf h.spelled.components ys → SpellsLast depth c (concat ys) v

-- a recipient of whom is reported
abbrev pub ReportedRecipientsInAnyOrder : Type 0
ReportedRecipientsInAnyOrder =
    (depth : ℕ) (tag : Tag) (content : List ℕ) (v : ReportedFields) → (h : SpellsReported depth tag content v)
    → (ys : List (List ℕ))
    → IsOrderOf h.spelled.components ys → SpellsReported depth tag (concat ys) v

-- the envelope of a report
abbrev pub ReportEnvelopesInAnyOrder : Type 0
ReportEnvelopesInAnyOrder =
    (depth : ℕ) (c : Bool) (content : List ℕ) (v : ReportEnvelopeFields)
    → (h : SpellsReportEnvelope depth c content v) → (ys : List (List ℕ))
    → IsOrderOf h.spelled.components ys → SpellsReportEnvelope depth c (concat ys) v

-- the content of a report
abbrev pub ReportContentsInAnyOrder : Type 0
ReportContentsInAnyOrder =
    (depth : ℕ) (c : Bool) (content : List ℕ) (v : ContentFields) → (h : SpellsContent depth c content v)
    → (ys : List (List ℕ))
    → IsOrderOf h.spelled.components ys → SpellsContent depth c (concat ys) v

-- a recipient
abbrev pub RecipientsInAnyOrder : Type 0
RecipientsInAnyOrder =
    (depth : ℕ) (tag : Tag) (content : List ℕ) (v : RecipientFields) → (h : SpellsRecipient depth tag content v)
    → (ys : List (List ℕ))
    → IsOrderOf h.spelled.components ys → SpellsRecipient depth tag (concat ys) v

-- the envelope of a message or of a probe
abbrev pub EnvelopesInAnyOrder : Type 0
EnvelopesInAnyOrder =
    (probe : Bool) (depth : ℕ) (c : Bool) (content : List ℕ) (v : EnvelopeFields)
    → (h : SpellsEnvelope probe depth c content v) → (ys : List (List ℕ))
    → IsOrderOf h.spelled.components ys → SpellsEnvelope probe depth c (concat ys) v
