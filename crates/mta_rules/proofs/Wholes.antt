-- The copies of a message, a probe and a report, as elements.
use Rattle.std.proofs.Common.{◌≡◌, ℕ, List, ◌++◌, refl}
use Rattle.mta_ber.specs.Canon.{element, constructed, primitive}
use Rattle.mta_envelope.specs.declared.envelope.EnvelopeFields.{EnvelopeFields}
use Rattle.mta_envelope.specs.Envelopes.{envelope_content}
use Rattle.mta_envelope.specs.Messages.{MessageValue, canonical_message, canonical_probe}
use Rattle.mta_report.specs.declared.fields.ReportFields.{ReportFields}
use Rattle.mta_report.specs.ReportContents.{canonical_content}
use Rattle.mta_report.specs.ReportEnvelopes.{canonical_envelope}
use Rattle.mta_report.specs.Reports.{canonical_report}
use Rattle.mta_procedures.specs.Copies.{outgoing_envelope, outgoing_fields, outgoing_message, outgoing_probe}
use Rattle.mta_procedures.specs.Copies.{outgoing_report}
use Rattle.mta_procedures.specs.Situations.{Situation}

pub message_is : (s : Situation) (m : MessageValue) (chosen : List ℕ)
    → outgoing_message s m chosen ≡ element (constructed 2 0)
    (element (constructed 0 17) (envelope_content (outgoing_envelope s m.envelope chosen))
    ++ element (primitive 0 4) m.content.octets)
unfolding outgoing_message canonical_message
message_is s m chosen = refl

pub probe_is : (s : Situation) (e : EnvelopeFields) (chosen : List ℕ)
    → outgoing_probe s e chosen
    ≡ element (constructed 2 2) (envelope_content (outgoing_envelope s e chosen))
unfolding outgoing_probe canonical_probe
probe_is s e chosen = refl

-- the trace stands in the envelope alone
pub report_is : (s : Situation) (p : ReportFields)
    → outgoing_report s p
    ≡ element (constructed 2 1) (canonical_envelope (outgoing_fields s p) ++ canonical_content p)
unfolding outgoing_report canonical_report canonical_content
report_is s p = refl
