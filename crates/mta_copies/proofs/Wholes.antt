-- The copies of messages, probes and reports as octets.
use Rattle.std.proofs.Common.{◌≡◌, ℕ, List, length, refl}
use Rattle.mta_envelope.specs.declared.envelope.EnvelopeFields.{EnvelopeFields}
use Rattle.mta_envelope.specs.Messages.{MessageValue, canonical_probe}
use Rattle.mta_report.specs.declared.fields.ReportFields.{ReportFields}
use Rattle.mta_report.specs.Reports.{canonical_report}
use Rattle.mta_procedures.specs.Copies.{outgoing_envelope, outgoing_fields, outgoing_probe, outgoing_report}
use Rattle.mta_procedures.specs.Heads.{message_head, outgoing_head}
use Rattle.mta_procedures.specs.Situations.{Situation}

pub head_is : (s : Situation) (m : MessageValue) (chosen : List ℕ)
    → message_head (outgoing_envelope s m.envelope chosen) (length m.content.octets) ≡ outgoing_head s m chosen
unfolding outgoing_head
head_is s m chosen = refl

pub probe_is : (s : Situation) (e : EnvelopeFields) (chosen : List ℕ)
    → canonical_probe (outgoing_envelope s e chosen) ≡ outgoing_probe s e chosen
unfolding outgoing_probe
probe_is s e chosen = refl

pub report_is : (s : Situation) (p : ReportFields) → canonical_report (outgoing_fields s p) ≡ outgoing_report s p
unfolding outgoing_report
report_is s p = refl
