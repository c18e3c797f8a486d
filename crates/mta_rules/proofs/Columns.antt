-- A verdict is what the column of its kind gives for the first case.
use Rattle.std.proofs.Common.{◌≡◌, ℕ, Bool, [], length, ap, subst, ◌∙◌}
use Rattle.std.specs.Prelude.{unwrap_or}
use Rattle.mta_envelope_recipient.specs.declared.recipient.RecipientFields.{RecipientFields}
use Rattle.mta_envelope.specs.declared.envelope.EnvelopeFields.{EnvelopeFields}
use Rattle.mta_envelope.specs.Messages.{MessageValue}
use Rattle.mta_report.specs.declared.fields.ReportFields.{ReportFields}
use Rattle.mta_tables.specs.declared.hop.Hop.{Hop}
use Rattle.mta_tables.specs.Hops.{best_hop}
use Rattle.mta_procedures.specs.declared.case.Case.{Case}
use Rattle.mta_procedures.specs.declared.verdict.Verdict.{Verdict}
use Rattle.mta_procedures.specs.Copies.{outgoing_message, outgoing_probe, outgoing_report}
use Rattle.mta_procedures.specs.Facts.{Facts, envelope_facts, facts_of_message, facts_of_probe, facts_of_report}
use Rattle.mta_procedures.specs.Situations.{Situation}
use Rattle.mta_procedures.specs.Verdicts.{first_case, message_column, probe_column, report_column}
use Rattle.mta_procedures.specs.Verdicts.{verdict_of_message, verdict_of_probe, verdict_of_report}
use Rattle.mta_rules.specs.Cases.{IsCopyLength, IsOfReport}
use Rattle.mta_rules.proofs.Copies.{copy_counts, report_copy_counts}

pub message_verdict : (format : ℕ) (s : Situation) (m : MessageValue) (r : RecipientFields) (members : ℕ)
    (e : EnvelopeFields) (hop : Hop) (copy d : ℕ) (k : Case) (v : Verdict) → e ≡ m.envelope → hop
    ≡ best_hop s.tables r.name
    → IsCopyLength hop (outgoing_message s m []) copy → d ≡ unwrap_or e.deferral 0
    → k ≡ first_case (envelope_facts format s e r hop members copy) → v ≡ message_column hop d k
    → v ≡ verdict_of_message format s m r members
unfolding verdict_of_message
message_verdict format s m r members e hop copy d k v is-envelope is-hop is-copy is-deferral is-case is-verdict =
    let first : k ≡ first_case (facts_of_message format s m r members) =
    is-case
    ∙ ap (λ (w : EnvelopeFields). first_case (envelope_facts format s w r hop members copy)) is-envelope
    ∙ copy_counts format s m.envelope r hop members (outgoing_message s m []) copy is-copy
    ∙ ap (λ h. first_case (envelope_facts format s m.envelope r h members (length (outgoing_message s m [])))) is-hop in
    let deferral : d ≡ unwrap_or m.envelope.deferral 0 =
    is-deferral ∙ ap (λ (w : EnvelopeFields). unwrap_or w.deferral 0) is-envelope in
    is-verdict
    ∙ ap (λ x. message_column hop d x) first
    ∙ ap (λ x. message_column hop x (first_case (facts_of_message format s m r members))) deferral
    ∙ ap (λ h. message_column h (unwrap_or m.envelope.deferral 0) (first_case (facts_of_message format s m r members)))
    is-hop

pub probe_verdict : (format : ℕ) (s : Situation) (p : EnvelopeFields) (r : RecipientFields) (e : EnvelopeFields)
    (hop : Hop) (copy : ℕ) (k : Case) (v : Verdict) → e ≡ p → hop ≡ best_hop s.tables r.name
    → IsCopyLength hop (outgoing_probe s p []) copy → k ≡ first_case (envelope_facts format s e r hop 0 copy)
    → v ≡ probe_column hop k → v ≡ verdict_of_probe format s p r
unfolding verdict_of_probe
probe_verdict format s p r e hop copy k v is-envelope is-hop is-copy is-case is-verdict =
    let first : k ≡ first_case (facts_of_probe format s p r) =
    is-case
    ∙ ap (λ (w : EnvelopeFields). first_case (envelope_facts format s w r hop 0 copy)) is-envelope
    ∙ copy_counts format s p r hop 0 (outgoing_probe s p []) copy is-copy
    ∙ ap (λ h. first_case (envelope_facts format s p r h 0 (length (outgoing_probe s p [])))) is-hop in
    is-verdict
    ∙ ap (λ x. probe_column hop x) first
    ∙ ap (λ h. probe_column h (first_case (facts_of_probe format s p r))) is-hop

pub report_verdict : (s : Situation) (p q : ReportFields) (hop : Hop) (copy : ℕ) (k : Case) (b back : Bool)
    (v : Verdict) → q ≡ p → hop ≡ best_hop s.tables q.destination
    → IsCopyLength hop (outgoing_report s p) copy
    → ((f : Facts) → IsOfReport s q hop copy f → k ≡ first_case f) → b ≡ back
    → v ≡ report_column hop b k
    → v ≡ verdict_of_report s p back
unfolding verdict_of_report
report_verdict s p q hop copy k b back v is-report is-hop is-copy is-case is-back is-verdict =
    let hop-is : hop ≡ best_hop s.tables p.destination =
    is-hop ∙ ap (λ (x : ReportFields). best_hop s.tables x.destination) is-report in
    let case-is : (f : Facts) → IsOfReport s p hop copy f → k ≡ first_case f =
    subst (λ (x : ReportFields). (f : Facts) → IsOfReport s x hop copy f → k ≡ first_case f) is-report is-case in
    is-verdict
    ∙ ap (λ x. report_column hop b x) (report_copy_counts s p hop copy k hop-is is-copy case-is)
    ∙ ap (λ x. report_column hop x (first_case (facts_of_report s p))) is-back
    ∙ ap (λ h. report_column h back (first_case (facts_of_report s p))) hop-is
