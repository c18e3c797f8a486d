use Rattle.std.proofs.Common.{◌≡◌, ℕ, List, ◌++◌, sym, ap, ◌∙◌}
use Rattle.mta_ber.specs.Canon.{element}
use Rattle.mta_ber.specs.Lengths.{octet_length}
use Rattle.mta_report.specs.declared.fields.ReportFields.{ReportFields}
use Rattle.mta_report.specs.ReportContents.{canonical_content}
use Rattle.mta_report.specs.ReportEnvelopes.{canonical_envelope}
use Rattle.mta_procedures.specs.Copies.{outgoing_fields}
use Rattle.mta_procedures.specs.Situations.{Situation, situation}
use Rattle.mta_rules.proofs.Wholes.{report_is}
use Rattle.mta_rules.proofs.length.report_copy_length.Goals as goal

pub returns : goal.returns
returns c =
    let s : Situation = situation c.args.tables.now c.args.arrival c.args.moment in
    let envelope : List ℕ = canonical_envelope (outgoing_fields s c.args.report.now) in
    let content : List ℕ = canonical_content c.args.report.now in
    let envelope-told : c.report_envelope_length-envelope.result ≡ octet_length envelope =
    c.report_envelope_length-envelope.ensures
    ∙ ap (λ (v : ReportFields). octet_length (canonical_envelope (outgoing_fields s v)))
    c.fields-fields.ensures.exact in
    let content-told : c.report_content_length-content.result ≡ octet_length content =
    c.report_content_length-content.ensures
    ∙ ap (λ (v : ReportFields). octet_length (canonical_content v)) c.fields-fields.ensures.exact in
    c.element_length.ensures (envelope ++ content)
    (c.length_of_both.ensures envelope content envelope-told content-told)
    ∙ ap (λ t. octet_length (element t (envelope ++ content))) c.constructed.ensures
    ∙ ap octet_length (sym (report_is s c.args.report.now))
