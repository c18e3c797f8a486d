use Rattle.std.proofs.Common.{◌≡◌, ap, ◌∙◌}
use Rattle.mta_report.specs.declared.fields.ReportFields.{ReportFields}
use Rattle.mta_report.specs.Reports.{canonical_report}
use Rattle.mta_procedures.specs.Copies.{outgoing_report}
use Rattle.mta_procedures.specs.Situations.{Situation, situation}
use Rattle.mta_copies.proofs.Copied.{if_ok_so}
use Rattle.mta_copies.proofs.Wholes.{report_is}
use Rattle.mta_copies.proofs.outgoing.outgoing_report.Goals as goal

pub returns : goal.returns
returns c =
    let s : Situation = situation c.args.tables.now c.args.arrival c.args.moment in
    let p : ReportFields = c.args.report.now in
    let whole = ap (λ (v : ReportFields). canonical_report v) c.in_ok-copy.ensures ∙ report_is s p in
    if_ok_so c.write.result (λ o. o ≡ canonical_report c.in_ok-copy.copy) (λ o. o ≡ outgoing_report s p)
    (λ o is. is ∙ whole) c.write.ensures
