use Rattle.std.proofs.lemmas.Result.{err_from_is_err_and}
use Rattle.mta_ber.specs.Seen.{view}
use Rattle.mta_report.specs.ReportContents.{content_step, no_content, content_from, content_in}
use Rattle.mta_report_recipient.proofs.Failing.{parts_fail}
use Rattle.mta_report.proofs.content.read_content.Goals as goal

pub returns-in_err-take_parts : goal.returns-in_err-take_parts
unfolding content_in
returns-in_err-take_parts c =
    let v = view c.args.whole.now in
    let p = err_from_is_err_and c.from_residual.result c.from_residual.ensures.1 in
    rw (p.1, p.2) (parts_fail content_step no_content
    (λ s. content_from s v.at) c.in_err-take_parts.field-0.0 v c.if-not-whole.false c.in_err-take_parts.ensures)
