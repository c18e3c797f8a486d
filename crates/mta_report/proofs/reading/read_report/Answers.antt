use Rattle.std.proofs.Common.{sym, ◌∙◌}
use Rattle.std.proofs.lemmas.Result.{err_from_is_err_and}
use Rattle.mta_ber.specs.Seen.{view}
use Rattle.mta_report.specs.Reports.{report_step, no_report, report_from, report_in}
use Rattle.mta_report_recipient.proofs.Failing.{parts_under_fail}
use Rattle.mta_report.proofs.reading.read_report.Goals as goal

pub returns-in_err-take_parts : goal.returns-in_err-take_parts
unfolding report_in
returns-in_err-take_parts c =
    let v = view c.args.whole.now in
    let p = err_from_is_err_and c.from_residual.result c.from_residual.ensures.1 in
    rw (p.1, p.2) (parts_under_fail 2 1 report_step no_report (λ s. report_from s v.at) c.in_err-take_parts.field-0.0 v
    (sym c.is_constructed_tag.ensures ∙ c.if-not-is_constructed_tag.false) c.in_err-take_parts.ensures)
