use Rattle.mta_report.proofs.ReportKept.{report_kept}
use Rattle.mta_report.proofs.laws.reports_that_were_read_are_kept.Goals as goal

pub returns : goal.returns
returns c = report_kept
