use Rattle.mta_report.proofs.ReportKept.{read_reports_again, read_whole_reports_again}
use Rattle.mta_report.proofs.laws.reports_that_were_read_are_read_again.Goals as goal

pub returns-clause-levels : goal.returns-clause-levels
returns-clause-levels c = read_reports_again

pub returns-clause-whole : goal.returns-clause-whole
returns-clause-whole c = read_whole_reports_again
