use Rattle.mta_report.proofs.ReportAgain.{reports_again, whole_reports_again}
use Rattle.mta_report.proofs.laws.reports_are_read_again.Goals as goal

pub returns-clause-levels : goal.returns-clause-levels
returns-clause-levels c = reports_again

pub returns-clause-whole : goal.returns-clause-whole
returns-clause-whole c = whole_reports_again
