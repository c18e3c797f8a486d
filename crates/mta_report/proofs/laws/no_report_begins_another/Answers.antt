use Rattle.mta_report.proofs.ReportKept.{no_report_begins}
use Rattle.mta_report.proofs.laws.no_report_begins_another.Goals as goal

pub returns : goal.returns
returns c = no_report_begins
