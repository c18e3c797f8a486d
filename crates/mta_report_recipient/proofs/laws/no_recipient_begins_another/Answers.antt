use Rattle.mta_report_recipient.proofs.ReportedKept.{no_reported_begins}
use Rattle.mta_report_recipient.proofs.laws.no_recipient_begins_another.Goals as goal

pub returns : goal.returns
returns c = no_reported_begins
