use Rattle.mta_report_recipient.proofs.ReportedAgain.{reported_again}
use Rattle.mta_report_recipient.proofs.laws.recipients_are_read_again.Goals as goal

pub returns : goal.returns
returns c = reported_again
