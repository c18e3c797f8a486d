use Rattle.mta_report_recipient.proofs.ReportedKept.{read_reported_again}
use Rattle.mta_report_recipient.proofs.laws.recipients_that_were_read_are_read_again.Goals as goal

pub returns : goal.returns
returns c = read_reported_again
