use Rattle.mta_report_recipient.proofs.ReportedKept.{reported_kept}
use Rattle.mta_report_recipient.proofs.laws.recipients_that_were_read_are_kept.Goals as goal

pub returns : goal.returns
returns c = reported_kept
