use Rattle.mta_names.proofs.Written.{Left}
use Rattle.mta_report_recipient.specs.ReportedRecipients.{canonical_reported}
use Rattle.mta_report_recipient.proofs.recipients.put_all.Given as goal

abbrev pub invariant-loop-recipient : goal.invariant-loop-recipient
invariant-loop-recipient l = Left canonical_reported l.fn.w l.recipients l.recipient-index l.w
