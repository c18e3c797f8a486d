use Rattle.mta_report_recipient.specs.ReportedRecipients.{canonical_reported}
use Rattle.mta_names.proofs.LengthLaws.{IsToldTo}
use Rattle.mta_report_recipient.proofs.length.all_length.Given as goal

abbrev pub invariant-loop-recipient : goal.invariant-loop-recipient
invariant-loop-recipient l = IsToldTo canonical_reported l.recipients l.recipient-index l.total
