use Rattle.mta_procedures.proofs.EndLaws.{messages_at_mailboxes, reports_at_mailboxes, passed_reports}
use Rattle.mta_procedures.proofs.ends.verdicts_lead_where_they_say.Goals as goal

pub returns : goal.returns
returns c = record { messages = messages_at_mailboxes; reports = reports_at_mailboxes; passed = passed_reports }
