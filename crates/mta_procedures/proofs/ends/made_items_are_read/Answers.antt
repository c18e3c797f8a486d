use Rattle.mta_procedures.proofs.ReadingLaws.{made_reports_read, passed_reports_read, members_copies_read}
use Rattle.mta_procedures.proofs.ends.made_items_are_read.Goals as goal

pub returns : goal.returns
returns c = record { reports = made_reports_read; passed = passed_reports_read; members = members_copies_read }
