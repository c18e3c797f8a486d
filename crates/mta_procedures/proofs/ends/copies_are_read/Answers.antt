use Rattle.mta_procedures.proofs.ReadingLaws.{envelopes_were_read, message_copies_read, probe_copies_read}
use Rattle.mta_procedures.proofs.ReadingLaws.{report_copies_read}
use Rattle.mta_procedures.proofs.ends.copies_are_read.Goals as goal

pub returns : goal.returns
returns c = record {
  envelopes = envelopes_were_read;
  messages = message_copies_read;
  probes = probe_copies_read;
  reports = report_copies_read;
}
