use Rattle.mta_procedures.proofs.RelayLaws.{relayed_messages, relayed_probes, relayed_reports, report_copies_same}
use Rattle.mta_procedures.proofs.ends.what_is_relayed_has_copies.Goals as goal

pub returns : goal.returns
returns c = record {
  messages = relayed_messages;
  probes = relayed_probes;
  reports = relayed_reports;
  same =
      report_copies_same;
}
