use Rattle.mta_procedures.proofs.EndLaws.{messages_have_theirs, probes_have_theirs, no_reports_on_reports}
use Rattle.mta_procedures.proofs.ends.kinds_have_their_verdicts.Goals as goal

pub returns : goal.returns
returns c = record { messages = messages_have_theirs; probes = probes_have_theirs; reports = no_reports_on_reports }
