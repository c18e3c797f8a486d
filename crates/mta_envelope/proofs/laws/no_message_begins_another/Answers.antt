use Rattle.mta_envelope.proofs.EnvKept.{no_message_begins, no_probe_begins}
use Rattle.mta_envelope.proofs.laws.no_message_begins_another.Goals as goal

pub returns-clause-messages : goal.returns-clause-messages
returns-clause-messages c = no_message_begins

pub returns-clause-probes : goal.returns-clause-probes
returns-clause-probes c = no_probe_begins
