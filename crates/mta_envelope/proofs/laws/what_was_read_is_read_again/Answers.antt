use Rattle.mta_envelope.proofs.EnvKept.{read_messages_again, read_probes_again}
use Rattle.mta_envelope.proofs.laws.what_was_read_is_read_again.Goals as goal

pub returns-clause-messages : goal.returns-clause-messages
returns-clause-messages c = read_messages_again

pub returns-clause-probes : goal.returns-clause-probes
returns-clause-probes c = read_probes_again
