use Rattle.mta_envelope.proofs.EnvKept.{envelope_kept}
use Rattle.mta_envelope.proofs.laws.envelopes_that_were_read_are_kept.Goals as goal

pub returns : goal.returns
returns c = envelope_kept
