use Rattle.mta_envelope_extensions.proofs.ToldAgain.{envelope_extensions_again}
use Rattle.mta_envelope_extensions.proofs.laws.envelope_extensions_are_read_again.Goals as goal

pub returns : goal.returns
returns c = envelope_extensions_again
