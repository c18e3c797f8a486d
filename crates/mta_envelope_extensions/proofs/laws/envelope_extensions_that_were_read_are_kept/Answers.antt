use Rattle.mta_envelope_extensions.proofs.ExtKept.{extensions_kept}
use Rattle.mta_envelope_extensions.proofs.laws.envelope_extensions_that_were_read_are_kept.Goals as goal

pub returns : goal.returns
returns c = extensions_kept
