use Rattle.mta_names.proofs.ExtensionAgain.{extensions_again}
use Rattle.mta_names.proofs.laws.extension_attributes_are_read_again.Goals as goal

pub returns : goal.returns
returns c = extensions_again
