use Rattle.mta_fields.proofs.ExtensionAgain.{extension_fields_again}
use Rattle.mta_fields.proofs.laws.extension_fields_are_read_again.Goals as goal

pub returns : goal.returns
returns c = extension_fields_again
