use Rattle.mta_names.proofs.Definite.{definite_everywhere}
use Rattle.mta_names.proofs.laws.definite_parts_stand_everywhere.Goals as goal

pub returns : goal.returns
returns c = definite_everywhere
