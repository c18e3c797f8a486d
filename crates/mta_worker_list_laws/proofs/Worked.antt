-- The worked row.
use Rattle.std.proofs.Common.{refl}
use Rattle.mta_worker_list_laws.specs.Examples.{TakesOne}

pub takes_one : TakesOne
takes_one = record { entries = refl; got = refl }
