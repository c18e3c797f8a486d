use Rattle.mta_apdu.specs.Apdus.{apdu_value}
use Rattle.mta_snapshots.proofs.Recording.{emptied_is}
use Rattle.mta_snapshots.proofs.spent.emptied_of.Goals as goal

pub returns-in-Ok : goal.returns-in-Ok
returns-in-Ok c =
    emptied_is c.args.octets.now (apdu_value c.in-Ok.apdu) c.emptied.result c.in-Ok.ensures.found c.emptied.ensures
