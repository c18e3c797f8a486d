use Rattle.mta_records.proofs.Lengths.{none_sized}
use Rattle.mta_records.proofs.lane_records.live_size.Goals as goal

pub returns-in-None : goal.returns-in-None
returns-in-None c =
    none_sized c.args.two c.args.transfer.now c.unused_size.result c.in-None.is c.unused_size.ensures
