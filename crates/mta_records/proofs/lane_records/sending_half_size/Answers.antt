use Rattle.mta_records.proofs.Lengths.{idle_sized, sending_sized, ending_sized, dropping_sized}
use Rattle.mta_records.proofs.lane_records.sending_half_size.Goals as goal

pub returns-in-Idle : goal.returns-in-Idle
returns-in-Idle c =
    idle_sized c.args.two c.args.sending c.args.transfer.now _ c.unused_size.result c.saturating_add.result
    c.in-Idle.is c.unused_size.ensures c.saturating_add.ensures

pub returns-in-Sending : goal.returns-in-Sending
returns-in-Sending c =
    sending_sized c.args.two c.args.sending c.args.transfer.now _ _ c.live_size.result
    c.saturating_add-in-Sending.result c.in-Sending.is c.live_size.ensures c.saturating_add-in-Sending.ensures

pub returns-in-Ending : goal.returns-in-Ending
returns-in-Ending c =
    ending_sized c.args.two c.args.sending c.args.transfer.now _ _ c.live_size-in-Ending.result
    c.saturating_add-in-Ending.result c.in-Ending.is c.live_size-in-Ending.ensures c.saturating_add-in-Ending.ensures

pub returns-in-Dropping : goal.returns-in-Dropping
returns-in-Dropping c =
    dropping_sized c.args.two c.args.sending c.args.transfer.now _ c.live_size-in-Dropping.result
    c.saturating_add-in-Dropping.result c.in-Dropping.is c.live_size-in-Dropping.ensures
    c.saturating_add-in-Dropping.ensures
