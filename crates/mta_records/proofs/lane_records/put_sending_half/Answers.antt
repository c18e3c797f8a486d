use Rattle.mta_records.proofs.Written.{given_sending, given_ending, given_dropping}
use Rattle.mta_records.proofs.lane_records.put_sending_half.Goals as goal

pub put_live-requires : goal.put_live-requires
put_live-requires c =
    given_sending c.args.two c.args.sending c.args.transfer.now c.in-Sending.activity c.in-Sending.confirmed
    c.in-Sending.is c.requires

pub put_live-requires-in-Ending : goal.put_live-requires-in-Ending
put_live-requires-in-Ending c =
    given_ending c.args.two c.args.sending c.args.transfer.now c.in-Ending.activity c.in-Ending.confirmed
    c.in-Ending.is c.requires

pub put_live-requires-in-Dropping : goal.put_live-requires-in-Dropping
put_live-requires-in-Dropping c =
    given_dropping c.args.two c.args.sending c.args.transfer.now c.in-Dropping.activity c.in-Dropping.is c.requires
