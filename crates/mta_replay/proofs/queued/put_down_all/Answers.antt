use Rattle.std.proofs.Common.{arith}
use Rattle.mta_state.specs.Kept.{state_of}
use Rattle.mta_replay.proofs.PutDown.{put_more}
use Rattle.mta_replay.proofs.queued.put_down_all.Goals as goal

pub loop-recipient-preserved : goal.loop-recipient-preserved
loop-recipient-preserved c = record {
  within = omega arith;
  put = put_more (state_of c.args.kept.now) c.args.item c.loop-recipient.recipient c.args.queues.now
      c.loop-recipient.queues c.put_down_one.new.queues c.loop-recipient.invariant.put c.put_down_one.ensures;
}
