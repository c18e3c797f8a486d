use Rattle.mta_state.specs.Kept.{state_of}
use Rattle.mta_replay.proofs.PutDown.{row_added}
use Rattle.mta_replay.proofs.queued.add_row.Goals as goal

pub returns-clause-queued : goal.returns-clause-queued
returns-clause-queued g c =
    row_added (g.R.Rules.text c.args.rules.now) (state_of c.args.kept.now) c.args.queues.now c.push.new.self
    c.put_down_all.new.queues c.args.row c.items-number.result c.requires.queued c.requires.next c.push.ensures.words
    c.push.ensures.rows c.items-number.ensures c.put_down_all.ensures
