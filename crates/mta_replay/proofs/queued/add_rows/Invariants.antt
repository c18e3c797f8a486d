use Rattle.std.proofs.Common.{◌≤◌, length}
use Rattle.std.specs.Vec.Iter.{into_iter_items, into_iter_len}
use Rattle.mta_queue.specs.Queues.{HasRoom}
use Rattle.mta_state.specs.Kept.{state_of}
use Rattle.mta_replay.specs.Queued.{AreComing, IsQueuedUpTo, Nobody}
use Rattle.mta_replay.proofs.queued.add_rows.Given as goal

abbrev pub invariant-loop-row : goal.invariant-loop-row
invariant-loop-row g l = record {
  queued : IsQueuedUpTo (g.R.Rules.text l.rules) (state_of l.kept) l.queues (length l.queues.rows) Nobody;
  coming : AreComing (g.R.Rules.text l.rules) l.queues.words l.kept.parts.items.items (length l.queues.rows)
      (into_iter_items l.rest);
  room : length (into_iter_items l.rest) ≤ l.queues.room;
  places : HasRoom l.queues.queues (length (into_iter_items l.rest));
}

abbrev pub decreases-loop-row : goal.decreases-loop-row
decreases-loop-row g l = into_iter_len l.rest
