use Rattle.std.proofs.Common.{◌≡◌, length}
use Rattle.mta_state.specs.Kept.{state_of}
use Rattle.mta_replay.specs.Queued.{IsQueuedUpTo, Nobody}
use Rattle.mta_replay.proofs.queued.queues_of.Given as goal

abbrev pub invariant-loop-item : goal.invariant-loop-item
invariant-loop-item g l = record {
  queued : IsQueuedUpTo (g.R.Rules.text l.rules) (state_of l.kept) l.queues (length l.queues.rows) Nobody;
  count : length l.queues.rows ≡ l.item-index;
}
