use Rattle.std.proofs.Common.{◌≤◌, drop, length}
use Rattle.mta_replay.specs.Queued.{AreRows, made_in_turn}
use Rattle.mta_replay.proofs.queued.rows_in_turn.Given as goal

abbrev pub invariant-loop-place : goal.invariant-loop-place
invariant-loop-place g l = record {
  within : l.place ≤ length l.settlements;
  rows : AreRows (g.R.Rules.text l.rules) l.queues.words l.rows.items (made_in_turn (drop l.place l.settlements));
}

abbrev pub decreases-loop-place : goal.decreases-loop-place
decreases-loop-place g l = l.place
