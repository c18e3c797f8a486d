use Rattle.std.proofs.Common.{◌≤◌, ◌-◌}
use Rattle.mta_replay.specs.Queued.{IsRow}
use Rattle.mta_replay.proofs.queued.row_read.Given as goal

abbrev pub invariant-loop-recipient : goal.invariant-loop-recipient
invariant-loop-recipient g l = record {
  within : l.recipient ≤ l.count;
  row : IsRow (g.R.Rules.text l.rules) l.queues.words l.item.octets l.recipient l.row;
}

abbrev pub decreases-loop-recipient : goal.decreases-loop-recipient
decreases-loop-recipient g l = l.count - l.recipient
