use Rattle.std.proofs.Common.{◌≡◌, ◌-◌, ◌^◌, []}
use Rattle.mta_replay.proofs.Named.{IsNamedUpTo}
use Rattle.mta_replay.proofs.queued.queues_named.Given as goal

abbrev pub invariant-loop-word : goal.invariant-loop-word
invariant-loop-word g l = record {
  rows : l.queues.rows ≡ [];
  named : IsNamedUpTo (g.R.Rules.text l.rules) l.queues.words l.place;
}

abbrev pub decreases-loop-word : goal.decreases-loop-word
decreases-loop-word g l = 2 ^ 32 - l.place
