use Rattle.std.proofs.Common.{◌≡◌, ◌++◌, drop}
use Rattle.mta_histories.specs.Compact.{codes_of}
use Rattle.mta_snapshots.proofs.codes.codes_of.Given as goal

abbrev pub invariant-loop-status : goal.invariant-loop-status
invariant-loop-status l = l.codes.items ++ codes_of (drop l.status-index l.statuses) ≡ codes_of l.statuses
