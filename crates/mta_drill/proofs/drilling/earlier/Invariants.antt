use Rattle.std.proofs.Common.{◌*◌}
use Rattle.mta_drill.specs.Rounds.{IsWhole, round_size}
use Rattle.mta_drill.proofs.drilling.earlier.Given as goal

abbrev pub invariant-loop-place : goal.invariant-loop-place
invariant-loop-place l = IsWhole l.counts 0 (l.place * round_size)
