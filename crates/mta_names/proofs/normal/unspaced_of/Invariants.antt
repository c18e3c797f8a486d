use Rattle.std.proofs.Common.{◌≡◌, ◌≤◌, length}
use Rattle.mta_names.specs.Normal.{unspaced}
use Rattle.mta_names.proofs.normal.unspaced_of.Given as goal

abbrev pub invariant-loop-rest : goal.invariant-loop-rest
invariant-loop-rest l = record { same : unspaced l.rest ≡ unspaced l.text; within : length l.rest ≤ length l.text }

abbrev pub decreases-loop-rest : goal.decreases-loop-rest
decreases-loop-rest l = length l.rest
