use Rattle.std.proofs.Common.{ℕ, ◌<◌}
use Rattle.mta_rehearse_run.specs.Agents.{IsTwiceAt}
use Rattle.mta_rehearse_run.proofs.twice.first_twice.Given as goal

abbrev pub invariant-loop-place : goal.invariant-loop-place
invariant-loop-place l = (i : ℕ) → i < l.place → IsTwiceAt l.agents i → ⊥
