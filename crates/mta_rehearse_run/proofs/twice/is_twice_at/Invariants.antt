use Rattle.std.proofs.Common.{ℕ, ◌<◌}
use Rattle.mta_rehearse_run.specs.Agents.{AreSameAt}
use Rattle.mta_rehearse_run.proofs.twice.is_twice_at.Given as goal

abbrev pub invariant-loop-earlier : goal.invariant-loop-earlier
invariant-loop-earlier l = (j : ℕ) → j < l.earlier → AreSameAt l.agents j l.place → ⊥
