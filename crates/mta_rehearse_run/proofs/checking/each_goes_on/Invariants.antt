use Rattle.std.proofs.Common.{◌≡◌, ℕ, ◌+◌, ◌<◌, get_or}
use Rattle.mta_rehearse_run.specs.declared.turn.Turn.TheVariants.{On}
use Rattle.mta_rehearse_run.specs.Turns.{turn_of}
use Rattle.mta_rehearse_run.proofs.checking.each_goes_on.Given as goal

abbrev pub invariant-loop-k : goal.invariant-loop-k
invariant-loop-k l =
    (j : ℕ) → j + 1 < l.k → turn_of l.agents l.name (get_or l.walked j 0) ≡ On (get_or l.walked (j + 1) 0)
