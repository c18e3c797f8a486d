use Rattle.std.proofs.Common.{drop}
use Rattle.std.specs.Prelude.{◌↔◌}
use Rattle.std.specs.List.{AllByRecursion}
use Rattle.mta_histories.specs.Sound.{IsSoundLine}
use Rattle.mta_state.specs.Kept.{state_of}
use Rattle.mta_snapshots.proofs.lines.are_lines.Given as goal

abbrev pub invariant-loop-line : goal.invariant-loop-line
invariant-loop-line l =
    AllByRecursion (IsSoundLine (state_of l.kept)) l.line-items
    ↔ AllByRecursion (IsSoundLine (state_of l.kept)) (drop l.line-index l.line-items)
