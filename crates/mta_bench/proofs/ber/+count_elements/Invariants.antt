use Rattle.std.proofs.Common.{◌≡◌, ◌-◌, length}
use Rattle.mta_bench.proofs.ber.+count_elements.Given as goal

abbrev pub decreases-count_elements : goal.decreases-count_elements
decreases-count_elements l = 17 - l.view.now.depth

abbrev pub invariant-parts : goal.invariant-parts
invariant-parts l = l.parts.depth ≡ l.view.depth

abbrev pub decreases-parts : goal.decreases-parts
decreases-parts l = length l.parts.left.now
