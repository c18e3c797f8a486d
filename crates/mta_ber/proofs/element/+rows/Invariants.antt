use Rattle.std.proofs.Common.{◌+◌, ◌-◌, ◌*◌, length}
use Rattle.mta_ber.specs.Element.{run}
use Rattle.mta_ber.proofs.Rows.{Going}
use Rattle.mta_ber.proofs.element.+rows.Given as goal

abbrev pub decreases-run_of : goal.decreases-run_of
decreases-run_of l = 5 * (18 - l.depth)

abbrev pub decreases-element_of : goal.decreases-element_of
decreases-element_of l = 5 * (18 - l.depth) + 4

abbrev pub decreases-content_of : goal.decreases-content_of
decreases-content_of l = 5 * (18 - l.depth) + 1

abbrev pub invariant-run_of-row : goal.invariant-run_of-row
invariant-run_of-row l = Going (run (17 - (l.depth + 1))) (l.depth + 1) l.marked l.at l.used l.bytes
    (run (17 - l.depth) l.marked l.at l.bytes)

abbrev pub decreases-run_of-row : goal.decreases-run_of-row
decreases-run_of-row l = length l.bytes - l.used

abbrev pub decreases-long_element_of : goal.decreases-long_element_of
decreases-long_element_of l = 5 * (18 - l.depth) + 2

abbrev pub decreases-open_element_of : goal.decreases-open_element_of
decreases-open_element_of l = 5 * (18 - l.depth) + 3
