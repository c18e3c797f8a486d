use Rattle.std.proofs.Common.{◌≡◌, ◌+◌, ◌≤◌, [], length}
use Rattle.mta_tables.specs.Reading.{nothing, read_lines}
use Rattle.mta_tables.proofs.reading.read_lines.Given as goal

abbrev pub invariant-loop-draft : goal.invariant-loop-draft
invariant-loop-draft l = (read_lines l.number l.draft [] l.rest ≡ read_lines 1 nothing [] l.text)
    × (l.number + length l.rest ≤ 1048577)

abbrev pub decreases-loop-draft : goal.decreases-loop-draft
decreases-loop-draft l = length l.rest
