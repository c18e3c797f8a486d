use Rattle.std.proofs.Common.{◌≤◌, ◌-◌, length}
use Rattle.mta_dues.specs.Spans.{NoneOpenBetween}
use Rattle.mta_dues.proofs.spans.Spans.next_open.Given as goal

abbrev pub invariant-loop-place : goal.invariant-loop-place
invariant-loop-place l = record {
  on : l.from ≤ l.place;
  none : NoneOpenBetween l.self l.numbers l.from l.place l.moment;
}

abbrev pub decreases-loop-place : goal.decreases-loop-place
decreases-loop-place l = length l.numbers - l.place
