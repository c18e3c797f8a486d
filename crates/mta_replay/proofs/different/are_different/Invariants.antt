use Rattle.std.proofs.Common.{◌≤◌, ◌-◌, take}
use Rattle.mta_machine.specs.Items.{AreDifferent}
use Rattle.mta_replay.specs.Starting.{AreUpTo}
use Rattle.mta_replay.proofs.different.are_different.Given as goal

abbrev pub invariant-loop-place : goal.invariant-loop-place
invariant-loop-place l = record {
  within : l.place ≤ l.count;
  under : AreUpTo l.most (take l.place l.numbers);
  different : AreDifferent (take l.place l.numbers);
}

abbrev pub decreases-loop-place : goal.decreases-loop-place
decreases-loop-place l = l.count - l.place
