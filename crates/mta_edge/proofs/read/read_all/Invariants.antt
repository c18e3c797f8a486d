use Rattle.std.proofs.Common.{◌≡◌, ◌≤◌, ◌+◌, ◌-◌, ◌++◌, length}
use Rattle.mta_edge.specs.Outside.{Goes}
use Rattle.mta_edge.proofs.read.read_all.Given as goal

abbrev pub invariant-loop-buffer : goal.invariant-loop-buffer
invariant-loop-buffer g l = record {
  gives : Goes (λ f h. f ≡ l.all ++ h) (g.I.Source.model.left l.fn.source) (g.I.Source.model.left l.source);
  later : g.I.Source.model.faults l.fn.source ≤ g.I.Source.model.faults l.source;
  small : length l.all ≤ l.limit + 1;
}

abbrev pub decreases-loop-buffer : goal.decreases-loop-buffer
decreases-loop-buffer g l = l.limit + 1 - length l.all
