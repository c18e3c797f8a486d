use Rattle.std.proofs.Common.{◌≡◌, ◌+◌, ◌-◌, length}
use Rattle.mta_ber.specs.Parts.{parts_of}
use Rattle.mta_ber.specs.Seen.{view}
use Rattle.mta_ber.proofs.PartsLoop.{Left}
use Rattle.mta_ber.proofs.Segments.{inner}
use Rattle.mta_ber.proofs.gather.+gather_of.Given as goal

abbrev pub decreases-gather_of : goal.decreases-gather_of
decreases-gather_of g l = 17 - l.whole.now.depth

abbrev pub invariant-parts : goal.invariant-parts
invariant-parts g l = record {
  depth_is : l.parts.depth ≡ l.whole.depth;
  rest : Left (inner g.G.Gathers.piece l.first l.second l.whole.depth l.last)
      (l.whole.depth + 1) l.parts.at l.state l.parts.left.now
      (parts_of (inner g.G.Gathers.piece l.first l.second l.whole.depth l.last) l.fn.state (view l.whole));
}

abbrev pub decreases-parts : goal.decreases-parts
decreases-parts g l = length l.parts.left.now
