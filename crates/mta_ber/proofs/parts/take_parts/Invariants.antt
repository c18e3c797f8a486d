use Rattle.std.proofs.Common.{◌≡◌, ◌+◌, length}
use Rattle.mta_ber.specs.Parts.{parts_of}
use Rattle.mta_ber.specs.Seen.{view}
use Rattle.mta_ber.proofs.PartsLoop.{Left}
use Rattle.mta_ber.proofs.parts.take_parts.Given as goal

abbrev pub invariant-parts : goal.invariant-parts
invariant-parts g l = record {
  depth_is : l.parts.depth ≡ l.whole.depth;
  rest : Left g.C.Components.step (l.whole.depth + 1) l.parts.at l.state l.parts.left.now
      (parts_of g.C.Components.step l.fn.state (view l.whole));
}

abbrev pub decreases-parts : goal.decreases-parts
decreases-parts g l = length l.parts.left.now
