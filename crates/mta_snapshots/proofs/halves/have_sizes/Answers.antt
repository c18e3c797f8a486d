use Rattle.std.proofs.Common.{◌≡◌, true, List, ℕ, subst}
use Rattle.std.specs.Prelude.{◌↔◌}
use Rattle.mta_snapshots.specs.Lanes.{HasSize}
use Rattle.mta_snapshots.proofs.Each.{all_still, all_never, all_done}
use Rattle.mta_snapshots.proofs.halves.have_sizes.Goals as goal

pub loop-piece-preserved : goal.loop-piece-preserved
loop-piece-preserved c =
    all_still (HasSize c.args.checkpoint) c.args.pieces.now c.loop-piece.piece-index c.piece-item.result
    c.has_size.result c.loop-piece-test.true c.piece-item.is
    (subst (λ (p : List ℕ). (c.has_size.result ≡ true) ↔ HasSize c.args.checkpoint p) c.as_slice.ensures
    c.has_size.ensures)
    c.if-not-has_size.false c.loop-piece.invariant

pub returns-then-not-has_size : goal.returns-then-not-has_size
returns-then-not-has_size c =
    all_never (HasSize c.args.checkpoint) c.args.pieces.now c.loop-piece.piece-index c.piece-item.result
    c.has_size.result c.loop-piece-test.true c.piece-item.is
    (subst (λ (p : List ℕ). (c.has_size.result ≡ true) ↔ HasSize c.args.checkpoint p) c.as_slice.ensures
    c.has_size.ensures)
    c.if-not-has_size.true c.loop-piece.invariant

pub returns : goal.returns
returns c =
    all_done (HasSize c.args.checkpoint) c.args.pieces.now c.loop-piece.piece-index c.loop-piece-test.false
    c.loop-piece.invariant
