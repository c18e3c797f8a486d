use Rattle.std.proofs.Common.{arith}
use Rattle.mta_snapshots.proofs.Halving.{size_more, too_long, short_enough}
use Rattle.mta_snapshots.proofs.halves.are_within.Goals as goal

pub loop-piece-preserved : goal.loop-piece-preserved
loop-piece-preserved c =
    let more = size_more c.args.pieces.now c.loop-piece.piece-index c.loop-piece.size c.loop-piece.invariant.same
    c.piece-item.result c.loop-piece-test.true c.piece-item.is in
    record {
      same = omega (arith, more, c.len-more.ensures);
      most = omega (arith, c.loop-piece.invariant.most, c.if-more-size.false);
    }

pub returns-then-more-size : goal.returns-then-more-size
returns-then-more-size c =
    too_long c.args.pieces.now c.loop-piece.piece-index c.loop-piece.size c.loop-piece.invariant.same
    c.piece-item.result c.loop-piece-test.true c.piece-item.is
    (omega (arith, c.loop-piece.invariant.most, c.if-more-size.true, c.len-more.ensures))

pub returns : goal.returns
returns c =
    short_enough c.args.pieces.now c.loop-piece.piece-index c.loop-piece.size c.loop-piece.invariant.same
    c.loop-piece-test.false c.loop-piece.invariant.most
