use Rattle.std.proofs.Common.{◌∙◌}
use Rattle.mta_lanes.proofs.Cuts.{taken_none, taken_order, taken_within, taken_next, taken_all}
use Rattle.mta_lanes.proofs.pieces.copies_of.Goals as goal

pub loop-end-init : goal.loop-end-init
loop-end-init c =
    taken_none c.args.octets.now c.args.ends.now c.in_ok-pieces.pieces.items c.requires.order c.requires.within
    c.in_ok-pieces.ensures.items

pub between-requires-clause-order : goal.between-requires-clause-order
between-requires-clause-order c =
    taken_order c.args.octets.now c.args.ends.now c.loop-end.pieces.items c.loop-end.from c.loop-end.end-index
    c.loop-end-test.true c.loop-end.invariant

pub between-requires-clause-within : goal.between-requires-clause-within
between-requires-clause-within c =
    taken_within c.args.octets.now c.args.ends.now c.loop-end.pieces.items c.loop-end.from c.loop-end.end-index
    c.loop-end-test.true c.loop-end.invariant

pub loop-end-preserved : goal.loop-end-preserved
loop-end-preserved c =
    taken_next c.args.octets.now c.args.ends.now c.loop-end.pieces.items c.loop-end.from c.loop-end.end-index
    c.loop-end-test.true c.loop-end.invariant c.in_ok-piece.piece c.push.new.self.items
    (c.in_ok-piece.ensures ∙ c.between.ensures)
    c.in_ok-push.ensures.items

pub returns : goal.returns
returns c =
    taken_all c.args.octets.now c.args.ends.now c.loop-end.pieces.items c.loop-end.from c.loop-end.end-index
    c.loop-end-test.false c.loop-end.invariant
