use Rattle.std.proofs.Common.{◌≡◌, ◌++◌, ◌∷◌, ◌^◌, [], ℕ, List, length, ap, ◌∙◌, arith}
use Rattle.mta_lanes.proofs.Cuts.{cut_none, cut_next, cut_fits, cut_all}
use Rattle.mta_lanes.proofs.pieces.Pieces.of.Goals as goal

pub loop-piece-init : goal.loop-piece-init
loop-piece-init c =
    cut_none c.args.pieces.now c.new-octets.result.items c.in_ok-ends.ends.items c.new-octets.ensures.items
    c.in_ok-ends.ensures.items

pub overflow_cast-len : goal.overflow_cast-len
overflow_cast-len c =
    let few = cut_fits c.args.pieces.now c.loop-piece.piece-index (2 ^ 32) c.loop-piece.octets.items
    c.loop-piece.ends.items c.piece-item.result c.extend_from_slice.new.self.items c.loop-piece-test.true
    c.piece-item.is c.loop-piece.invariant
    (c.in_ok-extend_from_slice.ensures.items
    ∙ ap (λ (p : List ℕ). c.loop-piece.octets.items ++ p) c.as_slice.ensures)
    c.requires in
    omega (arith, few, c.len.ensures, c.extend_from_slice.new.self.ok)

pub loop-piece-preserved : goal.loop-piece-preserved
loop-piece-preserved c =
    let size : c.len.result ≡ length c.extend_from_slice.new.self.items =
    omega (arith, c.len.ensures, c.extend_from_slice.new.self.ok) in
    cut_next c.args.pieces.now c.loop-piece.piece-index c.loop-piece.octets.items c.loop-piece.ends.items
    c.piece-item.result c.extend_from_slice.new.self.items c.push.new.self.items c.loop-piece-test.true c.piece-item.is
    c.loop-piece.invariant
    (c.in_ok-extend_from_slice.ensures.items
    ∙ ap (λ (p : List ℕ). c.loop-piece.octets.items ++ p) c.as_slice.ensures)
    (c.in_ok-push.ensures.items ∙ ap (λ (n : ℕ). c.loop-piece.ends.items ++ n ∷ []) size)

pub returns : goal.returns
returns c =
    (cut_all c.args.pieces.now c.loop-piece.piece-index c.loop-piece.octets.items c.loop-piece.ends.items
    c.loop-piece-test.false c.loop-piece.invariant).pieces_are

pub invariant_of-result : goal.invariant_of-result
invariant_of-result c =
    let cut = cut_all c.args.pieces.now c.loop-piece.piece-index c.loop-piece.octets.items c.loop-piece.ends.items
    c.loop-piece-test.false c.loop-piece.invariant in
    (cut.ends, omega (arith, cut.last))
