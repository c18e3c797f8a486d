-- What is left grows by the piece.
use Rattle.std.proofs.Common.{◌≤◌, length, sym, subst, arith}
use Rattle.mta_follow_units.specs.Feed.{Feed, wanted}
use Rattle.mta_follow_units.proofs.SizeLaws.{bytes_join, feeds}
use Rattle.mta_follow_units.proofs.reader.Reader.feed.Goals as goal

pub invariant_of-self-2 : goal.invariant_of-self-2
invariant_of-self-2 c =
    let P : Feed → Type 0 = λ f. length c.args.piece.now ≤ wanted f.left in
    feeds c.self.inside.at c.self.inside.octets.items c.args.piece.now c.extend_from_slice.new.self.items _ _ _
    c.self.invariant (subst P (sym c.self.view_is) c.requires) c.in_ok-extend_from_slice.ensures.items
    (omega (arith, c.if-piece-self.false, c.len-used.ensures, c.self.invariant.room))
    (bytes_join c.self.inside.octets.items c.args.piece.now c.self.invariant.bytes
    (λ i. omega (arith, c.type_inv.piece i))) (omega arith)
