-- What is left grows by the piece, and a fault that was kept stays.
use Rattle.std.proofs.Common.{◌+◌, ◌^◌, ◌<◌, length, sym, subst, arith}
use Rattle.mta_units.specs.Feed.{Feed}
use Rattle.mta_units.proofs.GrowthLaws.{feed_holds}
use Rattle.mta_units.proofs.frames.Frames.feed.Goals as goal

pub invariant_of-self-2 : goal.invariant_of-self-2
invariant_of-self-2 c =
    let P : Feed → Type 0 = λ f. f.at + length f.left + length c.args.piece.now < 2 ^ 64 in
    feed_holds c.self.inside.taken c.forget-self-inside.result c.self.inside.octets.items
    c.forget-self-inside.new.octets.items c.args.piece.now _ c.self.inside.at c.self.inside.bad _ _ _ _
    c.self.invariant
    c.forget-self-inside.ensures.left c.forget-self-inside.ensures.within c.in_ok-extend_from_slice.ensures.items
    (λ i. omega (arith, c.type_inv.piece i)) (subst P (sym c.self.view_is) c.requires) (omega arith)
