use Rattle.std.proofs.Common.{◌≡◌, min, length, sym, ap, subst, ◌∙◌, arith}
use Rattle.mta_edge.specs.Held.{HeldDisk}
use Rattle.mta_edge.specs.Images.{LeftAt}
use Rattle.mta_edge.proofs.Chosen.{image_is, image_left}
use Rattle.mta_edge.proofs.memory_disk.MemDisk.image.Goals as goal

pub returns-clause-image : goal.returns-clause-image
returns-clause-image c =
    let fits : c.min-count.result ≡ min c.args.call (length c.deref.result.now) = omega arith in
    image_is c.args.self.now c.deref.result.now c.min-count.result c.args.call c.args.choice c.first.result.now
    c.in_ok-image.image (c.deref.ensures.value ∙ ap (λ (d : HeldDisk). d.log) c.self.view_is) fits c.first.ensures
    c.in_ok-image.ensures

pub returns-clause-left : goal.returns-clause-left
returns-clause-left c = subst (LeftAt c.args.self.now c.args.call) (sym (returns-clause-image c))
    (image_left c.args.self.now c.args.call c.args.choice)
