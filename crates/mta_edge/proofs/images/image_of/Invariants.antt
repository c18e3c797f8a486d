use Rattle.std.proofs.Common.{◌≡◌, drop}
use Rattle.mta_edge.specs.Images.{image_from}
use Rattle.mta_edge.proofs.images.image_of.Given as goal

abbrev pub invariant-loop-called : goal.invariant-loop-called
invariant-loop-called l = image_from l.choice (drop l.called-index l.log) l.rest l.image ≡ image_from l.choice l.log
    l.choice l.first
