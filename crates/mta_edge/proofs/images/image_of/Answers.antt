use Rattle.std.proofs.Common.{◌≡◌, ◌+◌, ◌∷◌, drop, sym, ap, ◌∙◌}
use Rattle.std.proofs.lemmas.List.{drop_more, drop_all}
use Rattle.mta_edge.specs.Images.{image_from, image_after}
use Rattle.mta_edge.proofs.Chosen.{image_from-more, image_from-none}
use Rattle.mta_edge.proofs.images.image_of.Goals as goal

pub loop-called-preserved : goal.loop-called-preserved
loop-called-preserved c =
    let i = c.loop-called.called-index in
    let item = c.called-item.result in
    let rest = drop (i + 1) c.args.log.now in
    let front : drop i c.args.log.now ≡ item ∷ rest = drop_more c.args.log.now i item c.loop-called-test.true
    ∙ ap (λ x. x ∷ rest) (sym c.called-item.is) in
    let step = image_from-more c.args.choice item rest c.loop-called.rest c.rest-rest.result c.loop-called.image
    c.in_ok-image-2.image
    (c.in_ok-image-2.ensures ∙ ap (image_after item.before item.done c.loop-called.rest) c.as_slice.ensures)
    c.rest-rest.ensures in
    sym step ∙ ap (λ log. image_from c.args.choice log c.loop-called.rest c.loop-called.image) (sym front)
    ∙ c.loop-called.invariant

pub returns : goal.returns
returns c =
    sym (image_from-none c.args.choice c.loop-called.rest c.loop-called.image)
    ∙ ap (λ log. image_from c.args.choice log c.loop-called.rest c.loop-called.image)
    (sym (drop_all c.loop-called.called-index c.args.log.now c.loop-called-test.false)) ∙ c.loop-called.invariant
