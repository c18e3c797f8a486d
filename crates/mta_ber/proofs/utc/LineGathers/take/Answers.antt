use Rattle.std.proofs.Common.{◌≤◌, ◌∷◌, [], ◌++◌, get_or, take, length, sym, ap, ◌∙◌, arith}
use Rattle.std.proofs.lemmas.List.{length-take, append-nil, take_more}
use Rattle.mta_ber.specs.Times.{kept}
use Rattle.mta_ber.proofs.TimeLaws.{kept_all, kept_more}
use Rattle.mta_ber.proofs.utc.LineGathers.take.Goals as goal

pub loop-octet-init : goal.loop-octet-init
loop-octet-init c =
    let few : length c.args.self.now ≤ 18 =
    omega (
      arith,
      ap length (sym c.self.view_is),
      length-take c.self.inside.count c.self.inside.octets,
      c.self.invariant,
    ) in
    sym (ap kept (append-nil c.args.self.now) ∙ kept_all c.args.self.now few)

pub loop-octet-preserved : goal.loop-octet-preserved
loop-octet-preserved c =
    let content = c.args.part.now.content.now in
    let i = c.loop-octet.octet-index in
    c.push.ensures
    ∙ ap (λ s. kept (s ++ get_or content i 0 ∷ [])) c.loop-octet.invariant
    ∙ kept_more c.args.self.now (take i content) (get_or content i 0)
    ∙ ap (λ t. kept (c.args.self.now ++ t)) (sym (take_more content i 0 c.loop-octet-test.true))
