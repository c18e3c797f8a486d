use Rattle.std.proofs.Common.{◌++◌, ap, ◌∙◌}
use Rattle.std.specs.Prelude.{codes, decimal}
use Rattle.std.proofs.lemmas.Result.{on_ok_weaker}
use Rattle.mta_apdu_text.proofs.Chains.{five}
use Rattle.mta_show.specs.Lanes.{partner_text, association_text}
use Rattle.mta_show.proofs.lanes.put_association.Goals as goal

pub returns : goal.returns
unfolding association_text
returns c =
    let lane = c.args.lane.now in
    on_ok_weaker c.put_number-2.result
    (λ e. five c.args.out.now (codes "lane ") (decimal lane.number) (partner_text lane) (codes " generation ")
    (decimal lane.generation) c.extend.new.self c.put_number.new.out c.put_partner.new.out c.extend-2.new.self
    c.put_number-2.new.out c.in_ok-extend.ensures.ok
    (c.in_ok-put_number.ensures.ok ∙ ap (λ n. c.extend.new.self ++ decimal n) (c.from.ensures ∙ c.number.ensures))
    c.in_ok-put_partner.ensures c.in_ok-extend-2.ensures.ok
    (e ∙ ap (λ n. c.extend-2.new.self ++ decimal n) c.generation.ensures))
    c.put_number-2.ensures.ok
