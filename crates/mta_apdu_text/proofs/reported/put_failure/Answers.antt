use Rattle.std.proofs.Common.{[], ◌∷◌, ◌++◌, ap, ◌∙◌}
use Rattle.std.specs.Prelude.{codes, decimal}
use Rattle.std.proofs.lemmas.Result.{on_ok_weaker}
use Rattle.mta_apdu_text.specs.Reporteds.{diagnostic_text, failure_text}
use Rattle.mta_apdu_text.proofs.Chains.{four}
use Rattle.mta_apdu_text.proofs.reported.put_failure.Goals as goal

pub returns : goal.returns
unfolding failure_text
returns c =
    on_ok_weaker c.put_diagnostic.result
    (four c.args.out.now (codes "non-delivery ") (decimal c.args.reason) (32 ∷ [])
    (diagnostic_text c.args.diagnostic) c.extend.new.self c.put_number.new.out c.extend-2.new.self
    c.put_diagnostic.new.out
    c.in_ok-extend.ensures.ok (c.in_ok-put_number.ensures.ok
    ∙ ap (λ n. c.extend.new.self ++ decimal n) c.number.ensures.exact) c.in_ok-extend-2.ensures.ok)
    c.put_diagnostic.ensures
