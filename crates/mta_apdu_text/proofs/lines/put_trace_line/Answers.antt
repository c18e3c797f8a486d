-- The parts, one behind the other, are the line.
use Rattle.std.proofs.Common.{[], ◌∷◌, ◌++◌, ap, ◌∙◌}
use Rattle.std.specs.Prelude.{codes}
use Rattle.std.proofs.lemmas.Result.{on_ok_weaker}
use Rattle.mta_apdu_text.specs.Pieces.{domain_text, moment_text, word_if}
use Rattle.mta_apdu_text.specs.Lines.{action_text, trace_line}
use Rattle.mta_apdu_text.proofs.Chains.{eight}
use Rattle.mta_apdu_text.proofs.lines.put_trace_line.Goals as goal

pub returns : goal.returns
unfolding trace_line
returns c =
    let t = c.fields-fields.result.now in
    on_ok_weaker c.extend-3.result
    (λ e. eight c.args.out.now (codes "trace ") (domain_text t.domain) (32 ∷ []) (moment_text t.supplied.arrival)
    (action_text t.supplied.action) (word_if t.supplied.redirected (codes " redirected"))
    (word_if t.supplied.dl (codes " dl")) (10 ∷ [])
    c.extend.new.self c.put_domain.new.out c.extend-2.new.self c.put_moment.new.out c.put_action.new.out
    c.put_word_if.new.out c.put_word_if-2.new.out c.extend-3.new.self
    c.in_ok-extend.ensures.ok c.in_ok-put_domain.ensures.ok c.in_ok-extend-2.ensures.ok c.in_ok-put_moment.ensures.ok
    c.in_ok-put_action.ensures c.in_ok-put_word_if.ensures.ok c.in_ok-put_word_if-2.ensures.ok e
    ∙ ap (λ x. c.args.out.now ++ trace_line x) c.fields-fields.ensures.exact)
    c.extend-3.ensures.ok
