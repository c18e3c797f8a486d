use Rattle.std.proofs.Common.{sym, ap, ◌∙◌}
use Rattle.std.proofs.lemmas.Result.{err_from_is_err_and}
use Rattle.mta_ber.specs.Seen.{view}
use Rattle.mta_ber.specs.Times.{timed, moment_of}
use Rattle.mta_ber.proofs.TimeLaws.{utc_refused, utc_line}
use Rattle.mta_ber.proofs.view.View.utc_of.Goals as goal

pub returns-in_err-line-clause-exact : goal.returns-in_err-line-clause-exact
returns-in_err-line-clause-exact c =
    let p = err_from_is_err_and c.from_residual.result c.from_residual.ensures.1 in
    rw (p.1, p.2) (sym (utc_refused (view c.args.self.now) c.in_err-line.field-0.0 (sym c.in_err-line.ensures)))

pub returns-in-None-clause-exact : goal.returns-in-None-clause-exact
returns-in-None-clause-exact c =
    sym (utc_line (view c.args.self.now) c.in_ok-line.line (sym c.in_ok-line.ensures)
    ∙ ap (λ t. timed c.args.self.now.at (moment_of t)) (sym c.as_slice.ensures)
    ∙ ap (timed c.args.self.now.at) (sym c.moment_of_text.ensures.exact ∙ c.in-None.is))

pub returns-in-Some-clause-exact : goal.returns-in-Some-clause-exact
returns-in-Some-clause-exact c =
    sym (utc_line (view c.args.self.now) c.in_ok-line.line (sym c.in_ok-line.ensures)
    ∙ ap (λ t. timed c.args.self.now.at (moment_of t)) (sym c.as_slice.ensures)
    ∙ ap (timed c.args.self.now.at) (sym c.moment_of_text.ensures.exact ∙ c.in-Some.is))
