use Rattle.std.proofs.lemmas.Result.{err_from_is_err_and}
use Rattle.mta_envelope_recipient.proofs.Failing.{number_fails, indicators_fail}
use Rattle.mta_envelope_recipient.proofs.recipient.finish.Goals as goal

pub returns-in_err-number : goal.returns-in_err-number
returns-in_err-number c =
    let p = err_from_is_err_and c.from_residual-in_err-number.result c.from_residual-in_err-number.ensures.1 in
    rw (p.1, p.2) (number_fails c.in_err-number.field-0.0 c.args.at c.args.parts c.in_ok-name.name c.in_ok-name.ensures
    c.in_err-number.ensures)

pub returns-in_err-indicators : goal.returns-in_err-indicators
returns-in_err-indicators c =
    let p = err_from_is_err_and c.from_residual-in_err-indicators.result c.from_residual-in_err-indicators.ensures.1 in
    rw (p.1, p.2) (indicators_fail c.in_err-indicators.field-0.0 c.args.at c.args.parts c.in_ok-name.name
    c.in_ok-number.number c.in_ok-name.ensures c.in_ok-number.ensures c.in_err-indicators.ensures)
