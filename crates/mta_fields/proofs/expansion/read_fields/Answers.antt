use Rattle.std.proofs.Common.{sym, ◌∙◌}
use Rattle.std.proofs.lemmas.Result.{err_from_is_err_and}
use Rattle.mta_ber.specs.Seen.{view}
use Rattle.mta_fields.proofs.Failing.{parts_fail, moment_fails}
use Rattle.mta_fields.proofs.expansion.read_fields.Goals as goal

pub returns-in_err-take_parts : goal.returns-in_err-take_parts
returns-in_err-take_parts c =
    let p = err_from_is_err_and c.from_residual.result c.from_residual.ensures.1 in
    rw (p.1, p.2) (parts_fail c.in_err-take_parts.field-0.0 (view c.args.whole.now)
    (sym c.is_constructed_tag.ensures ∙ c.if-not-is_constructed_tag.false) c.in_err-take_parts.ensures)

pub returns-in_err-moment : goal.returns-in_err-moment
returns-in_err-moment c =
    let p = err_from_is_err_and c.from_residual-in_err-moment.result c.from_residual-in_err-moment.ensures.1 in
    rw (p.1, p.2) (moment_fails c.in_err-moment.field-0.0
    (view c.args.whole.now) c.take_parts.new.state c.in_ok-name.name
    (sym c.is_constructed_tag.ensures ∙ c.if-not-is_constructed_tag.false) c.in_ok-take_parts.ensures
    c.in_ok-name.ensures c.in_err-moment.ensures)
