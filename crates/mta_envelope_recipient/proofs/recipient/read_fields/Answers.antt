use Rattle.std.proofs.Common.{sym, ◌∙◌}
use Rattle.std.proofs.lemmas.Result.{err_from_is_err_and}
use Rattle.mta_ber.specs.Seen.{view}
use Rattle.mta_envelope_recipient.proofs.Failing.{parts_fail}
use Rattle.mta_envelope_recipient.proofs.recipient.read_fields.Goals as goal

pub returns-in_err-take_parts : goal.returns-in_err-take_parts
returns-in_err-take_parts c =
    let p = err_from_is_err_and c.from_residual.result c.from_residual.ensures.1 in
    rw (p.1, p.2) (parts_fail c.in_err-take_parts.field-0.0 (view c.args.whole.now)
    (sym c.is_constructed_tag.ensures ∙ c.if-not-is_constructed_tag.false) c.in_err-take_parts.ensures)
