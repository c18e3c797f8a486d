use Rattle.std.proofs.Common.{◌≡◌, ◌∙◌}
use Rattle.mta_envelope.specs.declared.envelope.EnvelopeFields.{EnvelopeFields}
use Rattle.mta_copies.proofs.Copied.{if_ok_so, with_parts, with_two, same_others}
use Rattle.mta_copies.proofs.outgoing.envelope_for.Goals as goal

pub returns : goal.returns
returns c =
    let v : EnvelopeFields = c.args.fields.now in
    let so = same_others v c.args.recipients c.args.trace c.in_ok-extensions.extensions c.in_ok-history.history
    (c.in_ok-extensions.ensures ∙ c.as_slice.ensures) (c.in_ok-history.ensures ∙ c.as_slice-2.ensures) in
    if_ok_so c.envelope_with.result
    (λ e. e ≡ with_parts v c.args.recipients c.args.trace c.in_ok-extensions.extensions c.in_ok-history.history)
    (λ e. e ≡ with_two v c.args.recipients c.args.trace) (λ e is. is ∙ so) c.envelope_with.ensures
