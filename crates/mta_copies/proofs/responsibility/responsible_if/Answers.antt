use Rattle.std.proofs.Common.{sym, ap, subst, ◌∙◌}
use Rattle.mta_envelope_recipient.specs.declared.recipient.RecipientFields.{RecipientFields}
use Rattle.mta_envelope_recipient.specs.Recipients.{IsRecipient}
use Rattle.mta_procedures.specs.Copies.{responsible_if}
use Rattle.mta_copies.proofs.Responsible.{responsible_is_recipient, responsible_so}
use Rattle.mta_copies.proofs.responsibility.responsible_if.Goals as goal

pub with_responsibility-requires : goal.with_responsibility-requires
with_responsibility-requires c =
    (subst IsRecipient (sym c.fields-fields.ensures.exact) c.fields-fields.ensures.recipient).indicators

pub from_fields-requires : goal.from_fields-requires
from_fields-requires c =
    let so = responsible_so c.args.responsible c.fields-fields.result.now _ _ _ _ c.in_ok-name.ensures
    c.with_responsibility.ensures c.in_ok-conversion.ensures
    (c.in_ok-extensions.ensures ∙ c.as_slice.ensures) in
    let whole = so ∙ ap (λ (a : RecipientFields). responsible_if c.args.responsible a)
    c.fields-fields.ensures.exact in
    subst IsRecipient (sym whole)
    (responsible_is_recipient c.args.responsible c.args.recipient.now c.fields-fields.ensures.recipient)

pub returns : goal.returns
returns c =
    let so = responsible_so c.args.responsible c.fields-fields.result.now _ _ _ _ c.in_ok-name.ensures
    c.with_responsibility.ensures c.in_ok-conversion.ensures
    (c.in_ok-extensions.ensures ∙ c.as_slice.ensures) in
    c.from_fields.ensures ∙ so
    ∙ ap (λ (a : RecipientFields). responsible_if c.args.responsible a) c.fields-fields.ensures.exact
