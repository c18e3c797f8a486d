use Rattle.std.proofs.Common.{◌≡◌, ◌-◌, ◌∙◌, ap, Some}
use Rattle.std.specs.Prelude.{slice_get}
use Rattle.mta_envelope_recipient.specs.declared.recipient.RecipientFields.{RecipientFields}
use Rattle.mta_envelope.specs.declared.envelope.EnvelopeFields.{EnvelopeFields}
use Rattle.mta_envelope.specs.Messages.{message_value}
use Rattle.mta_procedures.specs.declared.verdict.Verdict.{Verdict}
use Rattle.mta_procedures.specs.Situations.{situation}
use Rattle.mta_procedures.specs.Verdicts.{verdict_of_message}
use Rattle.mta_rules.proofs.ChosenVerdicts.{chosen_is}
use Rattle.mta_rules.proofs.verdict.verdict_message.Goals as goal

pub returns : goal.returns
returns c =
    let of : RecipientFields → Verdict =
    λ r. verdict_of_message c.args.format (situation c.args.tables.now c.args.arrival c.args.moment)
    (message_value c.args.message.now) r c.args.members_length in
    let all = c.args.message.now.envelope.recipients in
    let chosen = c.fields-chosen.result.now in
    λ (r : RecipientFields) (h : slice_get all (c.args.recipient - 1) ≡ Some r).
    c.verdict_on_message.ensures
    ∙ ap of (chosen_is c.as_slice-recipients.result.now all
    (c.args.recipient - 1) c.index-recipients-recipient.result chosen r
    (c.as_slice-recipients.ensures ∙ ap
    (λ (e : EnvelopeFields). e.recipients) c.fields.ensures.exact) c.index-recipients-recipient.is
    c.fields-chosen.ensures.exact h)
