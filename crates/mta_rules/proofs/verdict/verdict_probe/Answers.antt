use Rattle.std.proofs.Common.{◌≡◌, ◌-◌, ◌∙◌, ap, Some}
use Rattle.std.specs.Prelude.{slice_get}
use Rattle.mta_envelope_recipient.specs.declared.recipient.RecipientFields.{RecipientFields}
use Rattle.mta_envelope.specs.declared.envelope.EnvelopeFields.{EnvelopeFields}
use Rattle.mta_procedures.specs.declared.verdict.Verdict.{Verdict}
use Rattle.mta_procedures.specs.Situations.{situation}
use Rattle.mta_procedures.specs.Verdicts.{verdict_of_probe}
use Rattle.mta_rules.proofs.ChosenVerdicts.{chosen_is}
use Rattle.mta_rules.proofs.verdict.verdict_probe.Goals as goal

pub returns : goal.returns
returns c =
    let of : RecipientFields → Verdict =
    λ r. verdict_of_probe c.args.format (situation c.args.tables.now c.args.arrival c.args.moment)
    c.args.probe.now.envelope r in
    let all = c.args.probe.now.envelope.recipients in
    let chosen = c.fields-chosen.result.now in
    λ (r : RecipientFields) (h : slice_get all (c.args.recipient - 1) ≡ Some r).
    c.verdict_on_probe.ensures
    ∙ ap of (chosen_is c.as_slice-recipients.result.now all
    (c.args.recipient - 1) c.index-recipients-recipient.result chosen r
    (c.as_slice-recipients.ensures ∙ ap
    (λ (e : EnvelopeFields). e.recipients) c.fields.ensures.exact) c.index-recipients-recipient.is
    c.fields-chosen.ensures.exact h)
