use Rattle.std.proofs.Common.{◌∷◌, [], sym, ap, subst, ◌∙◌}
use Rattle.mta_envelope.specs.declared.envelope.EnvelopeFields.{EnvelopeFields}
use Rattle.mta_envelope.specs.Envelopes.{IsEnvelope}
use Rattle.mta_report.specs.ReportValues.{IsReport}
use Rattle.mta_procedures.specs.Reports.{reported_of}
use Rattle.mta_rules.specs.About.{about_of, told}
use Rattle.mta_rules.proofs.Made.{report_is_one, made_so}
use Rattle.mta_rules.proofs.report.report_to.Goals as goal

pub from_fields-requires : goal.from_fields-requires
from_fields-requires c =
    let v : EnvelopeFields = c.fields-envelope.result.now in
    let so = made_so c.args.domain.now c.args.number c.args.arrival v c.args.recipient.now c.args.outcome
    c.args.destination.now c.told-whole.result c.in_ok-made.made c.in_ok-name.name c.in_ok-recipients.recipients
    c.in_ok-made.ensures c.in_ok-name.ensures c.in_ok-recipients.ensures c.told-whole.ensures in
    subst IsReport (sym so)
    (report_is_one c.args.domain.now c.args.number c.args.arrival v c.args.recipient.now c.args.outcome
    c.args.destination.now (subst IsEnvelope (sym c.fields-envelope.ensures.exact) c.fields-envelope.ensures.envelope))

pub returns : goal.returns
returns c =
    let v : EnvelopeFields = c.fields-envelope.result.now in
    let so = made_so c.args.domain.now c.args.number c.args.arrival v c.args.recipient.now c.args.outcome
    c.args.destination.now c.told-whole.result c.in_ok-made.made c.in_ok-name.name c.in_ok-recipients.recipients
    c.in_ok-made.ensures c.in_ok-name.ensures c.in_ok-recipients.ensures c.told-whole.ensures in
    c.from_fields.ensures ∙ so
    ∙ ap (λ (a : EnvelopeFields). told (about_of c.args.domain.now c.args.number a) c.args.destination.now
    (reported_of c.args.arrival c.args.recipient.now c.args.outcome ∷ [])) c.fields-envelope.ensures.exact
