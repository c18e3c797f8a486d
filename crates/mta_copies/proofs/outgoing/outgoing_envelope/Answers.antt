use Rattle.std.proofs.Common.{◌≤◌, List, [], ◌∷◌, ◌++◌, length, false, sym, ap, subst, ◌∙◌}
use Rattle.mta_fields.specs.declared.trace.TraceFields.{TraceFields}
use Rattle.mta_envelope_recipient.specs.declared.recipient.RecipientFields.{RecipientFields}
use Rattle.mta_envelope.specs.declared.envelope.EnvelopeFields.{EnvelopeFields}
use Rattle.mta_envelope.specs.Envelopes.{IsEnvelope}
use Rattle.mta_procedures.specs.Copies.{outgoing_envelope, responsible_for}
use Rattle.mta_procedures.specs.Situations.{Situation, situation}
use Rattle.mta_procedures.specs.Traces.{own_trace}
use Rattle.mta_copies.proofs.Copied.{outgoing_is_envelope, outgoing_so}
use Rattle.mta_copies.proofs.outgoing.outgoing_envelope.Goals as goal

pub responsible_for-requires : goal.responsible_for-requires
responsible_for-requires c =
    let same = c.as_slice.ensures ∙ ap (λ (e : EnvelopeFields). e.recipients) c.fields-fields.ensures.exact in
    subst (λ (rs : List RecipientFields). length rs ≤ 32767) (sym same)
    c.fields-fields.ensures.envelope.few_recipients

pub from_fields-requires : goal.from_fields-requires
from_fields-requires c =
    let s : Situation = situation c.args.tables.now c.args.arrival c.args.moment in
    let deferred = c.deferred_time-deferred.result in
    let v : EnvelopeFields = c.fields-fields.result.now in
    let so = outgoing_so s v c.in_ok-parts.parts c.args.chosen.now deferred
    c.in_ok-recipients.recipients c.in_ok-trace.trace
    (c.deferred_time-deferred.ensures.exact c.args.tables.now)
    (c.in_ok-recipients.ensures
    ∙ ap (λ (a : List RecipientFields). responsible_for c.args.chosen.now a) c.as_slice.ensures)
    (c.in_ok-trace.ensures
    ∙ ap (λ (a : List TraceFields). a ++ own_trace s deferred false ∷ []) c.as_slice-2.ensures)
    c.in_ok-parts.ensures in
    let whole = so ∙ ap (λ (a : EnvelopeFields). outgoing_envelope s a c.args.chosen.now)
    c.fields-fields.ensures.exact in
    subst IsEnvelope (sym whole)
    (outgoing_is_envelope s c.args.envelope.now c.args.chosen.now c.fields-fields.ensures.envelope c.requires.room)

pub returns : goal.returns
returns c =
    let s : Situation = situation c.args.tables.now c.args.arrival c.args.moment in
    let deferred = c.deferred_time-deferred.result in
    let v : EnvelopeFields = c.fields-fields.result.now in
    let so = outgoing_so s v c.in_ok-parts.parts c.args.chosen.now deferred
    c.in_ok-recipients.recipients c.in_ok-trace.trace
    (c.deferred_time-deferred.ensures.exact c.args.tables.now)
    (c.in_ok-recipients.ensures
    ∙ ap (λ (a : List RecipientFields). responsible_for c.args.chosen.now a) c.as_slice.ensures)
    (c.in_ok-trace.ensures
    ∙ ap (λ (a : List TraceFields). a ++ own_trace s deferred false ∷ []) c.as_slice-2.ensures)
    c.in_ok-parts.ensures in
    c.from_fields.ensures ∙ so
    ∙ ap (λ (a : EnvelopeFields). outgoing_envelope s a c.args.chosen.now) c.fields-fields.ensures.exact
