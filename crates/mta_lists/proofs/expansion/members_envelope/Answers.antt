use Rattle.std.proofs.Common.{◌<◌, ◌^◌, List, [], ◌∷◌, ◌++◌, length, None, true, sym}
use Rattle.std.proofs.Common.{ap, subst, ◌∙◌}
use Rattle.std.specs.List.{flat_map}
use Rattle.mta_names.specs.declared.attributes.Attributes.{Attributes}
use Rattle.mta_fields.specs.declared.expansion.ExpansionFields.{ExpansionFields}
use Rattle.mta_fields.specs.declared.extension.ExtFields.{ExtFields}
use Rattle.mta_fields.specs.declared.trace.TraceFields.{TraceFields}
use Rattle.mta_fields.specs.Expansions.{canonical_expansion}
use Rattle.mta_fields.specs.ExtensionFields.{IsElement}
use Rattle.mta_envelope.specs.declared.envelope.EnvelopeFields.{EnvelopeFields}
use Rattle.mta_envelope.specs.Envelopes.{IsEnvelope}
use Rattle.mta_procedures.specs.Members.{expanded_history, history_octets, members_envelope, members_from}
use Rattle.mta_procedures.specs.Members.{with_history}
use Rattle.mta_procedures.specs.Situations.{Situation, situation}
use Rattle.mta_procedures.specs.Traces.{own_trace}
use Rattle.mta_lists.proofs.Envelopes.{history_element, members_is_envelope, members_so}
use Rattle.mta_lists.proofs.expansion.members_envelope.Goals as goal

pub with_history-requires : goal.with_history-requires
with_history-requires c =
    subst IsElement (sym c.in_ok-value.ensures.exact)
    (history_element c.as_slice-3.result.now c.in_ok-value.ensures.counted)

pub from_fields-requires : goal.from_fields-requires
from_fields-requires c =
    let s : Situation = situation c.args.tables.now c.args.arrival c.args.moment in
    let l = c.args.list.now in
    let v : EnvelopeFields = c.fields-fields.result.now in
    let e : EnvelopeFields = c.args.envelope.now in
    let so = members_so s l v c.in_ok-parts.parts c.args.recipient.now _ _ c.in_ok-value.value _ _
    (c.in_ok-recipients.ensures ∙ ap
    (λ (a : List Attributes). members_from 1 c.args.recipient.now a) c.as_slice.ensures)
    (c.in_ok-trace.ensures ∙ ap (λ (a : List TraceFields). a ++ own_trace s None true ∷ []) c.as_slice-2.ensures)
    (c.in_ok-history.ensures c.args.tables.now)
    (c.in_ok-value.ensures.exact ∙ ap history_octets c.as_slice-3.ensures)
    (c.in_ok-extensions.ensures
    ∙ ap (λ (a : List ExtFields). with_history c.in_ok-value.value a) c.as_slice-4.ensures)
    c.in_ok-parts.ensures in
    let whole = so ∙ ap (λ (a : EnvelopeFields). members_envelope s l a c.args.recipient.now)
    c.fields-fields.ensures.exact in
    let told = c.as_slice-3.ensures ∙ c.in_ok-history.ensures c.args.tables.now
    ∙ ap (λ (a : EnvelopeFields). expanded_history s l a) c.fields-fields.ensures.exact in
    let counted : length (flat_map canonical_expansion (expanded_history s l e)) < 2 ^ 64 =
    subst (λ (a : List ExpansionFields). length (flat_map canonical_expansion a) < 2 ^ 64) told
    c.in_ok-value.ensures.counted in
    subst IsEnvelope (sym whole)
    (members_is_envelope s l e c.args.recipient.now c.fields-fields.ensures.envelope c.requires.list
    c.requires.some c.requires.few c.requires.trace c.requires.history c.requires.moment counted)

pub returns : goal.returns
returns c =
    let s : Situation = situation c.args.tables.now c.args.arrival c.args.moment in
    let l = c.args.list.now in
    let v : EnvelopeFields = c.fields-fields.result.now in
    let so = members_so s l v c.in_ok-parts.parts c.args.recipient.now _ _ c.in_ok-value.value _ _
    (c.in_ok-recipients.ensures ∙ ap
    (λ (a : List Attributes). members_from 1 c.args.recipient.now a) c.as_slice.ensures)
    (c.in_ok-trace.ensures ∙ ap (λ (a : List TraceFields). a ++ own_trace s None true ∷ []) c.as_slice-2.ensures)
    (c.in_ok-history.ensures c.args.tables.now)
    (c.in_ok-value.ensures.exact ∙ ap history_octets c.as_slice-3.ensures)
    (c.in_ok-extensions.ensures
    ∙ ap (λ (a : List ExtFields). with_history c.in_ok-value.value a) c.as_slice-4.ensures)
    c.in_ok-parts.ensures in
    c.from_fields.ensures ∙ so
    ∙ ap (λ (a : EnvelopeFields). members_envelope s l a c.args.recipient.now) c.fields-fields.ensures.exact
