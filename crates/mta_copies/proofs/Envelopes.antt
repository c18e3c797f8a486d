-- An envelope of kept parts.
use Rattle.std.proofs.Common.{◌≡◌, ℕ, List, Option, ap, ◌∙◌}
use Rattle.mta_envelope_common.specs.declared.kind.ContentKind.{ContentKind}
use Rattle.mta_fields.specs.declared.expansion.ExpansionFields.{ExpansionFields}
use Rattle.mta_fields.specs.declared.extension.ExtFields.{ExtFields}
use Rattle.mta_fields.specs.declared.identifier.MtsIdFields.{MtsIdFields}
use Rattle.mta_fields.specs.declared.trace.TraceFields.{TraceFields}
use Rattle.mta_names.specs.declared.attributes.Attributes.{Attributes}
use Rattle.mta_envelope_recipient.specs.declared.recipient.RecipientFields.{RecipientFields}
use Rattle.mta_envelope.specs.declared.envelope.EnvelopeFields.{EnvelopeFields}
use Rattle.mta_copies.specs.declared.envelope.Kept.{Kept}
use Rattle.mta_copies.specs.Kept.{IsKept}

abbrev of_parts : EnvelopeFields → MtsIdFields → Attributes → Option (List ℕ) → ContentKind
    → Option (List ℕ) → Option (List ℕ) → EnvelopeFields
of_parts w id originator eits content_kind content_id bilateral = record w {
  id = id;
  originator = originator;
  eits = eits;
  content_kind = content_kind;
  content_id = content_id;
  bilateral = bilateral;
}

abbrev other : EnvelopeFields → List RecipientFields → List TraceFields → List ExtFields → List ExpansionFields
    → EnvelopeFields
other v rs t x h = record v { recipients = rs; trace = t; extensions = x; history = h }

pub kept_parts : (v : EnvelopeFields) (k : Kept) (rs : List RecipientFields) (t : List TraceFields)
    (x : List ExtFields) (h : List ExpansionFields) → IsKept v k
    → of_parts (other v rs t x h) k.id k.originator k.eits k.content_kind k.content_id k.bilateral
    ≡ other v rs t x h
kept_parts v k rs t x h is =
    let w = other v rs t x h in
    ap (λ a. of_parts w a k.originator k.eits k.content_kind k.content_id k.bilateral) is.id
    ∙ ap (λ a. of_parts w v.id a k.eits k.content_kind k.content_id k.bilateral) is.originator
    ∙ ap (λ a. of_parts w v.id v.originator a k.content_kind k.content_id k.bilateral) is.eits
    ∙ ap (λ a. of_parts w v.id v.originator v.eits a k.content_id k.bilateral) is.content_kind
    ∙ ap (λ a. of_parts w v.id v.originator v.eits v.content_kind a k.bilateral) is.content_id
    ∙ ap (λ a. of_parts w v.id v.originator v.eits v.content_kind v.content_id a) is.bilateral
