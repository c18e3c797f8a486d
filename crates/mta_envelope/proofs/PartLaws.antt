-- The components of an envelope are read exactly where they are spelled.
use Rattle.std.proofs.Common.{◌≡◌, ℕ, zero, suc, ◌≤◌, Bool, true, false, List, Option, Some, None, Ok, refl, sym, ap}
use Rattle.std.proofs.Common.{subst, ◌∙◌, inl, inr, ◌⊎◌, arith}
use Rattle.std.specs.Prelude.{◌&&◌, ◌||◌, not}
use Rattle.mta_ber.specs.declared.tag.Tag.{Tag}
use Rattle.mta_ber.specs.Element.{Part}
use Rattle.mta_ber.specs.Forms.{is_primitive_tag, is_constructed_tag}
use Rattle.mta_ber.specs.Head.{◌>>=◌}
use Rattle.mta_ber.specs.Moments.{SpellsMoment}
use Rattle.mta_ber.specs.Octet.{IsOctets}
use Rattle.mta_ber.specs.Parts.{is_tag}
use Rattle.mta_ber.specs.Times.{utc_in}
use Rattle.mta_ber.specs.declared.text.TextClass.TheVariants.{Printable}
use Rattle.mta_ber.proofs.ComponentLaws.{StepSound, StepFull}
use Rattle.mta_ber.proofs.HeadLaws.{and_true}
use Rattle.mta_ber.proofs.MomentLaws.{utc_sound, utc_full}
use Rattle.mta_ber.proofs.FormLaws.{primitive_is, constructed_is}
use Rattle.mta_ber.proofs.Steps.{bind_ok, ok_is}
use Rattle.mta_ber.proofs.StringLaws.{text_sound, text_full}
use Rattle.mta_names.specs.Names.{name_in, SpellsName}
use Rattle.mta_names.specs.Strings.{number_in, SpellsNumber}
use Rattle.mta_names.proofs.ExtensionLaws.{number_sound, number_full, number_small}
use Rattle.mta_names.proofs.NameLaws.{name_sound, name_full}
use Rattle.mta_names.proofs.Tools.{tag_is, picked, not_none}
use Rattle.mta_fields.specs.Identifiers.{id_in, SpellsMtsId}
use Rattle.mta_fields.specs.Traces.{raw_in}
use Rattle.mta_fields.proofs.IdentifierLaws.{id_sound, id_full}
use Rattle.mta_envelope_common.specs.ContentIdentifiers.{content_id_in, SpellsContentId}
use Rattle.mta_envelope_common.specs.ContentKinds.{is_content_kind, content_kind_in, SpellsContentKind}
use Rattle.mta_envelope_common.specs.Indicators.{indicators_in, SpellsIndicators}
use Rattle.mta_envelope_common.specs.TraceLists.{trace_list_in, SpellsTraceList}
use Rattle.mta_envelope_common.proofs.KindLaws.{kind_sound, kind_full}
use Rattle.mta_envelope_common.proofs.IndicatorLaws.{indicators_sound, indicators_full}
use Rattle.mta_envelope_common.proofs.TraceListLaws.{trace_list_sound, trace_list_full}
use Rattle.mta_envelope_extensions.specs.Told.{extensions_in, SpellsExtensions}
use Rattle.mta_envelope_extensions.proofs.ToldLaws.{extensions_sound, extensions_full}
use Rattle.mta_envelope_recipient.specs.Lists.{recipients_in, SpellsRecipients}
use Rattle.mta_envelope_recipient.proofs.ListLaws.{recipients_sound, recipients_full}
use Rattle.mta_envelope_recipient.proofs.RecipientLaws.{once_sound, once_full}
use Rattle.mta_envelope.specs.declared.priority.Priority.{Priority}
use Rattle.mta_envelope.specs.declared.priority.Priority.TheVariants.{Normal, NonUrgent, Urgent}
use Rattle.mta_envelope.specs.declared.parts.EnvelopePart.{EnvelopePart}
use Rattle.mta_envelope.specs.declared.parts.EnvelopePart.TheVariants.{Originator, Identifier, InformationTypes}
use Rattle.mta_envelope.specs.declared.parts.EnvelopePart.TheVariants.{ContentType, MessagePriority, Indicators}
use Rattle.mta_envelope.specs.declared.parts.EnvelopePart.TheVariants.{TraceList, ContentIdentifier, Deferral, Length}
use Rattle.mta_envelope.specs.declared.parts.EnvelopePart.TheVariants.{Bilateral, RecipientList, ExtensionSet}
use Rattle.mta_envelope.specs.declared.parts.EnvelopeParts.{EnvelopeParts}
use Rattle.mta_envelope.specs.Priorities.{priority_number, priority_of, priority_in, SpellsPriority}
use Rattle.mta_envelope.specs.Components.{longest, length_in, context_part_of, envelope_part_of, is_envelope_tag}
use Rattle.mta_envelope.specs.Components.{with_originator, with_id, with_eits, with_content_kind, with_priority}
use Rattle.mta_envelope.specs.Components.{with_indicators, with_trace, with_content_id, with_deferral, with_length}
use Rattle.mta_envelope.specs.Components.{with_bilateral, with_recipients, with_extensions, envelope_part_in}
use Rattle.mta_envelope.specs.Components.{envelope_step_of, envelope_step, MakesEnvelopePart, MakesEnvelope}

-- ---- priorities and lengths

number_of_priority : (n : ℕ) → n ≤ 2 → priority_number (priority_of n) ≡ n
number_of_priority zero h = refl
number_of_priority (suc zero) h = refl
number_of_priority (suc (suc zero)) h = refl
number_of_priority (suc (suc (suc n))) h = absurd (omega arith)

priority_of_number : (v : Priority) → priority_of (priority_number v) ≡ v
priority_of_number Normal = refl
priority_of_number NonUrgent = refl
priority_of_number Urgent = refl

priority_sound : (v : Priority) (p : Part) → priority_in p ≡ Ok v → SpellsPriority p.tag.constructed p.content v
priority_sound v p e =
    let b = bind_ok (number_in 0 2 p) (λ n. Ok (priority_of n)) v e in
    let s = number_sound 0 2 b.0 p b.1 in
    let small = number_small 0 2 b.0 p.tag.constructed p.content s in
    let same : b.0 ≡ priority_number v = sym (number_of_priority b.0 small)
    ∙ ap priority_number (ok_is (priority_of b.0) v b.2) in
    record { spelled = subst (λ n. SpellsNumber 0 2 p.tag.constructed p.content n) same s }

priority_full : (v : Priority) (p : Part) → SpellsPriority p.tag.constructed p.content v → priority_in p ≡ Ok v
priority_full v p h = ap (λ r. r >>= λ n. Ok (priority_of n)) (number_full 0 2 (priority_number v) p h.spelled)
    ∙ ap (λ (x : Priority). Ok x) (priority_of_number v)

length_sound : (n : ℕ) (p : Part) → length_in p ≡ Ok n → SpellsNumber 0 longest p.tag.constructed p.content n
unfolding length_in
length_sound n p e = number_sound 0 longest n p e

length_full : (n : ℕ) (p : Part) → SpellsNumber 0 longest p.tag.constructed p.content n → length_in p ≡ Ok n
unfolding length_in
length_full n p h = number_full 0 longest n p h

-- ---- tags

abbrev HasTag : Bool → Tag → EnvelopePart → Type 0
HasTag b t k = is_envelope_tag b k t ≡ true

context_tagged : (b : Bool) (t : Tag) (k : EnvelopePart) → context_part_of b t ≡ Some k → HasTag b t k
context_tagged b t =
    picked (HasTag b t) (is_tag 2 0 t && not b) Deferral _ (λ e. e)
    (picked (HasTag b t) (is_primitive_tag 2 0 t && b) Length _ (λ e. e)
    (picked (HasTag b t) (is_tag 2 1 t) Bilateral _ (λ e. e)
    (picked (HasTag b t) (is_constructed_tag 2 2 t) RecipientList _ (λ e. e)
    (picked (HasTag b t) (is_constructed_tag 2 3 t) ExtensionSet _ (λ e. e) (not_none (HasTag b t))))))

tagged : (b : Bool) (t : Tag) (k : EnvelopePart) → envelope_part_of b t ≡ Some k → HasTag b t k
tagged b t =
    picked (HasTag b t) (is_constructed_tag 1 0 t) Originator _ (λ e. e)
    (picked (HasTag b t) (is_constructed_tag 1 4 t) Identifier _ (λ e. e)
    (picked (HasTag b t) (is_tag 1 5 t) InformationTypes _ (λ e. e)
    (picked (HasTag b t) (is_content_kind t) ContentType _ (λ e. e)
    (picked (HasTag b t) (is_primitive_tag 1 7 t && not b) MessagePriority _ (λ e. e)
    (picked (HasTag b t) (is_tag 1 8 t) Indicators _ (λ e. e)
    (picked (HasTag b t) (is_constructed_tag 1 9 t) TraceList _ (λ e. e)
    (picked (HasTag b t) (is_tag 1 10 t) ContentIdentifier _ (λ e. e) (context_tagged b t))))))))

either : (a b : Bool) → (a || b) ≡ true → (a ≡ true) ⊎ (b ≡ true)
either true b e = inl refl
either false b e = inr e

is_message : (b : Bool) → not b ≡ true → b ≡ false
is_message true e = absurd cc
is_message false e = refl

found : (k : EnvelopePart) (b : Bool) (t : Tag) → HasTag b t k → envelope_part_of b t ≡ Some k
found Originator b t h = let e = constructed_is 1 0 t h in rw (e.0, e.1, e.2) refl
found Identifier b t h = let e = constructed_is 1 4 t h in rw (e.0, e.1, e.2) refl
found InformationTypes b t h = let e = tag_is 1 5 t h in rw (e.0, e.1) refl
found ContentType b t h =
    elim (either (is_primitive_tag 1 6 t) (is_primitive_tag 0 6 t) h) [
      | inl m ↦ (let e = primitive_is 1 6 t m in rw (e.0, e.1, e.2) refl)
      | inr m ↦ (let e = primitive_is 0 6 t m in rw (e.0, e.1, e.2) refl)
    ]
found MessagePriority b t h = let a = and_true (is_primitive_tag 1 7 t) (not b) h in let e = primitive_is 1 7 t a.0 in
    let m = is_message b a.1 in rw (e.0, e.1, e.2, m) refl
found Indicators b t h = let e = tag_is 1 8 t h in rw (e.0, e.1) refl
found TraceList b t h = let e = constructed_is 1 9 t h in rw (e.0, e.1, e.2) refl
found ContentIdentifier b t h = let e = tag_is 1 10 t h in rw (e.0, e.1) refl
found Deferral b t h = let a = and_true (is_tag 2 0 t) (not b) h in let e = tag_is 2 0 t a.0 in let m =
    is_message b a.1 in rw (e.0, e.1, m) refl
found Length b t h = let a = and_true (is_primitive_tag 2 0 t) b h in let e = primitive_is 2 0 t a.0 in let m = a.1 in
    rw (e.0, e.1, e.2, m) refl
found Bilateral b t h = let e = tag_is 2 1 t h in rw (e.0, e.1) refl
found RecipientList b t h = let e = constructed_is 2 2 t h in rw (e.0, e.1, e.2) refl
found ExtensionSet b t h = let e = constructed_is 2 3 t h in rw (e.0, e.1, e.2) refl

-- ---- one component

part_sound : (k : EnvelopePart) (s t : EnvelopeParts) (p : Part) → p.depth ≤ 16 → IsOctets p.content
    → envelope_part_in k s p ≡ Ok t → MakesEnvelopePart k p.depth s p.tag p.content p.octets t
part_sound Originator s t p d o e = once_sound s.originator p.at (name_in p) (with_originator s) t
    (SpellsName p.depth p.tag.constructed p.content) (λ x r. name_sound x p o r) e
part_sound Identifier s t p d o e = once_sound s.id p.at (id_in p) (with_id s) t (SpellsMtsId p.depth p.tag p.content)
    (λ x r. id_sound x p o r) e
part_sound InformationTypes s t p d o e = once_sound s.eits p.at (raw_in p) (with_eits s) t (λ x. x ≡ p.octets)
    (λ x r. sym (ok_is p.octets x r)) e
part_sound ContentType s t p d o e = once_sound s.content_kind p.at (content_kind_in p) (with_content_kind s) t
    (SpellsContentKind p.depth p.tag p.content p.octets) (λ x r. kind_sound x p r) e
part_sound MessagePriority s t p d o e = once_sound s.priority p.at (priority_in p) (with_priority s) t
    (SpellsPriority p.tag.constructed p.content) (λ x r. priority_sound x p r) e
part_sound Indicators s t p d o e = once_sound s.indicators p.at (indicators_in p) (with_indicators s) t
    (SpellsIndicators p.depth p.tag.constructed p.content) (λ x r. indicators_sound x p d o r) e
part_sound TraceList s t p d o e =
    once_sound s.trace p.at (trace_list_in p) (with_trace s) t (SpellsTraceList p.depth p.tag.constructed p.content)
    (λ x r. trace_list_sound x p o r) e
part_sound ContentIdentifier s t p d o e = once_sound s.content_id p.at (content_id_in p) (with_content_id s) t
    (SpellsContentId p.depth p.tag.constructed p.content) (λ x r. text_sound Printable 1 16 p x d o r) e
part_sound Deferral s t p d o e =
    once_sound s.deferral p.at (utc_in p) (with_deferral s) t (SpellsMoment p.depth p.tag.constructed p.content)
    (λ x r. utc_sound p x d o r) e
part_sound Length s t p d o e =
    once_sound s.length p.at (length_in p) (with_length s) t (SpellsNumber 0 longest p.tag.constructed p.content)
    (λ x r. length_sound x p r) e
part_sound Bilateral s t p d o e = once_sound s.bilateral p.at (raw_in p) (with_bilateral s) t (λ x. x ≡ p.octets)
    (λ x r. sym (ok_is p.octets x r)) e
part_sound RecipientList s t p d o e = once_sound s.recipients p.at (recipients_in p) (with_recipients s) t
    (SpellsRecipients p.depth p.tag.constructed p.content) (λ x r. recipients_sound x p o r) e
part_sound ExtensionSet s t p d o e = once_sound s.extensions p.at (extensions_in p) (with_extensions s) t
    (SpellsExtensions p.depth p.tag.constructed p.content) (λ x r. extensions_sound x p o r) e

part_full : (k : EnvelopePart) (s t : EnvelopeParts) (p : Part) → p.depth ≤ 16
    → MakesEnvelopePart k p.depth s p.tag p.content p.octets t → envelope_part_in k s p ≡ Ok t
part_full Originator s t p d h = once_full s.originator p.at (name_in p) (with_originator s) t
    (SpellsName p.depth p.tag.constructed p.content) (λ x r. name_full x p r) h
part_full Identifier s t p d h = once_full s.id p.at (id_in p) (with_id s) t (SpellsMtsId p.depth p.tag p.content)
    (λ x r. id_full x p r) h
part_full InformationTypes s t p d h = once_full s.eits p.at (raw_in p) (with_eits s) t (λ x. x ≡ p.octets)
    (λ x r. ap (λ (o : List ℕ). Ok o) (sym r)) h
part_full ContentType s t p d h = once_full s.content_kind p.at (content_kind_in p) (with_content_kind s) t
    (SpellsContentKind p.depth p.tag p.content p.octets) (λ x r. kind_full x p r) h
part_full MessagePriority s t p d h = once_full s.priority p.at (priority_in p) (with_priority s) t
    (SpellsPriority p.tag.constructed p.content) (λ x r. priority_full x p r) h
part_full Indicators s t p d h = once_full s.indicators p.at (indicators_in p) (with_indicators s) t
    (SpellsIndicators p.depth p.tag.constructed p.content) (λ x r. indicators_full x p d r) h
part_full TraceList s t p d h =
    once_full s.trace p.at (trace_list_in p) (with_trace s) t (SpellsTraceList p.depth p.tag.constructed p.content)
    (λ x r. trace_list_full x p r) h
part_full ContentIdentifier s t p d h = once_full s.content_id p.at (content_id_in p) (with_content_id s) t
    (SpellsContentId p.depth p.tag.constructed p.content) (λ x r. text_full Printable 1 16 p x d r) h
part_full Deferral s t p d h = once_full s.deferral p.at (utc_in p) (with_deferral s) t
    (SpellsMoment p.depth p.tag.constructed p.content) (λ x r. utc_full p x d r) h
part_full Length s t p d h = once_full s.length p.at (length_in p) (with_length s) t
    (SpellsNumber 0 longest p.tag.constructed p.content) (λ x r. length_full x p r) h
part_full Bilateral s t p d h = once_full s.bilateral p.at (raw_in p) (with_bilateral s) t (λ x. x ≡ p.octets)
    (λ x r. ap (λ (o : List ℕ). Ok o) (sym r)) h
part_full RecipientList s t p d h = once_full s.recipients p.at (recipients_in p) (with_recipients s) t
    (SpellsRecipients p.depth p.tag.constructed p.content) (λ x r. recipients_full x p r) h
part_full ExtensionSet s t p d h = once_full s.extensions p.at (extensions_in p) (with_extensions s) t
    (SpellsExtensions p.depth p.tag.constructed p.content) (λ x r. extensions_full x p r) h

pub step_sound : StepSound envelope_step MakesEnvelope
unfolding envelope_step
step_sound s t p shallow content octets e = go (envelope_part_of s.probe p.tag) refl e
  where
    go : (o : Option EnvelopePart) → envelope_part_of s.probe p.tag ≡ o → envelope_step_of o s p ≡ Ok t
        → MakesEnvelope p.depth s p.tag p.content p.octets t
    go None is e = absurd cc
    go (Some k) is e = record {
      part = k;
      is_tag_of = tagged s.probe p.tag k is;
      made =
          part_sound k s t p shallow content e;
    }

pub step_full : StepFull envelope_step MakesEnvelope
unfolding envelope_step
step_full s t p shallow h = ap (λ o. envelope_step_of o s p) (found h.part s.probe p.tag h.is_tag_of)
    ∙ part_full h.part s t p shallow h.made
