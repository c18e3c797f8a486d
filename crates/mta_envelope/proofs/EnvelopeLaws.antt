-- Envelopes are read exactly where they are spelled.
use Rattle.std.proofs.Common.{◌≡◌, ℕ, ◌≤◌, Bool, true, false, List, [], ◌∷◌, length, Option, Some, None, Result, Ok}
use Rattle.std.proofs.Common.{refl, sym, ap, subst, ◌∙◌, arith, lit<}
use Rattle.std.specs.Prelude.{IfSome, ◌&&◌, not, unwrap_or}
use Rattle.mta_ber.specs.declared.fault.Fault.{Fault}
use Rattle.mta_ber.specs.declared.tag.Tag.{Tag}
use Rattle.mta_ber.specs.Bits.{BitString}
use Rattle.mta_ber.specs.Element.{Part}
use Rattle.mta_ber.specs.Forms.{is_primitive_tag}
use Rattle.mta_ber.specs.Head.{◌>>=◌}
use Rattle.mta_ber.specs.Octet.{IsOctets}
use Rattle.mta_ber.specs.Parts.{components, is_tag, required}
use Rattle.mta_ber.specs.Spelling.{Stands}
use Rattle.mta_ber.specs.Times.{last_moment}
use Rattle.mta_ber.proofs.Steps.{bind_ok, ok_is, required_so}
use Rattle.mta_names.specs.declared.attributes.Attributes.{Attributes}
use Rattle.mta_names.specs.Values.{IsRaw}
use Rattle.mta_names.proofs.ExtensionLaws.{number_small}
use Rattle.mta_names.proofs.Tools.{components_sound, components_full, Keeps, spelled_keep}
use Rattle.mta_fields.specs.declared.expansion.ExpansionFields.{ExpansionFields}
use Rattle.mta_fields.specs.declared.identifier.MtsIdFields.{MtsIdFields}
use Rattle.mta_fields.specs.declared.trace.TraceFields.{TraceFields}
use Rattle.mta_envelope_common.specs.declared.kind.ContentKind.{ContentKind}
use Rattle.mta_envelope_common.specs.ContentIdentifiers.{IsContentId}
use Rattle.mta_envelope_common.specs.ContentKinds.{IsContentKind}
use Rattle.mta_envelope_common.specs.Indicators.{IsIndicators}
use Rattle.mta_envelope_common.proofs.IndicatorLaws.{indicators_are}
use Rattle.mta_envelope_common.proofs.KindLaws.{kind_is}
use Rattle.mta_envelope_extensions.specs.declared.extensions.Extensions.{Extensions}
use Rattle.mta_envelope_extensions.specs.declared.value.Topic.TheVariants.{ExpansionHistory}
use Rattle.mta_envelope_extensions.specs.Told.{AreTold, Says, values_of, history_said}
use Rattle.mta_envelope_extensions.proofs.ToldLaws.{extensions_are}
use Rattle.mta_envelope_recipient.specs.declared.recipient.RecipientFields.{RecipientFields}
use Rattle.mta_envelope.specs.declared.parts.EnvelopePart.{EnvelopePart}
use Rattle.mta_envelope.specs.declared.parts.EnvelopePart.TheVariants.{Originator, Identifier, InformationTypes}
use Rattle.mta_envelope.specs.declared.parts.EnvelopePart.TheVariants.{ContentType, MessagePriority, Indicators}
use Rattle.mta_envelope.specs.declared.parts.EnvelopePart.TheVariants.{TraceList, ContentIdentifier, Deferral, Length}
use Rattle.mta_envelope.specs.declared.parts.EnvelopePart.TheVariants.{Bilateral, RecipientList, ExtensionSet}
use Rattle.mta_envelope.specs.declared.parts.EnvelopeParts.{EnvelopeParts}
use Rattle.mta_envelope.specs.declared.envelope.EnvelopeFields.{EnvelopeFields}
use Rattle.mta_envelope.specs.Components.{longest, is_envelope_tag, envelope_step, no_envelope, MakesEnvelopePart}
use Rattle.mta_envelope.specs.Components.{MakesEnvelope}
use Rattle.mta_envelope.specs.Envelopes.{told_history, IsSaid, IsEnvelope, IsOfKind, told_or_none, history_or_none}
use Rattle.mta_envelope.specs.Envelopes.{eight_zeros, indicators_or_none, priority_or_normal, envelope, IsEnvelopeOf}
use Rattle.mta_envelope.specs.Envelopes.{finished, envelope_in, SpellsEnvelope}
use Rattle.mta_envelope.proofs.PartLaws.{step_sound, step_full}

-- ---- required components

abbrev done : EnvelopeFields → Result EnvelopeFields Fault
done v = Ok v

finished_so : (at : ℕ) (s : EnvelopeParts) (v : EnvelopeFields) → finished at s ≡ Ok v → IsEnvelopeOf s v
finished_so at s v e =
    let o = bind_ok (required s.originator at)
    (λ o. required s.id at >>= λ i. required s.content_kind at >>= λ k. required s.trace at >>= λ t. required
    s.recipients at >>= λ r. Ok (envelope o i k t r s)) v e in
    let i = bind_ok (required s.id at)
    (λ i. required s.content_kind at >>= λ k. required s.trace at >>= λ t. required s.recipients at >>= λ r. Ok
    (envelope o.0 i k t r s)) v o.2 in
    let k = bind_ok (required s.content_kind at)
    (λ k. required s.trace at >>= λ t. required s.recipients at >>= λ r. Ok (envelope o.0 i.0 k t r s)) v i.2 in
    let t = bind_ok (required s.trace at) (λ t. required s.recipients at >>= λ r. Ok (envelope o.0 i.0 k.0 t r s)) v k.2
    in
    let r = bind_ok (required s.recipients at) (λ r. Ok (envelope o.0 i.0 k.0 t.0 r s)) v t.2 in
    go o.0 i.0 k.0 t.0 r.0 (ok_is (envelope o.0 i.0 k.0 t.0 r.0 s) v r.2) (required_so s.originator at o.0 o.1)
    (required_so s.id at i.0 i.1) (required_so s.content_kind at k.0 k.1) (required_so s.trace at t.0 t.1)
    (required_so s.recipients at r.0 r.1)
  where
    go : (o : Attributes) (i : MtsIdFields) (k : ContentKind) (t : List TraceFields) (r : List RecipientFields)
        → envelope o i k t r s ≡ v
        → s.originator ≡ Some o → s.id ≡ Some i → s.content_kind ≡ Some k → s.trace ≡ Some t → s.recipients ≡ Some r
        → IsEnvelopeOf s v
    go o i k t r same ho hi hk ht hr = subst (λ (x : EnvelopeFields). IsEnvelopeOf s x) {x = envelope o i k t r s} same
        (record { originator = ho; id = hi; content_kind = hk; trace = ht; recipients = hr; value = refl })

so_finished : (at : ℕ) (s : EnvelopeParts) (v : EnvelopeFields) → IsEnvelopeOf s v → finished at s ≡ Ok v
so_finished at s v h =
    ap (λ x. required x at >>= λ o. required s.id at >>= λ i. required s.content_kind at >>= λ k. required s.trace at
    >>= λ t. required s.recipients at >>= λ r. Ok (envelope o i k t r s)) h.originator
    ∙ ap (λ x. required x at >>= λ i. required s.content_kind at >>= λ k. required s.trace at >>= λ t. required
    s.recipients at >>= λ r. Ok (envelope v.originator i k t r s)) h.id
    ∙ ap (λ x. required x at >>= λ k. required s.trace at >>= λ t. required s.recipients at >>= λ r. Ok
    (envelope v.originator v.id k t r s)) h.content_kind
    ∙ ap (λ x. required x at >>= λ t. required s.recipients at >>= λ r. Ok
    (envelope v.originator v.id v.content_kind t r s)) h.trace
    ∙ ap (λ x. required x at >>= λ r. Ok (envelope v.originator v.id v.content_kind v.trace r s)) h.recipients
    ∙ ap (λ (x : EnvelopeFields). Ok x) (sym h.value)

pub envelope_sound : (b : Bool) (v : EnvelopeFields) (p : Part) → IsOctets p.content → envelope_in b p ≡ Ok v
    → SpellsEnvelope b p.depth p.tag.constructed p.content v
unfolding envelope_in
envelope_sound b v p octets e =
    let none = no_envelope b in
    let a = bind_ok (components envelope_step none p) (finished p.at) v e in
    let c = components_sound envelope_step MakesEnvelope step_sound none a.0 p octets a.1 in
    let f = finished_so p.at a.0 v a.2 in
    record {
      is_constructed = c.0;
      parts = a.0;
      spelled = c.1;
      originator = f.originator;
      id = f.id;
      content_kind = f.content_kind;
      trace = f.trace;
      recipients = f.recipients;
      value = f.value;
    }

pub envelope_full : (b : Bool) (v : EnvelopeFields) (p : Part) → SpellsEnvelope b p.depth p.tag.constructed p.content v
    → envelope_in b p ≡ Ok v
unfolding envelope_in
envelope_full b v p h =
    ap (λ r. r >>= finished p.at) (components_full envelope_step MakesEnvelope step_full
    (no_envelope b) h.parts p h.is_constructed h.spelled)
    ∙ so_finished p.at h.parts v (record {
      originator = h.originator;
      id = h.id;
      content_kind = h.content_kind;
      trace =
          h.trace;
      recipients = h.recipients;
      value = h.value;
    })

-- ---- what is spelled is an envelope

-- a component of messages alone does not stand in a probe, and one of probes alone not in a message
no_probe : (b probe tagged : Bool) → probe ≡ b → (tagged && not probe) ≡ true → b ≡ true → ⊥
no_probe b true true same is e = cc
no_probe b true false same is e = cc
no_probe b false tagged same is e = cc

no_message : (b probe tagged : Bool) → probe ≡ b → (tagged && probe) ≡ true → b ≡ false → ⊥
no_message b true tagged same is e = cc
no_message b false true same is e = cc
no_message b false false same is e = cc

record Holds (b : Bool) (s : EnvelopeParts) : Type 0 where
  same : s.probe ≡ b
  eits : IfSome s.eits (IsRaw 1 5)
  content_kind : IfSome s.content_kind IsContentKind
  content_id : IfSome s.content_id IsContentId
  indicators : IfSome s.indicators IsIndicators
  deferral : IfSome s.deferral (λ m. m ≤ last_moment)
  length_fits : IfSome s.length (λ n. n ≤ longest)
  bilateral : IfSome s.bilateral (IsRaw 2 1)
  recipients : IfSome s.recipients (λ r. (1 ≤ length r) × (length r ≤ 32767))
  trace : IfSome s.trace (λ t. length t ≤ 512)
  extensions : IfSome s.extensions AreTold
  message : b ≡ false → s.length ≡ None
  probing : b ≡ true → (s.priority ≡ None) × (s.deferral ≡ None)

-- the components are such where each of them is
holds : {b : Bool} {s : EnvelopeParts} → s.probe ≡ b → IfSome s.eits (IsRaw 1 5)
    → IfSome s.content_kind IsContentKind → IfSome s.content_id IsContentId → IfSome s.indicators IsIndicators
    → IfSome s.deferral (λ m. m ≤ last_moment) → IfSome s.length (λ n. n ≤ longest)
    → IfSome s.bilateral (IsRaw 2 1) → (IfSome s.recipients (λ r. (1 ≤ length r) × (length r ≤ 32767)))
    → IfSome s.trace (λ t. length t ≤ 512) → IfSome s.extensions AreTold
    → (b ≡ false → s.length ≡ None) → (b ≡ true → (s.priority ≡ None) × (s.deferral ≡ None))
    → Holds b s
holds same eits content_kind content_id indicators deferral length_fits bilateral recipients trace extensions
    message probing =
    record {
      same = same;
      eits = eits;
      content_kind = content_kind;
      content_id = content_id;
      indicators = indicators;
      deferral = deferral;
      length_fits = length_fits;
      bilateral = bilateral;
      recipients = recipients;
      trace = trace;
      extensions = extensions;
      message = message;
      probing = probing;
    }

keeps_part : (b : Bool) (k : EnvelopePart) (depth : ℕ) (s t : EnvelopeParts) (tag : Tag) (content octets : List ℕ)
    → is_envelope_tag s.probe k tag ≡ true → Stands depth tag content octets
    → MakesEnvelopePart k depth s tag content octets t → Holds b s → Holds b t
keeps_part b Originator depth s t tag content octets is stands m h =
    subst (Holds b) (sym m.1.after_is)
    (holds h.same h.eits h.content_kind h.content_id h.indicators h.deferral h.length_fits h.bilateral h.recipients
    h.trace h.extensions h.message h.probing)
keeps_part b Identifier depth s t tag content octets is stands m h =
    subst (Holds b) (sym m.1.after_is)
    (holds h.same h.eits h.content_kind h.content_id h.indicators h.deferral h.length_fits h.bilateral h.recipients
    h.trace h.extensions h.message h.probing)
keeps_part b InformationTypes depth s t tag content octets is stands m h =
    subst (Holds b) (sym m.1.after_is)
    (holds h.same
    (subst (IsRaw 1 5) (sym m.1.value_spelled)
    (record { depth = depth; tag = tag; content = content; is_tag_of = is; stands = stands }))
    h.content_kind h.content_id h.indicators h.deferral h.length_fits h.bilateral h.recipients h.trace h.extensions
    h.message h.probing)
keeps_part b ContentType depth s t tag content octets is stands m h =
    subst (Holds b) (sym m.1.after_is)
    (holds h.same h.eits (kind_is depth tag content octets m.1.value m.1.value_spelled) h.content_id h.indicators
    h.deferral h.length_fits h.bilateral h.recipients h.trace h.extensions h.message h.probing)
keeps_part b MessagePriority depth s t tag content octets is stands m h =
    subst (Holds b) (sym m.1.after_is)
    (holds h.same h.eits h.content_kind h.content_id h.indicators h.deferral h.length_fits h.bilateral h.recipients
    h.trace h.extensions h.message
    (λ e. absurd (let k = no_probe b s.probe (is_primitive_tag 1 7 tag) h.same is e in k)))
keeps_part b Indicators depth s t tag content octets is stands m h =
    subst (Holds b) (sym m.1.after_is)
    (holds h.same h.eits h.content_kind h.content_id
    (indicators_are depth tag.constructed content m.1.value m.1.value_spelled) h.deferral h.length_fits h.bilateral
    h.recipients h.trace h.extensions h.message h.probing)
keeps_part b TraceList depth s t tag content octets is stands m h =
    subst (Holds b) (sym m.1.after_is)
    (holds h.same h.eits h.content_kind h.content_id h.indicators h.deferral h.length_fits h.bilateral h.recipients
    m.1.value_spelled.at_most h.extensions h.message h.probing)
keeps_part b ContentIdentifier depth s t tag content octets is stands m h =
    subst (Holds b) (sym m.1.after_is)
    (holds h.same h.eits h.content_kind m.1.value_spelled.is_text h.indicators h.deferral h.length_fits h.bilateral
    h.recipients h.trace h.extensions h.message h.probing)
keeps_part b Deferral depth s t tag content octets is stands m h =
    subst (Holds b) (sym m.1.after_is)
    (holds h.same h.eits h.content_kind h.content_id h.indicators m.1.value_spelled.is_text.in_range h.length_fits
    h.bilateral h.recipients h.trace h.extensions h.message
    (λ e. absurd (let k = no_probe b s.probe (is_tag 2 0 tag) h.same is e in k)))
keeps_part b Length depth s t tag content octets is stands m h =
    subst (Holds b) (sym m.1.after_is)
    (holds h.same h.eits h.content_kind h.content_id h.indicators h.deferral
    (number_small 0 longest m.1.value tag.constructed content m.1.value_spelled) h.bilateral h.recipients h.trace
    h.extensions (λ e. absurd (let k = no_message b s.probe (is_primitive_tag 2 0 tag) h.same is e in k)) h.probing)
keeps_part b Bilateral depth s t tag content octets is stands m h =
    subst (Holds b) (sym m.1.after_is)
    (holds h.same h.eits h.content_kind h.content_id h.indicators h.deferral h.length_fits
    (subst (IsRaw 2 1) (sym m.1.value_spelled)
    (record { depth = depth; tag = tag; content = content; is_tag_of = is; stands = stands }))
    h.recipients h.trace h.extensions h.message h.probing)
keeps_part b RecipientList depth s t tag content octets is stands m h =
    subst (Holds b) (sym m.1.after_is)
    (holds h.same h.eits h.content_kind h.content_id h.indicators h.deferral h.length_fits h.bilateral
    (m.1.value_spelled.at_least, m.1.value_spelled.at_most) h.trace h.extensions h.message h.probing)
keeps_part b ExtensionSet depth s t tag content octets is stands m h =
    subst (Holds b) (sym m.1.after_is)
    (holds h.same h.eits h.content_kind h.content_id h.indicators h.deferral h.length_fits h.bilateral h.recipients
    h.trace (extensions_are depth tag.constructed content m.1.value m.1.value_spelled) h.message h.probing)

keeps : (b : Bool) → Keeps MakesEnvelope (Holds b)
keeps b depth s t tag content octets stands m h =
    keeps_part b m.part depth s t tag content octets m.is_tag_of stands m.made h

held : (b : Bool) (depth : ℕ) (c : Bool) (content : List ℕ) (v : EnvelopeFields)
    → (h : SpellsEnvelope b depth c content v) → Holds b h.parts
held b depth c content v h = spelled_keep MakesEnvelope (Holds b) (keeps b) depth
    (no_envelope b) h.parts content h.spelled (record {
      same = refl;
      eits = tt;
      content_kind = tt;
      content_id = tt;
      indicators = tt;
      deferral = tt;
      length_fits = tt;
      bilateral = tt;
      recipients = tt;
      trace = tt;
      extensions = tt;
      message = λ e. refl;
      probing = λ e. (refl, refl);
    })

eight_are : IsIndicators eight_zeros
eight_are = record { at_least = omega arith; at_most = omega arith; within = lit< tt }

indicators_so : (o : Option BitString) → IfSome o IsIndicators → IsIndicators (indicators_or_none o)
indicators_so None h = eight_are
indicators_so (Some x) h = h

told_so : (o : Option Extensions) → IfSome o AreTold → AreTold (told_or_none o)
told_so None h = record { history = tt; latest = tt; prohibited = tt }
told_so (Some x) h = h

-- a history that is told has an expansion
some_history : (vs : List (List ℕ)) (o : Option (List ExpansionFields)) → Says ExpansionHistory vs (history_said o)
    → told_history (history_or_none o) ≡ o
some_history vs None h = refl
some_history [] (Some []) h = absurd h
some_history (v ∷ []) (Some []) h = absurd (let n = h.spelled.1.at_least in omega arith)
some_history (v ∷ w ∷ vs) (Some []) h = absurd h
some_history vs (Some (x ∷ xs)) h = refl

said_so : (s : Extensions) → AreTold s
    → IsSaid s.fields (history_or_none s.history) s.latest (unwrap_or s.prohibited false)
said_so s h = record {
  prohibition = s.prohibited;
  prohibited_is = refl;
  told = subst (λ o. AreTold (record { fields = s.fields; history = o; latest = s.latest; prohibited = s.prohibited }))
      (sym (some_history (values_of ExpansionHistory s.fields) s.history h.history)) h;
}

pub envelope_is : (b : Bool) (depth : ℕ) (c : Bool) (content : List ℕ) (v : EnvelopeFields)
    → SpellsEnvelope b depth c content v → IsEnvelope v
envelope_is b depth c content v h =
    let k = held b depth c content v h in
    let kind : IsContentKind v.content_kind = subst (λ o. IfSome o IsContentKind) h.content_kind k.content_kind in
    let few : length v.trace ≤ 512 = subst (λ o. IfSome o (λ t. length t ≤ 512)) h.trace k.trace in
    let some : (1 ≤ length v.recipients) × (length v.recipients ≤ 32767) =
    subst (λ o. IfSome o (λ r. (1 ≤ length r) × (length r ≤ 32767))) h.recipients k.recipients in
    subst IsEnvelope (sym h.value) (record {
      eits = k.eits;
      content_kind = kind;
      content_id = k.content_id;
      indicators = indicators_so h.parts.indicators k.indicators;
      deferral = k.deferral;
      length_fits = k.length_fits;
      bilateral = k.bilateral;
      some_recipients = some.0;
      few_recipients = some.1;
      few_elements = few;
      said = said_so (told_or_none h.parts.extensions) (told_so h.parts.extensions k.extensions);
    })

kind_so : (b : Bool) (v : EnvelopeFields) (s : EnvelopeParts) → v.priority ≡ priority_or_normal s.priority
    → v.deferral ≡ s.deferral → v.length ≡ s.length → Holds b s → IsOfKind b v
kind_so true v s p d l h = let k = h.probing refl in
    record { no_priority = p ∙ ap priority_or_normal k.0; no_deferral = d ∙ k.1 }
kind_so false v s p d l h = l ∙ h.message refl

pub envelope_kind : (b : Bool) (depth : ℕ) (c : Bool) (content : List ℕ) (v : EnvelopeFields)
    → SpellsEnvelope b depth c content v → IsOfKind b v
envelope_kind b depth c content v h =
    kind_so b v h.parts (ap (λ (x : EnvelopeFields). x.priority) h.value)
    (ap (λ (x : EnvelopeFields). x.deferral) h.value) (ap (λ (x : EnvelopeFields). x.length) h.value)
    (held b depth c content v h)
