-- Envelopes of reports are read exactly where they are spelled.
use Rattle.std.proofs.Common.{◌≡◌, ℕ, ◌≤◌, Bool, true, cond, List, Option, Some, None, Ok, refl, sym, ap, subst, ◌∙◌}
use Rattle.std.specs.Prelude.{IfSome}
use Rattle.mta_ber.specs.declared.fault.Kind.TheVariants.{Twice}
use Rattle.mta_ber.specs.declared.tag.Tag.{Tag}
use Rattle.mta_ber.specs.Element.{Part}
use Rattle.mta_ber.specs.Forms.{is_primitive_tag, is_constructed_tag}
use Rattle.mta_ber.specs.Head.{◌>>=◌, fault}
use Rattle.mta_ber.specs.Octet.{IsOctets}
use Rattle.mta_ber.specs.Parts.{components, is_tag, required}
use Rattle.mta_ber.specs.Spelling.{Stands}
use Rattle.mta_ber.proofs.ComponentLaws.{StepSound, StepFull}
use Rattle.mta_ber.proofs.FormLaws.{primitive_is, constructed_is}
use Rattle.mta_ber.proofs.Steps.{bind_ok, ok_is, passed, required_so}
use Rattle.mta_names.specs.Names.{name_in, SpellsName}
use Rattle.mta_names.proofs.NameLaws.{name_sound, name_full}
use Rattle.mta_names.proofs.Tools.{puts_sound, puts_full, tag_is, picked, not_none, components_sound, components_full}
use Rattle.mta_names.proofs.Tools.{Keeps, spelled_keep}
use Rattle.mta_fields.specs.Identifiers.{id_in, SpellsMtsId}
use Rattle.mta_fields.proofs.IdentifierLaws.{id_sound, id_full}
use Rattle.mta_envelope_common.specs.ExtensionLists.{ext_list_in, SpellsExtList}
use Rattle.mta_envelope_common.specs.TraceLists.{trace_list_in, SpellsTraceList}
use Rattle.mta_envelope_common.proofs.ExtListLaws.{ext_list_sound, ext_list_full}
use Rattle.mta_envelope_common.proofs.TraceListLaws.{trace_list_sound, trace_list_full}
use Rattle.mta_report.specs.declared.envelope.EnvelopePart.{EnvelopePart}
use Rattle.mta_report.specs.declared.envelope.EnvelopePart.TheVariants.{Destination, Identifier, Trace, Extensions}
use Rattle.mta_report.specs.declared.envelope.EnvelopeParts.{EnvelopeParts}
use Rattle.mta_report.specs.ReportEnvelopes.{envelope_part_of, is_envelope_tag, envelope_held, with_destination}
use Rattle.mta_report.specs.ReportEnvelopes.{with_id, with_trace, with_extensions, envelope_part_in, envelope_step_of}
use Rattle.mta_report.specs.ReportEnvelopes.{envelope_step, no_envelope, report_envelope, envelope_from, envelope_in}
use Rattle.mta_report.specs.ReportEnvelopes.{MakesEnvelopePart, MakesEnvelope, SpellsEnvelope}
use Rattle.mta_report.specs.ReportValues.{IsTraceRow}
use Rattle.mta_report.specs.declared.envelope.EnvelopeFields.{EnvelopeFields}

abbrev HasTag : Tag → EnvelopePart → Type 0
HasTag t k = is_envelope_tag k t ≡ true

tagged : (t : Tag) (k : EnvelopePart) → envelope_part_of t ≡ Some k → HasTag t k
tagged t = picked (HasTag t) (is_constructed_tag 1 0 t) Destination _ (λ e. e)
    (picked (HasTag t) (is_constructed_tag 1 4 t) Identifier _ (λ e. e)
    (picked (HasTag t) (is_constructed_tag 1 9 t) Trace _ (λ e. e)
    (picked (HasTag t) (is_constructed_tag 2 1 t) Extensions _ (λ e. e) (not_none (HasTag t)))))

found : (k : EnvelopePart) (t : Tag) → HasTag t k → envelope_part_of t ≡ Some k
found Destination t h = let e = constructed_is 1 0 t h in rw (e.0, e.1, e.2) refl
found Identifier t h = let e = constructed_is 1 4 t h in rw (e.0, e.1, e.2) refl
found Trace t h = let e = constructed_is 1 9 t h in rw (e.0, e.1, e.2) refl
found Extensions t h = let e = constructed_is 2 1 t h in rw (e.0, e.1, e.2) refl

part_sound : (k : EnvelopePart) (s t : EnvelopeParts) (p : Part) → p.depth ≤ 16 → IsOctets p.content
    → envelope_part_in k s p ≡ Ok t → MakesEnvelopePart k p.depth s p.tag p.content p.octets t
part_sound Destination s t p d o e =
    puts_sound (name_in p) (with_destination s) t (SpellsName p.depth p.tag.constructed p.content)
    (λ x r. name_sound x p o r) e
part_sound Identifier s t p d o e = puts_sound (id_in p) (with_id s) t (SpellsMtsId p.depth p.tag p.content)
    (λ x r. id_sound x p o r) e
part_sound Trace s t p d o e = puts_sound (trace_list_in p) (with_trace s) t
    (SpellsTraceList p.depth p.tag.constructed p.content) (λ x r. trace_list_sound x p o r) e
part_sound Extensions s t p d o e =
    puts_sound (ext_list_in p) (with_extensions s) t (SpellsExtList p.depth p.tag.constructed p.content)
    (λ x r. ext_list_sound x p o r) e

part_full : (k : EnvelopePart) (s t : EnvelopeParts) (p : Part) → p.depth ≤ 16
    → MakesEnvelopePart k p.depth s p.tag p.content p.octets t → envelope_part_in k s p ≡ Ok t
part_full Destination s t p d h =
    puts_full (name_in p) (with_destination s) t (SpellsName p.depth p.tag.constructed p.content)
    (λ x r. name_full x p r) h
part_full Identifier s t p d h = puts_full (id_in p) (with_id s) t (SpellsMtsId p.depth p.tag p.content)
    (λ x r. id_full x p r) h
part_full Trace s t p d h = puts_full (trace_list_in p) (with_trace s) t
    (SpellsTraceList p.depth p.tag.constructed p.content) (λ x r. trace_list_full x p r) h
part_full Extensions s t p d h =
    puts_full (ext_list_in p) (with_extensions s) t (SpellsExtList p.depth p.tag.constructed p.content)
    (λ x r. ext_list_full x p r) h

step_sound : StepSound envelope_step MakesEnvelope
unfolding envelope_step
step_sound s t p shallow content octets e = go (envelope_part_of p.tag) refl e
  where
    go : (o : Option EnvelopePart) → envelope_part_of p.tag ≡ o → envelope_step_of o s p ≡ Ok t
        → MakesEnvelope p.depth s p.tag p.content p.octets t
    go None is e = absurd cc
    go (Some k) is e =
        let q = passed (envelope_held k s) (record { at = p.at; kind = Twice }) (envelope_part_in k s p) t e in
        record { part = k; is_tag_of = tagged p.tag k is; absent = q.0; made = part_sound k s t p shallow content q.1 }

step_full : StepFull envelope_step MakesEnvelope
unfolding envelope_step
step_full s t p shallow h =
    ap (λ o. envelope_step_of o s p) (found h.part p.tag h.is_tag_of)
    ∙ ap (λ b. cond b (fault p.at Twice) (envelope_part_in h.part s p)) h.absent
    ∙ part_full h.part s t p shallow h.made

pub envelope_sound : (v : EnvelopeFields) (p : Part) → IsOctets p.content → envelope_in p ≡ Ok v
    → SpellsEnvelope p.depth p.tag.constructed p.content v
unfolding envelope_in
envelope_sound v p octets e =
    let a = bind_ok (components envelope_step no_envelope p) (λ s. envelope_from s p.at) v e in
    let c = components_sound envelope_step MakesEnvelope step_sound no_envelope a.0 p octets a.1 in
    let r0 = bind_ok (required a.0.destination p.at)
    (λ destination. required a.0.id p.at >>= λ id. required a.0.trace p.at >>= λ trace. Ok
    (report_envelope destination id trace a.0)) v a.2 in
    let r1 = bind_ok (required a.0.id p.at)
    (λ id. required a.0.trace p.at >>= λ trace. Ok (report_envelope r0.0 id trace a.0)) v r0.2 in
    let r2 = bind_ok (required a.0.trace p.at) (λ trace. Ok (report_envelope r0.0 r1.0 trace a.0)) v r1.2 in
    let made = report_envelope r0.0 r1.0 r2.0 a.0 in
    subst (λ (x : EnvelopeFields). SpellsEnvelope p.depth p.tag.constructed p.content x) {x = made} (ok_is made v r2.2)
    (record {
      is_constructed = c.0;
      parts = a.0;
      spelled = c.1;
      destination = r0.0;
      destination_is = required_so a.0.destination p.at r0.0 r0.1;
      id = r1.0;
      id_is = required_so a.0.id p.at r1.0 r1.1;
      trace = r2.0;
      trace_is = required_so a.0.trace p.at r2.0 r2.1;
      value = refl {a = made};
    })

pub envelope_full : (v : EnvelopeFields) (p : Part) → SpellsEnvelope p.depth p.tag.constructed p.content v
    → envelope_in p ≡ Ok v
unfolding envelope_in
envelope_full v p h =
    ap (λ r. r >>= λ s. envelope_from s p.at)
    (components_full envelope_step MakesEnvelope step_full no_envelope h.parts p h.is_constructed h.spelled)
    ∙ ap (λ o. required o p.at >>= λ destination. required h.parts.id p.at >>= λ id. required h.parts.trace p.at >>=
    λ trace. Ok (report_envelope destination id trace h.parts)) h.destination_is
    ∙ ap (λ o. required o p.at >>= λ id. required h.parts.trace p.at >>= λ trace. Ok
    (report_envelope h.destination id trace h.parts)) h.id_is
    ∙ ap (λ o. required o p.at >>= λ trace. Ok (report_envelope h.destination h.id trace h.parts)) h.trace_is
    ∙ ap (λ (x : EnvelopeFields). Ok x) (sym h.value)

-- ---- what each component is

pub record EnvelopeHolds (s : EnvelopeParts) : Type 0 where
  pub trace : IfSome s.trace IsTraceRow

keeps_part : (k : EnvelopePart) (depth : ℕ) (s t : EnvelopeParts) (tag : Tag) (content octets : List ℕ) → HasTag tag k
    → Stands depth tag content octets → MakesEnvelopePart k depth s tag content octets t → EnvelopeHolds s
    → EnvelopeHolds t
keeps_part Destination depth s t tag content octets is stands m h =
    subst EnvelopeHolds (sym m.after_is) (record { trace = h.trace })
keeps_part Identifier depth s t tag content octets is stands m h =
    subst EnvelopeHolds (sym m.after_is) (record { trace = h.trace })
keeps_part Trace depth s t tag content octets is stands m h =
    (let w : IsTraceRow m.value = m.value_spelled.at_most in
    subst EnvelopeHolds (sym m.after_is) (record { trace = w }))
keeps_part Extensions depth s t tag content octets is stands m h =
    subst EnvelopeHolds (sym m.after_is) (record { trace = h.trace })

keeps : Keeps MakesEnvelope EnvelopeHolds
keeps depth s t tag content octets stands m h =
    keeps_part m.part depth s t tag content octets m.is_tag_of stands m.made h

held : (depth : ℕ) (c : Bool) (content : List ℕ) (v : EnvelopeFields) (h : SpellsEnvelope depth c content v)
    → EnvelopeHolds h.parts
held depth c content v h = spelled_keep MakesEnvelope EnvelopeHolds keeps depth no_envelope h.parts content h.spelled
    (record { trace = tt })

-- what is spelled has a trace of at most 512 elements
pub envelope_trace_is : (depth : ℕ) (c : Bool) (content : List ℕ) (v : EnvelopeFields)
    → SpellsEnvelope depth c content v → IsTraceRow v.trace
envelope_trace_is depth c content v h =
    let k = held depth c content v h in
    let trace : IsTraceRow h.trace = subst (λ o. IfSome o IsTraceRow) h.trace_is k.trace in
    subst (λ (x : EnvelopeFields). IsTraceRow x.trace) (sym h.value) trace
