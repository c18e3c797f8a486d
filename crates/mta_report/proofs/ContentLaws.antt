-- Contents of reports are read exactly where they are spelled.
use Rattle.std.proofs.Common.{◌≡◌, ℕ, ◌≤◌, Bool, true, false, cond, List, Option, Some, None, Ok, refl, sym, ap, subst}
use Rattle.std.proofs.Common.{◌∙◌, ◌⊎◌, inl, inr}
use Rattle.std.specs.Prelude.{IfSome, ◌||◌}
use Rattle.mta_ber.specs.declared.fault.Kind.TheVariants.{Twice}
use Rattle.mta_ber.specs.declared.tag.Tag.{Tag}
use Rattle.mta_ber.specs.declared.text.TextClass.TheVariants.{Printable}
use Rattle.mta_ber.specs.Element.{Part}
use Rattle.mta_ber.specs.Forms.{is_primitive_tag, is_constructed_tag}
use Rattle.mta_ber.specs.Head.{◌>>=◌, fault}
use Rattle.mta_ber.specs.Octet.{IsOctets}
use Rattle.mta_ber.specs.Parts.{components, is_tag, required}
use Rattle.mta_ber.specs.Spelling.{Stands}
use Rattle.mta_ber.proofs.ComponentLaws.{StepSound, StepFull}
use Rattle.mta_ber.proofs.FormLaws.{primitive_is, constructed_is}
use Rattle.mta_ber.proofs.Steps.{bind_ok, ok_is, passed, required_so}
use Rattle.mta_ber.proofs.StringLaws.{text_sound, text_full}
use Rattle.mta_names.specs.Values.{IsRaw}
use Rattle.mta_names.proofs.Tools.{puts_sound, puts_full, tag_is, picked, not_none, components_sound, components_full}
use Rattle.mta_names.proofs.Tools.{Keeps, spelled_keep}
use Rattle.mta_fields.specs.Identifiers.{id_in, SpellsMtsId}
use Rattle.mta_fields.specs.Traces.{raw_in}
use Rattle.mta_fields.proofs.IdentifierLaws.{id_sound, id_full}
use Rattle.mta_envelope_common.specs.ContentIdentifiers.{IsContentId, content_id_in, SpellsContentId}
use Rattle.mta_envelope_common.specs.ContentKinds.{IsContentKind, is_content_kind, content_kind_in, SpellsContentKind}
use Rattle.mta_envelope_common.specs.ExtensionLists.{ext_list_in, SpellsExtList}
use Rattle.mta_envelope_common.proofs.ExtListLaws.{ext_list_sound, ext_list_full}
use Rattle.mta_envelope_common.proofs.KindLaws.{kind_sound, kind_full, kind_is}
use Rattle.mta_report.specs.declared.content.ContentPart.{ContentPart}
use Rattle.mta_report.specs.declared.content.ContentPart.TheVariants.{Subject, Eits, ContentType, SubjectTrace}
use Rattle.mta_report.specs.declared.content.ContentPart.TheVariants.{ContentId, Recipients, Returned, Additional}
use Rattle.mta_report.specs.declared.content.ContentPart.TheVariants.{Extensions}
use Rattle.mta_report.specs.declared.content.ContentParts.{ContentParts}
use Rattle.mta_report.specs.ReportContents.{content_part_of, is_content_tag, content_held, with_subject, with_eits}
use Rattle.mta_report.specs.ReportContents.{with_content_kind, with_subject_trace, with_content_id, with_recipients}
use Rattle.mta_report.specs.ReportContents.{with_returned, with_additional, with_extensions, content_part_in}
use Rattle.mta_report.specs.ReportContents.{content_step_of, content_step, no_content, report_content, content_from}
use Rattle.mta_report.specs.ReportContents.{content_in, MakesContentPart, MakesContent, SpellsContent}
use Rattle.mta_report.specs.ReportValues.{IsReportedRow}
use Rattle.mta_report.specs.declared.content.ContentFields.{ContentFields}
use Rattle.mta_report_recipient.specs.ReportedRecipients.{reported_list_in, SpellsReportedList}
use Rattle.mta_report_recipient.proofs.ReportedLaws.{reported_list_sound, reported_list_full}

abbrev HasTag : Tag → ContentPart → Type 0
HasTag t k = is_content_tag k t ≡ true

tagged : (t : Tag) (k : ContentPart) → content_part_of t ≡ Some k → HasTag t k
tagged t = picked (HasTag t) (is_constructed_tag 1 4 t) Subject _ (λ e. e)
    (picked (HasTag t) (is_tag 1 5 t) Eits _ (λ e. e)
    (picked (HasTag t) (is_content_kind t) ContentType _ (λ e. e)
    (picked (HasTag t) (is_tag 1 9 t) SubjectTrace _ (λ e. e)
    (picked (HasTag t) (is_tag 1 10 t) ContentId _ (λ e. e)
    (picked (HasTag t) (is_constructed_tag 2 0 t) Recipients _ (λ e. e)
    (picked (HasTag t) (is_tag 2 1 t) Returned _ (λ e. e)
    (picked (HasTag t) (is_tag 2 2 t) Additional _ (λ e. e)
    (picked (HasTag t) (is_constructed_tag 2 3 t) Extensions _ (λ e. e) (not_none (HasTag t))))))))))

kind_found : (t : Tag) → is_content_kind t ≡ true → content_part_of t ≡ Some ContentType
kind_found t h =
    elim (either (is_primitive_tag 1 6 t) (is_primitive_tag 0 6 t) h) [
      | inl y ↦ (let e = primitive_is 1 6 t y in rw (e.0, e.1, e.2) refl)
      | inr y ↦ (let e = primitive_is 0 6 t y in rw (e.0, e.1, e.2) refl)
    ]
  where
    either : (a b : Bool) → (a || b) ≡ true → (a ≡ true) ⊎ (b ≡ true)
    either true b e = inl refl
    either false b e = inr e

found : (k : ContentPart) (t : Tag) → HasTag t k → content_part_of t ≡ Some k
found Subject t h = let e = constructed_is 1 4 t h in rw (e.0, e.1, e.2) refl
found Eits t h = let e = tag_is 1 5 t h in rw (e.0, e.1) refl
found ContentType t h = kind_found t h
found SubjectTrace t h = let e = tag_is 1 9 t h in rw (e.0, e.1) refl
found ContentId t h = let e = tag_is 1 10 t h in rw (e.0, e.1) refl
found Recipients t h = let e = constructed_is 2 0 t h in rw (e.0, e.1, e.2) refl
found Returned t h = let e = tag_is 2 1 t h in rw (e.0, e.1) refl
found Additional t h = let e = tag_is 2 2 t h in rw (e.0, e.1) refl
found Extensions t h = let e = constructed_is 2 3 t h in rw (e.0, e.1, e.2) refl

part_sound : (k : ContentPart) (s t : ContentParts) (p : Part) → p.depth ≤ 16 → IsOctets p.content
    → content_part_in k s p ≡ Ok t → MakesContentPart k p.depth s p.tag p.content p.octets t
part_sound Subject s t p d o e = puts_sound (id_in p) (with_subject s) t (SpellsMtsId p.depth p.tag p.content)
    (λ x r. id_sound x p o r) e
part_sound Eits s t p d o e = puts_sound (raw_in p) (with_eits s) t (λ x. x ≡ p.octets)
    (λ x r. sym (ok_is p.octets x r)) e
part_sound ContentType s t p d o e =
    puts_sound (content_kind_in p) (with_content_kind s) t (SpellsContentKind p.depth p.tag p.content p.octets)
    (λ x r. kind_sound x p r) e
part_sound SubjectTrace s t p d o e = puts_sound (raw_in p) (with_subject_trace s) t (λ x. x ≡ p.octets)
    (λ x r. sym (ok_is p.octets x r)) e
part_sound ContentId s t p d o e =
    puts_sound (content_id_in p) (with_content_id s) t (SpellsContentId p.depth p.tag.constructed p.content)
    (λ x r. text_sound Printable 1 16 p x d o r) e
part_sound Recipients s t p d o e =
    puts_sound (reported_list_in p) (with_recipients s) t (SpellsReportedList p.depth p.tag.constructed p.content)
    (λ x r. reported_list_sound x p o r) e
part_sound Returned s t p d o e = puts_sound (raw_in p) (with_returned s) t (λ x. x ≡ p.octets)
    (λ x r. sym (ok_is p.octets x r)) e
part_sound Additional s t p d o e = puts_sound (raw_in p) (with_additional s) t (λ x. x ≡ p.octets)
    (λ x r. sym (ok_is p.octets x r)) e
part_sound Extensions s t p d o e =
    puts_sound (ext_list_in p) (with_extensions s) t (SpellsExtList p.depth p.tag.constructed p.content)
    (λ x r. ext_list_sound x p o r) e

part_full : (k : ContentPart) (s t : ContentParts) (p : Part) → p.depth ≤ 16
    → MakesContentPart k p.depth s p.tag p.content p.octets t → content_part_in k s p ≡ Ok t
part_full Subject s t p d h = puts_full (id_in p) (with_subject s) t (SpellsMtsId p.depth p.tag p.content)
    (λ x r. id_full x p r) h
part_full Eits s t p d h = puts_full (raw_in p) (with_eits s) t (λ x. x ≡ p.octets)
    (λ x r. ap (λ (o : List ℕ). Ok o) (sym r)) h
part_full ContentType s t p d h =
    puts_full (content_kind_in p) (with_content_kind s) t (SpellsContentKind p.depth p.tag p.content p.octets)
    (λ x r. kind_full x p r) h
part_full SubjectTrace s t p d h = puts_full (raw_in p) (with_subject_trace s) t (λ x. x ≡ p.octets)
    (λ x r. ap (λ (o : List ℕ). Ok o) (sym r)) h
part_full ContentId s t p d h =
    puts_full (content_id_in p) (with_content_id s) t (SpellsContentId p.depth p.tag.constructed p.content)
    (λ x r. text_full Printable 1 16 p x d r) h
part_full Recipients s t p d h =
    puts_full (reported_list_in p) (with_recipients s) t (SpellsReportedList p.depth p.tag.constructed p.content)
    (λ x r. reported_list_full x p r) h
part_full Returned s t p d h = puts_full (raw_in p) (with_returned s) t (λ x. x ≡ p.octets)
    (λ x r. ap (λ (o : List ℕ). Ok o) (sym r)) h
part_full Additional s t p d h = puts_full (raw_in p) (with_additional s) t (λ x. x ≡ p.octets)
    (λ x r. ap (λ (o : List ℕ). Ok o) (sym r)) h
part_full Extensions s t p d h =
    puts_full (ext_list_in p) (with_extensions s) t (SpellsExtList p.depth p.tag.constructed p.content)
    (λ x r. ext_list_full x p r) h

step_sound : StepSound content_step MakesContent
unfolding content_step
step_sound s t p shallow content octets e = go (content_part_of p.tag) refl e
  where
    go : (o : Option ContentPart) → content_part_of p.tag ≡ o → content_step_of o s p ≡ Ok t
        → MakesContent p.depth s p.tag p.content p.octets t
    go None is e = absurd cc
    go (Some k) is e =
        let q = passed (content_held k s) (record { at = p.at; kind = Twice }) (content_part_in k s p) t e in
        record { part = k; is_tag_of = tagged p.tag k is; absent = q.0; made = part_sound k s t p shallow content q.1 }

step_full : StepFull content_step MakesContent
unfolding content_step
step_full s t p shallow h =
    ap (λ o. content_step_of o s p) (found h.part p.tag h.is_tag_of)
    ∙ ap (λ b. cond b (fault p.at Twice) (content_part_in h.part s p)) h.absent
    ∙ part_full h.part s t p shallow h.made

pub content_sound : (v : ContentFields) (p : Part) → IsOctets p.content → content_in p ≡ Ok v
    → SpellsContent p.depth p.tag.constructed p.content v
unfolding content_in
content_sound v p octets e =
    let a = bind_ok (components content_step no_content p) (λ s. content_from s p.at) v e in
    let c = components_sound content_step MakesContent step_sound no_content a.0 p octets a.1 in
    let r0 = bind_ok (required a.0.subject p.at)
    (λ subject. required a.0.recipients p.at >>= λ recipients. Ok (report_content subject recipients a.0)) v a.2 in
    let r1 = bind_ok (required a.0.recipients p.at) (λ recipients. Ok (report_content r0.0 recipients a.0)) v r0.2 in
    let made = report_content r0.0 r1.0 a.0 in
    subst (λ (x : ContentFields). SpellsContent p.depth p.tag.constructed p.content x) {x = made} (ok_is made v r1.2)
    (record {
      is_constructed = c.0;
      parts = a.0;
      spelled = c.1;
      subject = r0.0;
      subject_is = required_so a.0.subject p.at r0.0 r0.1;
      recipients = r1.0;
      recipients_is = required_so a.0.recipients p.at r1.0 r1.1;
      value = refl {a = made};
    })

pub content_full : (v : ContentFields) (p : Part) → SpellsContent p.depth p.tag.constructed p.content v
    → content_in p ≡ Ok v
unfolding content_in
content_full v p h =
    ap (λ r. r >>= λ s. content_from s p.at)
    (components_full content_step MakesContent step_full no_content h.parts p h.is_constructed h.spelled)
    ∙ ap (λ o. required o p.at >>= λ subject. required h.parts.recipients p.at >>= λ recipients. Ok
    (report_content subject recipients h.parts)) h.subject_is
    ∙ ap (λ o. required o p.at >>= λ recipients. Ok (report_content h.subject recipients h.parts)) h.recipients_is
    ∙ ap (λ (x : ContentFields). Ok x) (sym h.value)

-- ---- what each component is

pub record ContentHolds (s : ContentParts) : Type 0 where
  pub eits : IfSome s.eits (IsRaw 1 5)
  pub content_kind : IfSome s.content_kind IsContentKind
  pub subject_trace : IfSome s.subject_trace (IsRaw 1 9)
  pub content_id : IfSome s.content_id IsContentId
  pub recipients : IfSome s.recipients IsReportedRow
  pub returned : IfSome s.returned (IsRaw 2 1)
  pub additional : IfSome s.additional (IsRaw 2 2)

-- the components are such where each of them is
holds_content : {s : ContentParts} → IfSome s.eits (IsRaw 1 5) → IfSome s.content_kind IsContentKind
    → IfSome s.subject_trace (IsRaw 1 9) → IfSome s.content_id IsContentId → IfSome s.recipients IsReportedRow
    → IfSome s.returned (IsRaw 2 1) → IfSome s.additional (IsRaw 2 2) → ContentHolds s
holds_content eits content_kind subject_trace content_id recipients returned additional =
    record {
      eits = eits;
      content_kind = content_kind;
      subject_trace = subject_trace;
      content_id = content_id;
      recipients = recipients;
      returned = returned;
      additional = additional;
    }

keeps_part : (k : ContentPart) (depth : ℕ) (s t : ContentParts) (tag : Tag) (content octets : List ℕ) → HasTag tag k
    → Stands depth tag content octets → MakesContentPart k depth s tag content octets t → ContentHolds s
    → ContentHolds t
keeps_part Subject depth s t tag content octets is stands m h =
    subst ContentHolds (sym m.after_is)
    (holds_content h.eits h.content_kind h.subject_trace h.content_id h.recipients h.returned h.additional)
keeps_part Eits depth s t tag content octets is stands m h =
    (let w : (IsRaw 1 5) m.value = subst (IsRaw 1 5) (sym m.value_spelled)
    (record { depth = depth; tag = tag; content = content; is_tag_of = is; stands = stands }) in
    subst ContentHolds (sym m.after_is)
    (holds_content w h.content_kind h.subject_trace h.content_id h.recipients h.returned h.additional))
keeps_part ContentType depth s t tag content octets is stands m h =
    (let w : IsContentKind m.value = kind_is depth tag content octets m.value m.value_spelled in
    subst ContentHolds (sym m.after_is)
    (holds_content h.eits w h.subject_trace h.content_id h.recipients h.returned h.additional))
keeps_part SubjectTrace depth s t tag content octets is stands m h =
    (let w : (IsRaw 1 9) m.value = subst (IsRaw 1 9) (sym m.value_spelled)
    (record { depth = depth; tag = tag; content = content; is_tag_of = is; stands = stands }) in
    subst ContentHolds (sym m.after_is)
    (holds_content h.eits h.content_kind w h.content_id h.recipients h.returned h.additional))
keeps_part ContentId depth s t tag content octets is stands m h =
    (let w : IsContentId m.value = m.value_spelled.is_text in
    subst ContentHolds (sym m.after_is)
    (holds_content h.eits h.content_kind h.subject_trace w h.recipients h.returned h.additional))
keeps_part Recipients depth s t tag content octets is stands m h =
    (let w : IsReportedRow m.value = record { some = m.value_spelled.at_least; few = m.value_spelled.at_most } in
    subst ContentHolds (sym m.after_is)
    (holds_content h.eits h.content_kind h.subject_trace h.content_id w h.returned h.additional))
keeps_part Returned depth s t tag content octets is stands m h =
    (let w : (IsRaw 2 1) m.value = subst (IsRaw 2 1) (sym m.value_spelled)
    (record { depth = depth; tag = tag; content = content; is_tag_of = is; stands = stands }) in
    subst ContentHolds (sym m.after_is)
    (holds_content h.eits h.content_kind h.subject_trace h.content_id h.recipients w h.additional))
keeps_part Additional depth s t tag content octets is stands m h =
    (let w : (IsRaw 2 2) m.value = subst (IsRaw 2 2) (sym m.value_spelled)
    (record { depth = depth; tag = tag; content = content; is_tag_of = is; stands = stands }) in
    subst ContentHolds (sym m.after_is)
    (holds_content h.eits h.content_kind h.subject_trace h.content_id h.recipients h.returned w))
keeps_part Extensions depth s t tag content octets is stands m h =
    subst ContentHolds (sym m.after_is)
    (holds_content h.eits h.content_kind h.subject_trace h.content_id h.recipients h.returned h.additional)

keeps : Keeps MakesContent ContentHolds
keeps depth s t tag content octets stands m h =
    keeps_part m.part depth s t tag content octets m.is_tag_of stands m.made h

held : (depth : ℕ) (c : Bool) (content : List ℕ) (v : ContentFields) (h : SpellsContent depth c content v)
    → ContentHolds h.parts
held depth c content v h = spelled_keep MakesContent ContentHolds keeps depth no_content h.parts content h.spelled
    (record {
      eits = tt;
      content_kind = tt;
      subject_trace = tt;
      content_id = tt;
      recipients = tt;
      returned = tt;
      additional = tt;
    })

pub record IsContent (v : ContentFields) : Type 0 where
  pub subject_trace : IfSome v.subject_trace (IsRaw 1 9)
  pub eits : IfSome v.eits (IsRaw 1 5)
  pub content_kind : IfSome v.content_kind IsContentKind
  pub content_id : IfSome v.content_id IsContentId
  pub returned : IfSome v.returned (IsRaw 2 1)
  pub additional : IfSome v.additional (IsRaw 2 2)
  pub recipients : IsReportedRow v.recipients

-- what each part of what is spelled is
pub content_is : (depth : ℕ) (c : Bool) (content : List ℕ) (v : ContentFields) → SpellsContent depth c content v
    → IsContent v
content_is depth c content v h =
    let k = held depth c content v h in
    let recipients : IsReportedRow h.recipients = subst (λ o. IfSome o IsReportedRow) h.recipients_is k.recipients in
    subst IsContent (sym h.value) (record {
      subject_trace = k.subject_trace;
      eits = k.eits;
      content_kind = k.content_kind;
      content_id = k.content_id;
      returned = k.returned;
      additional = k.additional;
      recipients = recipients;
    })
