-- MTS identifiers are read exactly where they are spelled.
use Rattle.std.proofs.Common.{◌≡◌, ℕ, ◌≤◌, Bool, true, List, Option, Some, None, Ok, refl, sym, ap, subst, ◌∙◌, ◌↔◌}
use Rattle.std.specs.Prelude.{IfSome}
use Rattle.std.specs.Str.{bytes_eq}
use Rattle.std.proofs.lemmas.Bool.{and_parts, and_from}
use Rattle.std.proofs.lemmas.Slice.Eq.{bytes_eq-Decides}
use Rattle.mta_ber.specs.declared.tag.Tag.{Tag}
use Rattle.mta_ber.specs.declared.text.TextClass.TheVariants.{Ia5}
use Rattle.mta_ber.specs.Element.{Part}
use Rattle.mta_ber.specs.Forms.{components_under}
use Rattle.mta_ber.specs.Head.{◌>>=◌}
use Rattle.mta_ber.specs.Octet.{IsOctets}
use Rattle.mta_ber.specs.Parts.{is_tag, required}
use Rattle.mta_ber.specs.Segmented.{SpellsText}
use Rattle.mta_ber.specs.Strings.{text_in, IsText}
use Rattle.mta_ber.proofs.ComponentLaws.{StepSound, StepFull}
use Rattle.mta_ber.proofs.ExplicitLaws.{in_order_full}
use Rattle.mta_ber.proofs.FormLaws.{components_under_sound, components_under_full}
use Rattle.mta_ber.proofs.Steps.{bind_ok, ok_is, required_so}
use Rattle.mta_ber.proofs.StringLaws.{text_sound, text_full}
use Rattle.mta_names.proofs.Tools.{puts_sound, puts_full, tag_is, picked, not_none, Keeps, spelled_keep}
use Rattle.mta_names.proofs.StandardLaws.{ordered}
use Rattle.mta_fields.specs.declared.identifier.MtsIdFields.{MtsIdFields}
use Rattle.mta_fields.specs.declared.identifier.MtsIdPart.{MtsIdPart}
use Rattle.mta_fields.specs.declared.identifier.MtsIdPart.TheVariants.{Issuer, Local}
use Rattle.mta_fields.specs.declared.identifier.MtsIdParts.{MtsIdParts}
use Rattle.mta_fields.specs.Domains.{domain_in, SpellsDomain, is_same_domain}
use Rattle.mta_fields.specs.Identifiers.{IsMtsId, id_part_of, id_class, id_number, id_place, id_needed, with_domain}
use Rattle.mta_fields.specs.Identifiers.{with_local, id_part_in, id_step_of, id_step, no_id, identifier, id_in}
use Rattle.mta_fields.specs.Identifiers.{MakesIdPart, MakesId, SpellsMtsId, IsSameId, is_same_id}
use Rattle.mta_fields.proofs.DomainLaws.{domain_sound, domain_full, same_decides}

abbrev HasTag : Tag → MtsIdPart → Type 0
HasTag t k = is_tag (id_class k) (id_number k) t ≡ true

tagged : (t : Tag) (k : MtsIdPart) → id_part_of t ≡ Some k → HasTag t k
tagged t = picked (HasTag t) (is_tag 1 3 t) Issuer _ (λ e. e)
    (picked (HasTag t) (is_tag 0 22 t) Local _ (λ e. e) (not_none (HasTag t)))

found : (k : MtsIdPart) (t : Tag) → HasTag t k → id_part_of t ≡ Some k
found Issuer t h = let e = tag_is 1 3 t h in rw (e.0, e.1) refl
found Local t h = let e = tag_is 0 22 t h in rw (e.0, e.1) refl

part_sound : (k : MtsIdPart) (s t : MtsIdParts) (p : Part) → p.depth ≤ 16 → IsOctets p.content → id_part_in k s p ≡ Ok t
    → MakesIdPart k p.depth s p.tag p.content t
part_sound Issuer s t p d o e = puts_sound (domain_in p) (with_domain s) t (SpellsDomain p.depth p.tag p.content)
    (λ x r. domain_sound x p o r) e
part_sound Local s t p d o e = puts_sound (text_in Ia5 1 32 p) (with_local s) t
    (SpellsText Ia5 1 32 p.depth p.tag.constructed p.content) (λ x r. text_sound Ia5 1 32 p x d o r) e

part_full : (k : MtsIdPart) (s t : MtsIdParts) (p : Part) → p.depth ≤ 16 → MakesIdPart k p.depth s p.tag p.content t
    → id_part_in k s p ≡ Ok t
part_full Issuer s t p d h = puts_full (domain_in p) (with_domain s) t (SpellsDomain p.depth p.tag p.content)
    (λ x r. domain_full x p r) h
part_full Local s t p d h = puts_full (text_in Ia5 1 32 p) (with_local s) t
    (SpellsText Ia5 1 32 p.depth p.tag.constructed p.content) (λ x r. text_full Ia5 1 32 p x d r) h

step_sound : StepSound id_step MakesId
unfolding id_step
step_sound s t p shallow content octets e = go (id_part_of p.tag) refl e
  where
    go : (o : Option MtsIdPart) → id_part_of p.tag ≡ o → id_step_of o s p ≡ Ok t
        → MakesId p.depth s p.tag p.content p.octets t
    go None is e = absurd cc
    go (Some k) is e =
        let q = ordered s.last (id_needed k) (id_place k) p.at (id_part_in k s p) t e in
        record {
          part = k;
          is_tag_of = tagged p.tag k is;
          needed = q.1;
          behind = q.0;
          made =
              part_sound k s t p shallow content q.2;
        }

step_full : StepFull id_step MakesId
unfolding id_step
step_full s t p shallow h =
    let k = h.part in
    ap (λ o. id_step_of o s p) (found k p.tag h.is_tag_of)
    ∙ in_order_full s.last (id_needed k) (id_place k) p.at (id_part_in k s p) h.behind h.needed
    ∙ part_full k s t p shallow h.made

pub id_sound : (v : MtsIdFields) (p : Part) → IsOctets p.content → id_in p ≡ Ok v
    → SpellsMtsId p.depth p.tag p.content v
unfolding id_in
id_sound v p octets e =
    let a = bind_ok (components_under 1 4 id_step no_id p)
    (λ s. required s.domain p.at >>= λ d. required s.local p.at >>= λ l. Ok (identifier d l)) v e in
    let c = components_under_sound 1 4 id_step MakesId step_sound no_id a.0 p octets a.1 in
    let b = bind_ok (required a.0.domain p.at) (λ d. required a.0.local p.at >>= λ l. Ok (identifier d l)) v a.2 in
    let d = bind_ok (required a.0.local p.at) (λ l. Ok (identifier b.0 l)) v b.2 in
    subst (λ (x : MtsIdFields). SpellsMtsId p.depth p.tag p.content x) {x = identifier b.0 d.0}
    (ok_is (identifier b.0 d.0) v d.2) (record {
      is_tag_of = c.0;
      parts = a.0;
      spelled = c.1;
      domain = required_so a.0.domain p.at b.0 b.1;
      local = required_so a.0.local p.at d.0 d.1;
    })

pub id_full : (v : MtsIdFields) (p : Part) → SpellsMtsId p.depth p.tag p.content v → id_in p ≡ Ok v
unfolding id_in
id_full v p h =
    ap (λ r. r >>= λ s. required s.domain p.at >>= λ d. required s.local p.at >>= λ l. Ok (identifier d l))
    (components_under_full 1 4 id_step MakesId step_full no_id h.parts p h.is_tag_of h.spelled)
    ∙ ap (λ o. required o p.at >>= λ d. required h.parts.local p.at >>= λ l. Ok (identifier d l)) h.domain
    ∙ ap (λ o. required o p.at >>= λ l. Ok (identifier v.domain l)) h.local

-- ---- what is spelled is an identifier

abbrev Holds : MtsIdParts → Type 0
Holds s = IfSome s.local (IsText Ia5 1 32)

keeps_part : (k : MtsIdPart) (depth : ℕ) (s t : MtsIdParts) (tag : Tag) (content : List ℕ)
    → MakesIdPart k depth s tag content t → Holds s → Holds t
keeps_part Issuer depth s t tag content m h = subst Holds (sym m.after_is) h
keeps_part Local depth s t tag content m h = subst Holds (sym m.after_is) (m.value_spelled.is_text)

keeps : Keeps MakesId Holds
keeps depth s t tag content octets stands m h = keeps_part m.part depth s t tag content m.made h

pub id_is : (depth : ℕ) (tag : Tag) (content : List ℕ) (v : MtsIdFields) → SpellsMtsId depth tag content v → IsMtsId v
id_is depth c content v h = subst (λ o. IfSome o (IsText Ia5 1 32)) h.local
    (spelled_keep MakesId Holds keeps depth no_id h.parts content h.spelled tt)

-- ---- when two identifiers are the same

pub id_decides : (v w : MtsIdFields) (r : Bool) → r ≡ is_same_id v w → (r ≡ true) ↔ IsSameId v w
id_decides v w r is =
    let a = same_decides v.domain w.domain (is_same_domain v.domain w.domain) refl in
    let b = bytes_eq-Decides v.local w.local in (
      λ e. let z = and_parts (is_same_domain v.domain w.domain) (bytes_eq v.local w.local) (sym is ∙ e) in
          record { domain = a.0 z.0; local = b.0 z.1 },
      λ e. is ∙ and_from _ _ (a.1 e.domain) (b.1 e.local),
    )
