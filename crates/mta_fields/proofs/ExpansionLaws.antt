-- Expansions are read exactly where they are spelled.
use Rattle.std.proofs.Common.{◌≡◌, ℕ, ◌≤◌, Bool, true, List, Option, Some, None, Ok, refl, sym, ap, subst, ◌∙◌}
use Rattle.std.specs.Prelude.{IfSome}
use Rattle.mta_ber.specs.declared.tag.Tag.{Tag}
use Rattle.mta_ber.specs.Element.{Part}
use Rattle.mta_ber.specs.Forms.{components_under}
use Rattle.mta_ber.specs.Head.{◌>>=◌}
use Rattle.mta_ber.specs.Octet.{IsOctets}
use Rattle.mta_ber.specs.Parts.{is_tag, required}
use Rattle.mta_ber.specs.Moments.{SpellsMoment}
use Rattle.mta_ber.specs.Times.{utc_in, last_moment}
use Rattle.mta_ber.proofs.ComponentLaws.{StepSound, StepFull}
use Rattle.mta_ber.proofs.ExplicitLaws.{in_order_full}
use Rattle.mta_ber.proofs.FormLaws.{components_under_sound, components_under_full}
use Rattle.mta_ber.proofs.Steps.{bind_ok, ok_is, required_so}
use Rattle.mta_ber.proofs.MomentLaws.{utc_sound, utc_full}
use Rattle.mta_names.specs.Names.{name_in, SpellsName}
use Rattle.mta_names.proofs.NameLaws.{name_sound, name_full}
use Rattle.mta_names.proofs.Tools.{puts_sound, puts_full, tag_is, picked, not_none, Keeps, spelled_keep}
use Rattle.mta_names.proofs.StandardLaws.{ordered}
use Rattle.mta_fields.specs.declared.expansion.ExpansionFields.{ExpansionFields}
use Rattle.mta_fields.specs.declared.expansion.ExpansionPart.{ExpansionPart}
use Rattle.mta_fields.specs.declared.expansion.ExpansionPart.TheVariants.{Name, Time}
use Rattle.mta_fields.specs.declared.expansion.ExpansionParts.{ExpansionParts}
use Rattle.mta_fields.specs.Expansions.{IsExpansion, expansion_part_of, expansion_class, expansion_number}
use Rattle.mta_fields.specs.Expansions.{expansion_place, expansion_needed, with_name, with_moment, expansion_part_in}
use Rattle.mta_fields.specs.Expansions.{expansion_step_of, expansion_step, no_expansion, expansion, expansion_in}
use Rattle.mta_fields.specs.Expansions.{MakesExpansionPart, MakesExpansion, SpellsExpansion}

abbrev HasTag : Tag → ExpansionPart → Type 0
HasTag t k = is_tag (expansion_class k) (expansion_number k) t ≡ true

tagged : (t : Tag) (k : ExpansionPart) → expansion_part_of t ≡ Some k → HasTag t k
tagged t = picked (HasTag t) (is_tag 1 0 t) Name _ (λ e. e)
    (picked (HasTag t) (is_tag 0 23 t) Time _ (λ e. e) (not_none (HasTag t)))

found : (k : ExpansionPart) (t : Tag) → HasTag t k → expansion_part_of t ≡ Some k
found Name t h = let e = tag_is 1 0 t h in rw (e.0, e.1) refl
found Time t h = let e = tag_is 0 23 t h in rw (e.0, e.1) refl

part_sound : (k : ExpansionPart) (s t : ExpansionParts) (p : Part) → p.depth ≤ 16 → IsOctets p.content
    → expansion_part_in k s p ≡ Ok t → MakesExpansionPart k p.depth s p.tag p.content t
part_sound Name s t p d o e = puts_sound (name_in p) (with_name s) t (SpellsName p.depth p.tag.constructed p.content)
    (λ x r. name_sound x p o r) e
part_sound Time s t p d o e = puts_sound (utc_in p) (with_moment s) t (SpellsMoment p.depth p.tag.constructed p.content)
    (λ x r. utc_sound p x d o r) e

part_full : (k : ExpansionPart) (s t : ExpansionParts) (p : Part) → p.depth ≤ 16
    → MakesExpansionPart k p.depth s p.tag p.content t → expansion_part_in k s p ≡ Ok t
part_full Name s t p d h = puts_full (name_in p) (with_name s) t (SpellsName p.depth p.tag.constructed p.content)
    (λ x r. name_full x p r) h
part_full Time s t p d h = puts_full (utc_in p) (with_moment s) t (SpellsMoment p.depth p.tag.constructed p.content)
    (λ x r. utc_full p x d r) h

step_sound : StepSound expansion_step MakesExpansion
unfolding expansion_step
step_sound s t p shallow content octets e = go (expansion_part_of p.tag) refl e
  where
    go : (o : Option ExpansionPart) → expansion_part_of p.tag ≡ o → expansion_step_of o s p ≡ Ok t
        → MakesExpansion p.depth s p.tag p.content p.octets t
    go None is e = absurd cc
    go (Some k) is e =
        let q = ordered s.last (expansion_needed k) (expansion_place k) p.at (expansion_part_in k s p) t e in
        record {
          part = k;
          is_tag_of = tagged p.tag k is;
          needed = q.1;
          behind = q.0;
          made =
              part_sound k s t p shallow content q.2;
        }

step_full : StepFull expansion_step MakesExpansion
unfolding expansion_step
step_full s t p shallow h =
    let k = h.part in
    ap (λ o. expansion_step_of o s p) (found k p.tag h.is_tag_of)
    ∙ in_order_full s.last (expansion_needed k) (expansion_place k) p.at (expansion_part_in k s p) h.behind h.needed
    ∙ part_full k s t p shallow h.made

pub expansion_sound : (v : ExpansionFields) (p : Part) → IsOctets p.content → expansion_in p ≡ Ok v
    → SpellsExpansion p.depth p.tag p.content v
unfolding expansion_in
expansion_sound v p octets e =
    let a = bind_ok (components_under 0 16 expansion_step no_expansion p)
    (λ s. required s.name p.at >>= λ d. required s.moment p.at >>= λ l. Ok (expansion d l)) v e in
    let c = components_under_sound 0 16 expansion_step MakesExpansion step_sound no_expansion a.0 p octets a.1 in
    let b = bind_ok (required a.0.name p.at) (λ d. required a.0.moment p.at >>= λ l. Ok (expansion d l)) v a.2 in
    let d = bind_ok (required a.0.moment p.at) (λ l. Ok (expansion b.0 l)) v b.2 in
    subst (λ (x : ExpansionFields). SpellsExpansion p.depth p.tag p.content x) {x = expansion b.0 d.0}
    (ok_is (expansion b.0 d.0) v d.2) (record {
      is_tag_of = c.0;
      parts = a.0;
      spelled = c.1;
      name = required_so a.0.name p.at b.0 b.1;
      moment = required_so a.0.moment p.at d.0 d.1;
    })

pub expansion_full : (v : ExpansionFields) (p : Part) → SpellsExpansion p.depth p.tag p.content v
    → expansion_in p ≡ Ok v
unfolding expansion_in
expansion_full v p h =
    ap (λ r. r >>= λ s. required s.name p.at >>= λ d. required s.moment p.at >>= λ l. Ok (expansion d l))
    (components_under_full 0 16 expansion_step MakesExpansion step_full no_expansion h.parts p h.is_tag_of
    h.spelled)
    ∙ ap (λ o. required o p.at >>= λ d. required h.parts.moment p.at >>= λ l. Ok (expansion d l)) h.name
    ∙ ap (λ o. required o p.at >>= λ l. Ok (expansion v.name l)) h.moment

-- ---- what is spelled is an expansion

abbrev Holds : ExpansionParts → Type 0
Holds s = IfSome s.moment (λ m. m ≤ last_moment)

keeps_part : (k : ExpansionPart) (depth : ℕ) (s t : ExpansionParts) (tag : Tag) (content : List ℕ)
    → MakesExpansionPart k depth s tag content t → Holds s → Holds t
keeps_part Name depth s t tag content m h = subst Holds (sym m.after_is) h
keeps_part Time depth s t tag content m h = subst Holds (sym m.after_is) (m.value_spelled.is_text.in_range)

keeps : Keeps MakesExpansion Holds
keeps depth s t tag content octets stands m h = keeps_part m.part depth s t tag content m.made h

pub expansion_is : (depth : ℕ) (tag : Tag) (content : List ℕ) (v : ExpansionFields)
    → SpellsExpansion depth tag content v → IsExpansion v
expansion_is depth c content v h =
    subst (λ o. IfSome o (λ m. m ≤ last_moment)) h.moment
    (spelled_keep MakesExpansion Holds keeps depth no_expansion h.parts content h.spelled tt)
