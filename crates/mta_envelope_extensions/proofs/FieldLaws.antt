-- Extension fields of an envelope are read exactly where they are spelled.
use Rattle.std.proofs.Common.{◌≡◌, ℕ, ◌+◌, ◌≤◌, Bool, true, false, cond, List, [], ◌∷◌, Option, Some, None, Ok, refl}
use Rattle.std.proofs.Common.{sym, ap, subst, ◌∙◌, ◌<◌, arith}
use Rattle.std.specs.Prelude.{IfSome, ◌||◌}
use Rattle.mta_ber.specs.declared.fault.Kind.TheVariants.{Twice}
use Rattle.mta_ber.specs.declared.tag.Tag.{Tag}
use Rattle.mta_ber.specs.Bits.{bits_in}
use Rattle.mta_ber.specs.Components.{AreComponents, SpellsComponents}
use Rattle.mta_ber.specs.Element.{Part, explicit}
use Rattle.mta_ber.specs.Explicit.{SpellsExplicit}
use Rattle.mta_ber.specs.Head.{◌>>=◌, fault}
use Rattle.mta_ber.specs.Octet.{IsOctets}
use Rattle.mta_ber.specs.Parts.{components, is_tag, required}
use Rattle.mta_ber.specs.Segmented.{SpellsBits}
use Rattle.mta_ber.specs.Spelling.{Stands}
use Rattle.mta_ber.proofs.ComponentLaws.{StepSound, StepFull}
use Rattle.mta_ber.proofs.ExplicitLaws.{explicit_sound, explicit_full, in_order_full}
use Rattle.mta_ber.proofs.Steps.{bind_ok, ok_is, passed, required_so}
use Rattle.mta_ber.proofs.StringLaws.{bits_in_sound, bits_in_full}
use Rattle.mta_names.proofs.Tools.{puts_sound, puts_full, tag_is, picked, not_none, components_sound, components_full}
use Rattle.mta_names.proofs.Tools.{Keeps, spelled_keep}
use Rattle.mta_names.proofs.StandardLaws.{ordered}
use Rattle.mta_fields.specs.declared.extension.ExtKind.{ExtKind}
use Rattle.mta_fields.specs.ExtensionFields.{IsKind, IsExtField, kind_in}
use Rattle.mta_envelope_extensions.specs.declared.value.Topic.{Topic}
use Rattle.mta_envelope_extensions.specs.declared.value.Topic.TheVariants.{ExpansionHistory, LatestDelivery}
use Rattle.mta_envelope_extensions.specs.declared.value.Topic.TheVariants.{ExpansionProhibited, Other}
use Rattle.mta_envelope_extensions.specs.declared.value.ExtValue.{ExtValue}
use Rattle.mta_envelope_extensions.specs.declared.field.Held.{Held}
use Rattle.mta_envelope_extensions.specs.declared.field.Told.{Told}
use Rattle.mta_envelope_extensions.specs.declared.field.FieldPart.{FieldPart}
use Rattle.mta_envelope_extensions.specs.declared.field.FieldPart.TheVariants.{FieldType, Criticality, FieldValue}
use Rattle.mta_envelope_extensions.specs.declared.field.FieldParts.{FieldParts}
use Rattle.mta_envelope_extensions.specs.Topics.{topic_of, value_said, SpellsValue, IsSaidBy}
use Rattle.mta_envelope_extensions.specs.Fields.{is_held, field_part_of, is_field_tag, field_place, field_needed}
use Rattle.mta_envelope_extensions.specs.Fields.{with_kind, with_criticality, with_value, typed, type_in, valued}
use Rattle.mta_envelope_extensions.specs.Fields.{field_part_in, field_step_of, field_step, no_field, null_of, value_or}
use Rattle.mta_envelope_extensions.specs.Fields.{told, field_in, MakesFieldType, MakesFieldValue, MakesFieldPart}
use Rattle.mta_envelope_extensions.specs.Fields.{MakesField, IsNull, IsValue, SpellsField}
use Rattle.mta_envelope_extensions.proofs.KindLaws.{kind_sound, kind_full, kind_is, null_stands}
use Rattle.mta_envelope_extensions.proofs.ValueLaws.{value_sound, value_full}

-- ---- tags

abbrev HasTag : Tag → FieldPart → Type 0
HasTag t k = is_field_tag k t ≡ true

tagged : (t : Tag) (k : FieldPart) → field_part_of t ≡ Some k → HasTag t k
tagged t = picked (HasTag t) (is_tag 2 0 t || is_tag 2 3 t) FieldType _ (λ e. e)
    (picked (HasTag t) (is_tag 2 1 t) Criticality _ (λ e. e)
    (picked (HasTag t) (is_tag 2 2 t) FieldValue _ (λ e. e) (not_none (HasTag t))))

found : (k : FieldPart) (t : Tag) → HasTag t k → field_part_of t ≡ Some k
found FieldType t h = ap (λ b. cond b (Some FieldType)
    (cond (is_tag 2 1 t) (Some Criticality) (cond (is_tag 2 2 t) (Some FieldValue) None))) h
found Criticality t h = let e = tag_is 2 1 t h in rw (e.0, e.1) refl
found FieldValue t h = let e = tag_is 2 2 t h in rw (e.0, e.1) refl

-- ---- one component

type_sound : (s t : FieldParts) (p : Part) → p.depth ≤ 16 → IsOctets p.content → IsOctets p.octets → type_in s p ≡ Ok t
    → MakesFieldType p.depth s p.tag p.content p.octets t
type_sound s t p d o w e =
    let b = bind_ok (kind_in p) (typed s) t e in
    let c = passed (is_held (topic_of b.0) s.held) (record { at = s.at; kind = Twice }) (Ok (with_kind s b.0)) t b.2 in
    record {
      kind = b.0;
      spelled = kind_sound b.0 p d o w b.1;
      first = c.0;
      after_is =
          sym (ok_is (with_kind s b.0) t c.1);
    }

type_full : (s t : FieldParts) (p : Part) → p.depth ≤ 16 → MakesFieldType p.depth s p.tag p.content p.octets t
    → type_in s p ≡ Ok t
type_full s t p d h =
    ap (λ r. r >>= typed s) (kind_full h.kind p d h.spelled)
    ∙ ap (λ b. cond b (fault s.at Twice) (Ok (with_kind s h.kind))) h.first
    ∙ ap (λ (x : FieldParts). Ok x) (sym h.after_is)

value_made : (s t : FieldParts) (p : Part) (o : Option ExtKind) → s.kind ≡ o → IsOctets p.content → valued s o p ≡ Ok t
    → MakesFieldValue p.depth s p.tag p.content p.octets t
value_made s t p None is octets e = absurd cc
value_made s t p (Some k) is octets e = record {
  kind = k;
  kind_is = is;
  puts = puts_sound (explicit (value_said (topic_of k)) p) (with_value s) t
      (SpellsExplicit (SpellsValue (topic_of k)) p.depth p.tag.constructed p.content)
      (λ x r. explicit_sound (value_said (topic_of k)) (SpellsValue (topic_of k))
      (value_sound (topic_of k)) x p octets r) e;
}

value_taken : (s t : FieldParts) (p : Part) → MakesFieldValue p.depth s p.tag p.content p.octets t
    → valued s s.kind p ≡ Ok t
value_taken s t p h =
    let k = h.kind in
    ap (λ o. valued s o p) h.kind_is
    ∙ puts_full (explicit (value_said (topic_of k)) p) (with_value s) t
    (SpellsExplicit (SpellsValue (topic_of k)) p.depth p.tag.constructed p.content)
    (λ x r. explicit_full (value_said (topic_of k)) (SpellsValue (topic_of k)) (value_full (topic_of k)) x p r)
    h.puts

part_sound : (k : FieldPart) (s t : FieldParts) (p : Part) → p.depth ≤ 16 → IsOctets p.content → IsOctets p.octets
    → field_part_in k s p ≡ Ok t → MakesFieldPart k p.depth s p.tag p.content p.octets t
part_sound FieldType s t p d o w e = type_sound s t p d o w e
part_sound Criticality s t p d o w e =
    puts_sound (bits_in p) (with_criticality s) t (SpellsBits p.depth p.tag.constructed p.content)
    (λ x r. bits_in_sound p x d o r) e
part_sound FieldValue s t p d o w e = value_made s t p s.kind refl o e

part_full : (k : FieldPart) (s t : FieldParts) (p : Part) → p.depth ≤ 16
    → MakesFieldPart k p.depth s p.tag p.content p.octets t → field_part_in k s p ≡ Ok t
part_full FieldType s t p d h = type_full s t p d h
part_full Criticality s t p d h =
    puts_full (bits_in p) (with_criticality s) t (SpellsBits p.depth p.tag.constructed p.content)
    (λ x r. bits_in_full p x d r) h
part_full FieldValue s t p d h = value_taken s t p h

step_sound : StepSound field_step MakesField
unfolding field_step
step_sound s t p shallow content octets e = go (field_part_of p.tag) refl e
  where
    go : (o : Option FieldPart) → field_part_of p.tag ≡ o → field_step_of o s p ≡ Ok t
        → MakesField p.depth s p.tag p.content p.octets t
    go None is e = absurd cc
    go (Some k) is e =
        let q = ordered s.last (field_needed k) (field_place k) p.at (field_part_in k s p) t e in
        record {
          part = k;
          is_tag_of = tagged p.tag k is;
          needed = q.1;
          behind = q.0;
          made =
              part_sound k s t p shallow content octets q.2;
        }

step_full : StepFull field_step MakesField
unfolding field_step
step_full s t p shallow h =
    let k = h.part in
    ap (λ o. field_step_of o s p) (found k p.tag h.is_tag_of)
    ∙ in_order_full s.last (field_needed k) (field_place k) p.at (field_part_in k s p) h.behind h.needed
    ∙ part_full k s t p shallow h.made

-- ---- a value that may be absent

null_so : (t : Topic) (at : ℕ) (v : ExtValue) → null_of t at ≡ Ok v → IsNull t v
null_so ExpansionHistory at v e = absurd cc
null_so LatestDelivery at v e = absurd cc
null_so ExpansionProhibited at v e = absurd cc
null_so Other at v e = sym (ok_is _ v e)

so_null : (t : Topic) (at : ℕ) (v : ExtValue) → IsNull t v → null_of t at ≡ Ok v
so_null ExpansionHistory at v h = absurd h
so_null LatestDelivery at v h = absurd h
so_null ExpansionProhibited at v h = absurd h
so_null Other at v h = ap (λ (x : ExtValue). Ok x) (sym h)

value_so : (t : Topic) (o : Option ExtValue) (at : ℕ) (v : ExtValue) → value_or t o at ≡ Ok v → IsValue t o v
value_so t (Some w) at v e = sym (ok_is w v e)
value_so t None at v e = null_so t at v e

so_value : (t : Topic) (o : Option ExtValue) (at : ℕ) (v : ExtValue) → IsValue t o v → value_or t o at ≡ Ok v
so_value t (Some w) at v h = ap (λ (x : ExtValue). Ok x) (sym h)
so_value t None at v h = so_null t at v h

-- ---- whole fields

pub field_sound : (held : Held) (v : Told) (p : Part) → IsOctets p.content → field_in held p ≡ Ok v
    → SpellsField held p.depth p.tag.constructed p.content v
unfolding field_in
field_sound held v p octets e =
    let none = no_field held p.at in
    let a = bind_ok (components field_step none p)
    (λ s. required s.kind p.at >>= λ k. value_or (topic_of k) s.value p.at >>= λ v. Ok (told k s v)) v e in
    let c = components_sound field_step MakesField step_sound none a.0 p octets a.1 in
    let b = bind_ok (required a.0.kind p.at) (λ k. value_or (topic_of k) a.0.value p.at >>= λ v. Ok (told k a.0 v)) v
    a.2 in
    let d = bind_ok (value_or (topic_of b.0) a.0.value p.at) (λ v. Ok (told b.0 a.0 v)) v b.2 in
    subst (λ (x : Told). SpellsField held p.depth p.tag.constructed p.content x) {x = told b.0 a.0 d.0}
    (ok_is (told b.0 a.0 d.0) v d.2) (record {
      is_constructed = c.0;
      at = p.at;
      parts = a.0;
      spelled = c.1;
      kind = required_so a.0.kind p.at b.0 b.1;
      value = d.0;
      value_is = value_so (topic_of b.0) a.0.value p.at d.0 d.1;
      told_is = refl;
    })

-- the offset of a field plays no part in what it spells
abbrev moved : ℕ → FieldParts → FieldParts
moved at s = record s { at = at }

part_moved : (at : ℕ) (k : FieldPart) (depth : ℕ) (s t : FieldParts) (tag : Tag) (content octets : List ℕ)
    → MakesFieldPart k depth s tag content octets t
    → MakesFieldPart k depth (moved at s) tag content octets (moved at t)
part_moved at FieldType depth s t tag content octets m =
    record { kind = m.kind; spelled = m.spelled; first = m.first; after_is = ap (moved at) m.after_is }
part_moved at Criticality depth s t tag content octets m =
    record { value = m.value; value_spelled = m.value_spelled; after_is = ap (moved at) m.after_is }
part_moved at FieldValue depth s t tag content octets m =
    record {
      kind = m.kind;
      kind_is = m.kind_is;
      puts =
          record { value = m.puts.value; value_spelled = m.puts.value_spelled; after_is = ap (moved at) m.puts.after_is };
    }

makes_moved : (at depth : ℕ) (s t : FieldParts) (tag : Tag) (content octets : List ℕ)
    → MakesField depth s tag content octets t → MakesField depth (moved at s) tag content octets (moved at t)
makes_moved at depth s t tag content octets h =
    record {
      part = h.part;
      is_tag_of = h.is_tag_of;
      needed = h.needed;
      behind = h.behind;
      made =
          part_moved at h.part depth s t tag content octets h.made;
    }

are_moved : (at depth : ℕ) (s t : FieldParts) (es : List (List ℕ)) → AreComponents MakesField depth s es t
    → AreComponents MakesField depth (moved at s) es (moved at t)
are_moved at depth s t [] h = ap (moved at) h
are_moved at depth s t (e ∷ es) h = (
  moved at h.0,
  record {
    tag = h.1.tag;
    content = h.1.content;
    stands = h.1.stands;
    made =
        makes_moved at depth s h.0 h.1.tag h.1.content e h.1.made;
  },
  are_moved at depth h.0 t es h.2,
)

pub field_full : (held : Held) (v : Told) (p : Part) → SpellsField held p.depth p.tag.constructed p.content v
    → field_in held p ≡ Ok v
unfolding field_in
field_full held v p h =
    let none = no_field held p.at in
    let parts : FieldParts = moved p.at h.parts in
    let spelled : SpellsComponents MakesField p.depth none p.content parts =
    record {
      components = h.spelled.components;
      joined = h.spelled.joined;
      are =
          are_moved p.at (p.depth + 1) (no_field held h.at) h.parts h.spelled.components h.spelled.are;
    } in
    ap (λ r. r >>= λ s. required s.kind p.at >>= λ k. value_or (topic_of k) s.value p.at >>= λ v. Ok (told k s v))
    (components_full field_step MakesField step_full none parts p h.is_constructed spelled)
    ∙ ap (λ o. required o p.at >>= λ k. value_or (topic_of k) h.parts.value p.at >>= λ v. Ok (told k parts v)) h.kind
    ∙ ap (λ r. r >>= λ w. Ok (told v.field.kind parts w))
    (so_value (topic_of v.field.kind) h.parts.value p.at h.value h.value_is)
    ∙ ap (λ (x : Told). Ok x) (sym h.told_is)

-- ---- what is spelled is a field, and what its value says

record Holds (held : Held) (s : FieldParts) : Type 0 where
  same : s.held ≡ held
  kind : IfSome s.kind IsKind
  first : (k : ExtKind) → s.kind ≡ Some k → is_held (topic_of k) held ≡ false
  value : (k : ExtKind) → s.kind ≡ Some k → IfSome s.value (λ v. IsSaidBy (topic_of k) v.octets v.said)
  empty : s.last ≡ 0 → s.value ≡ None

abbrev some_kind : ExtKind → Option ExtKind
some_kind k = Some k

kind_as : (k j : ExtKind) → some_kind k ≡ some_kind j → k ≡ j
kind_as k j e = cc

nothing_said : (P : ExtValue → Type 0) (o : Option ExtValue) → o ≡ None → IfSome o P
nothing_said P o e = subst (λ x. IfSome x P) (sym e) tt

said_by : (t : Topic) (depth : ℕ) (c : Bool) (content : List ℕ) (v : ExtValue)
    → SpellsExplicit (SpellsValue t) depth c content v → IsSaidBy t v.octets v.said
said_by t depth c content v h = record {
  depth = depth + 1;
  tag = h.tag;
  content = h.inside;
  stands = subst (λ o. Stands (depth + 1) h.tag h.inside o) (sym h.spelled.octets_are) h.stands;
  spelled = h.spelled.said;
}

keeps_type : (held : Held) (depth : ℕ) (s t : FieldParts) (tag : Tag) (content octets : List ℕ) → s.last ≡ 0
    → MakesFieldType depth s tag content octets t → Holds held s → Holds held t
keeps_type held depth s t tag content octets first m h =
    let none = h.empty first in
    let new : is_held (topic_of m.kind) held ≡ false =
    subst (λ x. is_held (topic_of m.kind) x ≡ false) h.same m.first in
    subst (Holds held) (sym m.after_is) (record {
      same = h.same;
      kind = kind_is m.kind depth tag content octets m.spelled;
      first = λ k e. subst (λ j. is_held (topic_of j) held ≡ false) (kind_as m.kind k e) new;
      value = λ k e. nothing_said (λ v. IsSaidBy (topic_of k) v.octets v.said) s.value none;
      empty = λ e. absurd (omega arith);
    })

keeps_value : (held : Held) (depth : ℕ) (s t : FieldParts) (tag : Tag) (content octets : List ℕ)
    → MakesFieldValue depth s tag content octets t → Holds held s → Holds held t
keeps_value held depth s t tag content octets m h =
    let said = said_by (topic_of m.kind) depth tag.constructed content m.puts.value m.puts.value_spelled in
    subst (Holds held) (sym m.puts.after_is) (record {
      same = h.same;
      kind = h.kind;
      first = h.first;
      value = λ k e. subst (λ j. IsSaidBy (topic_of j) m.puts.value.octets m.puts.value.said)
          (kind_as m.kind k (sym m.kind_is ∙ e)) said;
      empty = λ e. absurd (omega arith);
    })

keeps_part : (held : Held) (k : FieldPart) (depth : ℕ) (s t : FieldParts) (tag : Tag) (content octets : List ℕ)
    → s.last < field_place k → MakesFieldPart k depth s tag content octets t → Holds held s → Holds held t
keeps_part held FieldType depth s t tag content octets lt m h =
    keeps_type held depth s t tag content octets (omega arith) m h
keeps_part held Criticality depth s t tag content octets lt m h =
    subst (Holds held) (sym m.after_is)
    (record { same = h.same; kind = h.kind; first = h.first; value = h.value; empty = λ e. absurd (omega arith) })
keeps_part held FieldValue depth s t tag content octets lt m h = keeps_value held depth s t tag content octets m h

keeps : (held : Held) → Keeps MakesField (Holds held)
keeps held depth s t tag content octets stands m h =
    keeps_part held m.part depth s t tag content octets m.behind m.made h

-- what a field is
pub record IsToldField (held : Held) (t : Told) : Type 0 where
  pub field : IsExtField t.field
  pub first : is_held (topic_of t.field.kind) held ≡ false
  pub said : IsSaidBy (topic_of t.field.kind) t.field.value t.said

null_said : (t : Topic) (v : ExtValue) → IsNull t v → IsSaidBy t v.octets v.said
null_said ExpansionHistory v h = absurd h
null_said LatestDelivery v h = absurd h
null_said ExpansionProhibited v h = absurd h
null_said Other v h =
    let n = null_stands in
    subst (λ (x : ExtValue). IsSaidBy Other x.octets x.said) (sym h)
    (record { depth = n.depth; tag = n.tag; content = n.content; stands = n.stands; spelled = tt })

value_said_by : (t : Topic) (o : Option ExtValue) (v : ExtValue) → IsValue t o v
    → IfSome o (λ w. IsSaidBy t w.octets w.said) → IsSaidBy t v.octets v.said
value_said_by t (Some w) v h k = subst (λ (x : ExtValue). IsSaidBy t x.octets x.said) (sym h) k
value_said_by t None v h k = null_said t v h

pub field_is : (held : Held) (depth : ℕ) (c : Bool) (content : List ℕ) (t : Told) → SpellsField held depth c content t
    → IsToldField held t
field_is held depth c content t h =
    let k = spelled_keep MakesField (Holds held) (keeps held) depth (no_field held h.at) h.parts content h.spelled
    (record { same = refl; kind = tt; first = λ k e. absurd (cc e); value = λ k e. tt; empty = λ e. refl }) in
    let kind : IsKind t.field.kind = subst (λ o. IfSome o IsKind) h.kind k.kind in
    let said = value_said_by (topic_of t.field.kind) h.parts.value h.value h.value_is (k.value t.field.kind h.kind) in
    subst (IsToldField held) (sym h.told_is) (record {
      field = record {
        kind = kind;
        value =
            record { depth = said.depth; tag = said.tag; content = said.content; stands = said.stands };
      };
      first = k.first t.field.kind h.kind;
      said = said;
    })
