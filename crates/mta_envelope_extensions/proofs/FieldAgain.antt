-- Extension fields of an envelope that are written are spelled so.
use Rattle.std.proofs.Common.{◌≡◌, ℕ, ◌+◌, ◌≤◌, ◌<◌, ◌^◌, Bool, true, false, cond, List, [], ◌∷◌, ◌++◌, length, Option}
use Rattle.std.proofs.Common.{Some, None, refl, sym, ap, subst, ◌∙◌, append_assoc, arith, inl, inr, pos}
use Rattle.std.specs.Prelude.{IfSome}
use Rattle.std.specs.Str.{bytes_eq}
use Rattle.std.proofs.lemmas.Slice.Eq.{bytes_eq-Decides}
use Rattle.mta_ber.specs.declared.tag.Tag.{Tag}
use Rattle.mta_ber.specs.Bits.{BitString, no_bits}
use Rattle.mta_ber.specs.Canon.{ident_octets, length_octets, element, primitive, constructed, optional}
use Rattle.mta_ber.specs.Components.{IsComponent}
use Rattle.mta_ber.specs.Contents.{int_content, bits_content, canon_bits}
use Rattle.mta_ber.specs.Explicit.{SpellsExplicit}
use Rattle.mta_ber.specs.Segmented.{AddsBits, SpellsBits}
use Rattle.mta_ber.specs.Spelling.{Stands}
use Rattle.mta_ber.proofs.RowLaws.{one_spelling}
use Rattle.mta_names.proofs.Again.{low_tag, number_spelled}
use Rattle.mta_names.proofs.Rows.{element_stands, short_front, short_back, puts, component, IsRow, row_more}
use Rattle.mta_names.proofs.Rows.{row_spelled, From, none_from, optional_from, at_last}
use Rattle.mta_fields.specs.declared.extension.ExtKind.{ExtKind}
use Rattle.mta_fields.specs.declared.extension.ExtKind.TheVariants.{Standard, Private}
use Rattle.mta_fields.specs.declared.extension.ExtFields.{ExtFields}
use Rattle.mta_fields.specs.ExtensionFields.{IsKind, IsExtField, null, canonical_kind, three_bits}
use Rattle.mta_fields.specs.ExtensionFields.{canonical_criticality, canonical_value, ext_content}
use Rattle.mta_fields.specs.Traces.{bit_if}
use Rattle.mta_fields.proofs.FieldAgain.{bits_spelled}
use Rattle.mta_envelope_extensions.specs.declared.value.Topic.{Topic}
use Rattle.mta_envelope_extensions.specs.declared.value.Topic.TheVariants.{ExpansionHistory, LatestDelivery}
use Rattle.mta_envelope_extensions.specs.declared.value.Topic.TheVariants.{ExpansionProhibited, Other}
use Rattle.mta_envelope_extensions.specs.declared.value.Said.{Said}
use Rattle.mta_envelope_extensions.specs.declared.value.Said.TheVariants.{History, Latest, Prohibited, Unread}
use Rattle.mta_envelope_extensions.specs.declared.value.ExtValue.{ExtValue}
use Rattle.mta_envelope_extensions.specs.declared.field.Held.{Held}
use Rattle.mta_envelope_extensions.specs.declared.field.Told.{Told}
use Rattle.mta_envelope_extensions.specs.declared.field.FieldPart.TheVariants.{FieldType, Criticality, FieldValue}
use Rattle.mta_envelope_extensions.specs.declared.field.FieldParts.{FieldParts}
use Rattle.mta_envelope_extensions.specs.Topics.{topic_of, ext_value, SpellsSaid, SpellsValue}
use Rattle.mta_envelope_extensions.specs.Fields.{is_held, with_criticality, with_value, no_field, told, MakesField}
use Rattle.mta_envelope_extensions.specs.Fields.{IsNull, IsValue, SpellsField}
use Rattle.mta_envelope_extensions.specs.Laws.{IsSaidAt}

-- ---- the criticality

three_added : (a b c : Bool) → AddsBits true no_bits (bits_content (three_bits a b c)) (three_bits a b c)
unfolding bits_content
three_added true true true = record {
  unused = 5;
  octets = 224 ∷ [];
  content_is = refl;
  few = omega arith;
  some =
      inr (refl, omega arith);
  after_is = refl;
}
three_added true true false = record {
  unused = 5;
  octets = 192 ∷ [];
  content_is = refl;
  few = omega arith;
  some =
      inr (refl, omega arith);
  after_is = refl;
}
three_added true false true = record {
  unused = 5;
  octets = 160 ∷ [];
  content_is = refl;
  few = omega arith;
  some =
      inr (refl, omega arith);
  after_is = refl;
}
three_added true false false = record {
  unused = 5;
  octets = 128 ∷ [];
  content_is = refl;
  few = omega arith;
  some =
      inr (refl, omega arith);
  after_is = refl;
}
three_added false true true = record {
  unused = 5;
  octets = 96 ∷ [];
  content_is = refl;
  few = omega arith;
  some =
      inr (refl, omega arith);
  after_is = refl;
}
three_added false true false = record {
  unused = 5;
  octets = 64 ∷ [];
  content_is = refl;
  few = omega arith;
  some =
      inr (refl, omega arith);
  after_is = refl;
}
three_added false false true = record {
  unused = 5;
  octets = 32 ∷ [];
  content_is = refl;
  few = omega arith;
  some =
      inr (refl, omega arith);
  after_is = refl;
}
three_added false false false =
    record {
      unused = 5;
      octets = 0 ∷ [];
      content_is = refl;
      few = omega arith;
      some = inr (refl, omega arith);
      after_is = refl;
    }

abbrev criticality_of : Bool → Bool → Bool → Option BitString
criticality_of true b c = Some (three_bits true b c)
criticality_of false true c = Some (three_bits false true c)
criticality_of false false true = Some (three_bits false false true)
criticality_of false false false = None

abbrev write_criticality : BitString → List ℕ
write_criticality b = canon_bits (primitive 2 1) b

criticality_written : (a b c : Bool) → optional write_criticality (criticality_of a b c) ≡ canonical_criticality a b c
criticality_written true b c = refl
criticality_written false true c = refl
criticality_written false false true = refl
criticality_written false false false = refl

record IsCriticality (b : BitString) : Type 0 where
  adds : AddsBits true no_bits (bits_content b) b
  few : b.count ≤ 64

criticality_is : (a b c : Bool) → IfSome (criticality_of a b c) IsCriticality
criticality_is true b c = record { adds = three_added true b c; few = omega arith }
criticality_is false true c = record { adds = three_added false true c; few = omega arith }
criticality_is false false true = record { adds = three_added false false true; few = omega arith }
criticality_is false false false = tt

record HasBits (o : Option BitString) (a b c : Bool) : Type 0 where
  first : bit_if o 0 ≡ a
  second : bit_if o 1 ≡ b
  third : bit_if o 2 ≡ c

criticality_has : (a b c : Bool) → HasBits (criticality_of a b c) a b c
criticality_has true true true = record { first = refl; second = refl; third = refl }
criticality_has true true false = record { first = refl; second = refl; third = refl }
criticality_has true false true = record { first = refl; second = refl; third = refl }
criticality_has true false false = record { first = refl; second = refl; third = refl }
criticality_has false true true = record { first = refl; second = refl; third = refl }
criticality_has false true false = record { first = refl; second = refl; third = refl }
criticality_has false false true = record { first = refl; second = refl; third = refl }
criticality_has false false false = record { first = refl; second = refl; third = refl }

-- ---- the value

-- NULL says nothing that is read
pub null_there : (depth : ℕ) → depth ≤ 16 → Stands depth (primitive 0 5) [] null
unfolding element ident_octets length_octets
null_there depth d = element_stands depth (primitive 0 5) [] (low_tag 0 5 false (omega arith) (omega arith))
    (omega arith) d

null_tag : (depth : ℕ) (topic : Topic) (s : Said) → IsSaidAt depth topic null s → (tag : Tag) × (tag ≡ primitive 0 5)
    × ((content : List ℕ) × SpellsSaid topic depth tag content s)
null_tag depth topic s h =
    let one = one_spelling depth h.tag (primitive 0 5) h.content [] null null [] [] h.stands
    (null_there depth h.stands.shallow) refl in
    (h.tag, one.1, (h.content, h.spelled))

null_unread : (depth : ℕ) (topic : Topic) (s : Said) → IsSaidAt depth topic null s → IsNull topic (ext_value null s)
null_unread depth topic s h = let n = null_tag depth topic s h in
    go topic s n.2.0 (subst (λ (t : Tag). SpellsSaid topic depth t n.2.0 s) n.1 n.2.1)
  where
    go : (topic : Topic) (s : Said) (content : List ℕ) → SpellsSaid topic depth (primitive 0 5) content s
        → IsNull topic (ext_value null s)
    go ExpansionHistory (History xs) content h = absurd (cc h.0)
    go ExpansionHistory (Latest m) content h = absurd h
    go ExpansionHistory (Prohibited b) content h = absurd h
    go ExpansionHistory Unread content h = absurd h
    go LatestDelivery (History xs) content h = absurd h
    go LatestDelivery (Latest m) content h = absurd (cc h.0)
    go LatestDelivery (Prohibited b) content h = absurd h
    go LatestDelivery Unread content h = absurd h
    go ExpansionProhibited (History xs) content h = absurd h
    go ExpansionProhibited (Latest m) content h = absurd h
    go ExpansionProhibited (Prohibited b) content h = absurd (cc h.0)
    go ExpansionProhibited Unread content h = absurd h
    go Other (History xs) content h = absurd h
    go Other (Latest m) content h = absurd h
    go Other (Prohibited b) content h = absurd h
    go Other Unread content h = refl

abbrev slot_as : Bool → ExtValue → Option ExtValue
slot_as b v = cond b None (Some v)

abbrev slot_of : ExtValue → Option ExtValue
slot_of v = slot_as (bytes_eq v.octets null) v

abbrev write_slot : ExtValue → List ℕ
write_slot v = element (constructed 2 2) v.octets

slot_written : (v : ExtValue) → optional write_slot (slot_of v) ≡ canonical_value v.octets
slot_written v = go (bytes_eq v.octets null)
  where
    go : (b : Bool) → optional write_slot (slot_as b v) ≡ cond b [] (element (constructed 2 2) v.octets)
    go true = refl
    go false = refl

slot_holds : (P : ExtValue → Type 0) (b : Bool) (v : ExtValue) → P v → IfSome (slot_as b v) P
slot_holds P true v h = tt
slot_holds P false v h = h

slot_value : (depth : ℕ) (topic : Topic) (octets : List ℕ) (s : Said) → IsSaidAt depth topic octets s
    → IsValue topic (slot_of (ext_value octets s)) (ext_value octets s)
slot_value depth topic octets s h = go (bytes_eq octets null) refl
  where
    go : (b : Bool) → bytes_eq octets null ≡ b → IsValue topic (slot_as b (ext_value octets s)) (ext_value octets s)
    go true e = (let is : octets ≡ null = (bytes_eq-Decides octets null).0 e in
        subst (λ o. IsNull topic (ext_value o s)) (sym is)
        (null_unread depth topic s (subst (λ o. IsSaidAt depth topic o s) is h)))
    go false e = refl

-- ---- the type

abbrev state : ℕ → FieldParts → FieldParts
state last s = record s { last = last }

abbrev of_parts : Held → ExtKind → Option BitString → Option ExtValue → FieldParts
of_parts held k c v = record { held = held; at = 0; last = 0; kind = Some k; criticality = c; value = v }

kind_spelled : (depth : ℕ) (k : ExtKind) → IsKind k → length (canonical_kind k) < 2 ^ 64 → depth ≤ 16 → (held : Held)
    → is_held (topic_of k) held ≡ false → IsComponent MakesField depth (no_field held 0) (canonical_kind k)
    (state 1 (of_parts held k None None))
kind_spelled depth (Standard n) h short d held first =
    component MakesField depth (no_field held 0) (state 1 (of_parts held (Standard n) None None)) (primitive 2 0)
    (int_content (pos n)) (low_tag 2 0 false (omega arith) (omega arith)) d short (record {
      part = FieldType;
      is_tag_of = refl;
      needed = omega arith;
      behind = omega arith;
      made = record {
        kind = Standard n;
        spelled = inl (refl, number_spelled 32767 n h (omega arith));
        first = first;
        after_is = refl;
      };
    })
kind_spelled depth (Private o) h short d held first =
    component MakesField depth (no_field held 0) (state 1 (of_parts held (Private o) None None)) (primitive 2 3) o
    (low_tag 2 3 false (omega arith) (omega arith)) d short (record {
      part = FieldType;
      is_tag_of = refl;
      needed = omega arith;
      behind = omega arith;
      made = record { kind = Private o; spelled = inl (refl, refl, refl, h); first = first; after_is = refl };
    })

-- ---- all of it

said_spelled : (depth : ℕ) (topic : Topic) (v : ExtValue) → IsSaidAt (depth + 1) topic v.octets v.said
    → SpellsExplicit (SpellsValue topic) depth true v.octets v
said_spelled depth topic v h = record {
  is_constructed = refl;
  tag = h.tag;
  inside = h.content;
  stands = h.stands;
  spelled = record { said = h.spelled; octets_are = refl };
}

module _ (depth : ℕ) (d : depth + 1 ≤ 16) (held : Held) (f : ExtFields) (s : Said)
    (k : IsSaidAt (depth + 1) (topic_of f.kind) f.value s) where
  abbrev criticality : Option BitString
  criticality = criticality_of f.submission f.transfer f.delivery

  abbrev value : ExtValue
  value = ext_value f.value s

  abbrev all_parts : FieldParts
  all_parts = of_parts held f.kind criticality (slot_of value)

  value_from : From MakesField depth state 1 3 (of_parts held f.kind criticality None)
      (optional write_slot (slot_of value)) all_parts
  value_from =
      at_last MakesField depth state 1 3 (of_parts held f.kind criticality None)
      (optional write_slot (slot_of value)) all_parts
      (optional_from MakesField depth state 1 3 4 write_slot
      (λ v. IsSaidAt (depth + 1) (topic_of f.kind) v.octets v.said) (λ o. of_parts held f.kind criticality o)
      (slot_of value) [] all_parts (omega arith)
      (slot_holds (λ v. IsSaidAt (depth + 1) (topic_of f.kind) v.octets v.said) (bytes_eq f.value null) value k)
      (λ x is short last ge lt.
      component MakesField depth (state last (of_parts held f.kind criticality None))
      (state 3 (of_parts held f.kind criticality (Some x))) (constructed 2 2) x.octets
      (low_tag 2 2 true (omega arith) (omega arith)) (omega arith) short (record {
        part = FieldValue;
        is_tag_of = refl;
        needed = ge;
        behind = lt;
        made = record {
          kind = f.kind;
          kind_is = refl;
          puts =
              puts (SpellsExplicit (SpellsValue (topic_of f.kind)) depth true x.octets)
              (with_value (state last (of_parts held f.kind criticality None))) x
              (said_spelled depth (topic_of f.kind) x is);
        };
      }))
      (none_from MakesField depth state 1 4 all_parts))

  criticality_from : From MakesField depth state 1 2 (of_parts held f.kind None None)
      (optional write_criticality criticality ++ optional write_slot (slot_of value)) all_parts
  criticality_from =
      optional_from MakesField depth state 1 2 3 write_criticality IsCriticality
      (λ o. of_parts held f.kind o None) criticality (optional write_slot (slot_of value)) all_parts (omega arith)
      (criticality_is f.submission f.transfer f.delivery)
      (λ x is short last ge lt.
      component MakesField depth (state last (of_parts held f.kind None None))
      (state 2 (of_parts held f.kind (Some x) None)) (primitive 2 1) (bits_content x)
      (low_tag 2 1 false (omega arith) (omega arith)) (omega arith) short (record {
        part = Criticality;
        is_tag_of = refl;
        needed = ge;
        behind = lt;
        made = puts (SpellsBits depth false (bits_content x))
            (with_criticality (state last (of_parts held f.kind None None))) x
            (bits_spelled depth (bits_content x) x is.adds is.few (omega arith));
      }))
      value_from

abbrev criticality_octets : ExtFields → List ℕ
criticality_octets v = optional write_criticality (criticality_of v.submission v.transfer v.delivery)

abbrev slot_octets : ExtFields → Said → List ℕ
slot_octets f s = optional write_slot (slot_of (ext_value f.value s))

content_is : (f : ExtFields) (s : Said) → canonical_kind f.kind
    ++ (criticality_octets f ++ slot_octets f s) ≡ ext_content f
content_is f s =
    sym (append_assoc (canonical_kind f.kind) (criticality_octets f) (slot_octets f s))
    ∙ ap (λ c. canonical_kind f.kind ++ c ++ slot_octets f s) (criticality_written f.submission f.transfer f.delivery)
    ∙ ap (λ o. canonical_kind f.kind ++ canonical_criticality f.submission f.transfer f.delivery ++ o)
    (slot_written (ext_value f.value s))

abbrev told_as : ExtFields → Said → Told
told_as f s = record { field = f; said = s }

told_is : (held : Held) (f : ExtFields) (s : Said) (last : ℕ)
    → told_as f s ≡ told f.kind (state last
    (of_parts held f.kind (criticality_of f.submission f.transfer f.delivery) (slot_of (ext_value f.value s))))
    (ext_value f.value s)
told_is held f s last =
    let bits = criticality_has f.submission f.transfer f.delivery in
    let o = criticality_of f.submission f.transfer f.delivery in
    made f.kind f.submission f.transfer f.delivery (bit_if o 0) (bit_if o 1) (bit_if o 2) (sym bits.first)
    (sym bits.second) (sym bits.third)
  where
    made : (k : ExtKind) (a b c a' b' c' : Bool) → a ≡ a' → b ≡ b' → c ≡ c'
        → ◌≡◌ {A = Told} (record {
          field =
              record { kind = k; submission = a; transfer = b; delivery = c; value = f.value };
          said = s;
        })
        (record {
          field = record { kind = k; submission = a'; transfer = b'; delivery = c'; value = f.value };
          said = s;
        })
    made k a b c a' b' c' e g h = cc

pub told_spelled : (depth : ℕ) (held : Held) (f : ExtFields) (s : Said) → IsExtField f
    → is_held (topic_of f.kind) held ≡ false → IsSaidAt (depth + 2) (topic_of f.kind) f.value s → depth + 2 ≤ 16
    → length (ext_content f) < 2 ^ 64 → SpellsField held depth true (ext_content f) (told_as f s)
told_spelled depth held f s h first k d short =
    let kind = canonical_kind f.kind in
    let behind = criticality_octets f ++ slot_octets f s in
    let size : length (kind ++ behind) < 2 ^ 64 =
    subst (λ octets. length octets < 2 ^ 64) (sym (content_is f s)) short in
    let parts = of_parts held f.kind (criticality_of f.submission f.transfer f.delivery)
    (slot_of (ext_value f.value s)) in
    let deeper : IsSaidAt (depth + 1 + 1) (topic_of f.kind) f.value s =
    subst (λ n. IsSaidAt n (topic_of f.kind) f.value s) (let e : depth + 2 ≡ depth + 1 + 1 = omega arith in e) k in
    let kind_there = kind_spelled (depth + 1) f.kind h.kind (short_front kind behind size) (omega arith) held first in
    let e = criticality_from (depth + 1) (omega arith) held f s deeper (short_back kind behind size) 1 (omega arith)
    (omega arith) in
    let row = row_more MakesField (depth + 1) (no_field held 0) (state 1 (of_parts held f.kind None None))
    (state e.end parts) kind behind kind_there e.row in
    record {
      is_constructed = refl;
      at = 0;
      parts = state e.end parts;
      spelled = row_spelled MakesField depth (no_field held 0) (state e.end parts) (ext_content f)
          (subst (λ octets. IsRow MakesField (depth + 1) (no_field held 0) octets (state e.end parts))
          (content_is f s) row);
      kind = refl;
      value = ext_value f.value s;
      value_is = slot_value (depth + 2) (topic_of f.kind) f.value s k;
      told_is = told_is held f s e.end;
    }
