-- What is written of an extension field is spelled so, and is read again.
use Rattle.std.proofs.Common.{◌≡◌, ℕ, ◌+◌, ◌≤◌, ◌<◌, ◌^◌, Bool, true, false, cond, List, [], ◌∷◌, ◌++◌, length, Option}
use Rattle.std.proofs.Common.{Some, None, refl, sym, ap, subst, ◌∙◌, append_assoc, arith, inl, inr, pos}
use Rattle.std.specs.Prelude.{IfSome, unwrap_or}
use Rattle.std.specs.Str.{bytes_eq}
use Rattle.std.proofs.lemmas.Slice.Eq.{bytes_eq-Decides}
use Rattle.mta_ber.specs.Bits.{BitString, no_bits}
use Rattle.mta_ber.specs.Canon.{element, primitive, constructed, optional}
use Rattle.mta_ber.specs.Components.{IsComponent}
use Rattle.mta_ber.specs.Contents.{int_content, bits_content, canon_int, canon_bits}
use Rattle.mta_ber.specs.Explicit.{SpellsExplicit}
use Rattle.mta_ber.specs.Segmented.{AddsBits, SpellsBits}
use Rattle.mta_names.proofs.Again.{low_tag, number_spelled}
use Rattle.mta_names.proofs.Rows.{short_front, short_back, puts, component, IsRow, row_more, row_spelled, From}
use Rattle.mta_names.proofs.Rows.{none_from, optional_from, at_last}
use Rattle.mta_fields.proofs.Tagged.{tagged_again}
use Rattle.mta_fields.specs.declared.extension.ExtKind.{ExtKind}
use Rattle.mta_fields.specs.declared.extension.ExtKind.TheVariants.{Standard, Private}
use Rattle.mta_fields.specs.declared.extension.ExtFields.{ExtFields}
use Rattle.mta_fields.specs.declared.extension.ExtPart.TheVariants.{ExtType, Criticality, Value}
use Rattle.mta_fields.specs.declared.extension.ExtParts.{ExtParts}
use Rattle.mta_fields.specs.ExtensionFields.{IsKind, IsExtField, null, SpellsKind, with_kind, with_criticality}
use Rattle.mta_fields.specs.ExtensionFields.{with_value, no_ext, ext_field, ext_in, SpellsWhole, MakesExt}
use Rattle.mta_fields.specs.ExtensionFields.{SpellsExtField, canonical_kind, three_bits, canonical_criticality}
use Rattle.mta_fields.specs.ExtensionFields.{canonical_value, ext_content, canonical_ext}
use Rattle.mta_fields.specs.Laws.{IsElementAt, KeepsExtField, ExtensionFieldsAreReadAgain}
use Rattle.mta_fields.specs.Traces.{bit_if}
use Rattle.mta_fields.proofs.ExtLaws.{ext_full}
use Rattle.mta_fields.proofs.FieldAgain.{bits_spelled}

-- ---- the criticality

three_added : (a b c : Bool) → AddsBits true no_bits (bits_content (three_bits a b c)) (three_bits a b c)
unfolding bits_content
three_added true true true = record {
  unused = 5;
  octets = 224 ∷ [];
  content_is = refl;
  few = omega arith;
  some =
      inr (refl, omega arith);
  after_is = refl;
}
three_added true true false = record {
  unused = 5;
  octets = 192 ∷ [];
  content_is = refl;
  few = omega arith;
  some =
      inr (refl, omega arith);
  after_is = refl;
}
three_added true false true = record {
  unused = 5;
  octets = 160 ∷ [];
  content_is = refl;
  few = omega arith;
  some =
      inr (refl, omega arith);
  after_is = refl;
}
three_added true false false = record {
  unused = 5;
  octets = 128 ∷ [];
  content_is = refl;
  few = omega arith;
  some =
      inr (refl, omega arith);
  after_is = refl;
}
three_added false true true = record {
  unused = 5;
  octets = 96 ∷ [];
  content_is = refl;
  few = omega arith;
  some =
      inr (refl, omega arith);
  after_is = refl;
}
three_added false true false = record {
  unused = 5;
  octets = 64 ∷ [];
  content_is = refl;
  few = omega arith;
  some =
      inr (refl, omega arith);
  after_is = refl;
}
three_added false false true = record {
  unused = 5;
  octets = 32 ∷ [];
  content_is = refl;
  few = omega arith;
  some =
      inr (refl, omega arith);
  after_is = refl;
}
three_added false false false =
    record {
      unused = 5;
      octets = 0 ∷ [];
      content_is = refl;
      few = omega arith;
      some = inr (refl, omega arith);
      after_is = refl;
    }

abbrev criticality_of : Bool → Bool → Bool → Option BitString
criticality_of true b c = Some (three_bits true b c)
criticality_of false true c = Some (three_bits false true c)
criticality_of false false true = Some (three_bits false false true)
criticality_of false false false = None

abbrev write_criticality : BitString → List ℕ
write_criticality b = canon_bits (primitive 2 1) b

criticality_written : (a b c : Bool) → optional write_criticality (criticality_of a b c) ≡ canonical_criticality a b c
criticality_written true b c = refl
criticality_written false true c = refl
criticality_written false false true = refl
criticality_written false false false = refl

record IsCriticality (b : BitString) : Type 0 where
  adds : AddsBits true no_bits (bits_content b) b
  few : b.count ≤ 64

criticality_is : (a b c : Bool) → IfSome (criticality_of a b c) IsCriticality
criticality_is true b c = record { adds = three_added true b c; few = omega arith }
criticality_is false true c = record { adds = three_added false true c; few = omega arith }
criticality_is false false true = record { adds = three_added false false true; few = omega arith }
criticality_is false false false = tt

record HasBits (o : Option BitString) (a b c : Bool) : Type 0 where
  first : bit_if o 0 ≡ a
  second : bit_if o 1 ≡ b
  third : bit_if o 2 ≡ c

criticality_has : (a b c : Bool) → HasBits (criticality_of a b c) a b c
criticality_has true true true = record { first = refl; second = refl; third = refl }
criticality_has true true false = record { first = refl; second = refl; third = refl }
criticality_has true false true = record { first = refl; second = refl; third = refl }
criticality_has true false false = record { first = refl; second = refl; third = refl }
criticality_has false true true = record { first = refl; second = refl; third = refl }
criticality_has false true false = record { first = refl; second = refl; third = refl }
criticality_has false false true = record { first = refl; second = refl; third = refl }
criticality_has false false false = record { first = refl; second = refl; third = refl }

-- ---- the value

abbrev value_as : Bool → List ℕ → Option (List ℕ)
value_as b v = cond b None (Some v)

abbrev value_of : List ℕ → Option (List ℕ)
value_of v = value_as (bytes_eq v null) v

abbrev write_value : List ℕ → List ℕ
write_value v = element (constructed 2 2) v

value_written : (v : List ℕ) → optional write_value (value_of v) ≡ canonical_value v
value_written v = go (bytes_eq v null)
  where
    go : (b : Bool) → optional write_value (value_as b v) ≡ cond b [] (element (constructed 2 2) v)
    go true = refl
    go false = refl

value_holds : (P : List ℕ → Type 0) (b : Bool) (v : List ℕ) → P v → IfSome (value_as b v) P
value_holds P true v h = tt
value_holds P false v h = h

-- a value that is left out is NULL
value_is : (v : List ℕ) → unwrap_or (value_of v) null ≡ v
value_is v = go (bytes_eq v null) refl
  where
    go : (b : Bool) → bytes_eq v null ≡ b → unwrap_or (value_as b v) null ≡ v
    go true e = sym ((bytes_eq-Decides v null).0 e)
    go false e = refl

value_spelled : (depth : ℕ) (v : List ℕ) → IsElementAt (depth + 1) v → SpellsExplicit SpellsWhole depth true v v
value_spelled depth v h = record {
  is_constructed = refl;
  tag = h.tag;
  inside = h.content;
  stands = h.stands;
  spelled =
      refl;
}

-- ---- the type

abbrev state : ℕ → ExtParts → ExtParts
state last s = record s { last = last }

abbrev of_parts : ExtKind → Option BitString → Option (List ℕ) → ExtParts
of_parts k c v = record { last = 0; kind = Some k; criticality = c; value = v }

kind_component : (depth : ℕ) (k : ExtKind) → IsKind k → depth ≤ 16 → length (canonical_kind k) < 2 ^ 64
    → IsComponent MakesExt depth no_ext (canonical_kind k) (state 1 (of_parts k None None))
kind_component depth (Standard n) h d short =
    component MakesExt depth no_ext (state 1 (of_parts (Standard n) None None)) (primitive 2 0) (int_content (pos n))
    (low_tag 2 0 false (omega arith) (omega arith)) d short (record {
      part = ExtType;
      is_tag_of = refl;
      needed = omega arith;
      behind = omega arith;
      made = puts (SpellsKind depth (primitive 2 0) (int_content (pos n)) (canon_int (primitive 2 0) (pos n)))
          (with_kind no_ext) (Standard n) (inl (refl, number_spelled 32767 n h (omega arith)));
    })
kind_component depth (Private o) h d short =
    component MakesExt depth no_ext (state 1 (of_parts (Private o) None None)) (primitive 2 3) o
    (low_tag 2 3 false (omega arith) (omega arith)) d short (record {
      part = ExtType;
      is_tag_of = refl;
      needed = omega arith;
      behind = omega arith;
      made = puts (SpellsKind depth (primitive 2 3) o (element (primitive 2 3) o)) (with_kind no_ext) (Private o)
          (inl (refl, refl, refl, h));
    })

-- ---- all of it

module _ (depth : ℕ) (d : depth + 1 ≤ 16) (v : ExtFields) (k : IsElementAt (depth + 1) v.value) where
  abbrev criticality : Option BitString
  criticality = criticality_of v.submission v.transfer v.delivery

  abbrev all_parts : ExtParts
  all_parts = of_parts v.kind criticality (value_of v.value)

  value_from : From MakesExt depth state 1 3 (of_parts v.kind criticality None)
      (optional write_value (value_of v.value)) all_parts
  value_from =
      at_last MakesExt depth state 1 3 (of_parts v.kind criticality None)
      (optional write_value (value_of v.value)) all_parts
      (optional_from MakesExt depth state 1 3 4 write_value (IsElementAt (depth + 1))
      (λ o. of_parts v.kind criticality o) (value_of v.value) [] all_parts (omega arith)
      (value_holds (IsElementAt (depth + 1)) (bytes_eq v.value null) v.value k)
      (λ x is short last ge lt.
      component MakesExt depth (state last (of_parts v.kind criticality None))
      (state 3 (of_parts v.kind criticality (Some x))) (constructed 2 2) x
      (low_tag 2 2 true (omega arith) (omega arith)) (omega arith) short (record {
        part = Value;
        is_tag_of = refl;
        needed = ge;
        behind = lt;
        made = puts (SpellsExplicit SpellsWhole depth true x)
            (with_value (state last (of_parts v.kind criticality None))) x (value_spelled depth x is);
      }))
      (none_from MakesExt depth state 1 4 all_parts))

  criticality_from : From MakesExt depth state 1 2 (of_parts v.kind None None)
      (optional write_criticality criticality ++ optional write_value (value_of v.value)) all_parts
  criticality_from =
      optional_from MakesExt depth state 1 2 3 write_criticality IsCriticality (λ o. of_parts v.kind o None) criticality
      (optional write_value (value_of v.value)) all_parts (omega arith)
      (criticality_is v.submission v.transfer v.delivery)
      (λ x is short last ge lt.
      component MakesExt depth (state last (of_parts v.kind None None)) (state 2 (of_parts v.kind (Some x) None))
      (primitive 2 1) (bits_content x) (low_tag 2 1 false (omega arith) (omega arith)) (omega arith) short (record {
        part = Criticality;
        is_tag_of = refl;
        needed = ge;
        behind = lt;
        made = puts (SpellsBits depth false (bits_content x))
            (with_criticality (state last (of_parts v.kind None None))) x
            (bits_spelled depth (bits_content x) x is.adds is.few (omega arith));
      }))
      value_from

abbrev criticality_octets : ExtFields → List ℕ
criticality_octets v = optional write_criticality (criticality_of v.submission v.transfer v.delivery)

abbrev value_octets : ExtFields → List ℕ
value_octets v = optional write_value (value_of v.value)

content_is : (v : ExtFields) → canonical_kind v.kind ++ (criticality_octets v ++ value_octets v) ≡ ext_content v
content_is v =
    sym (append_assoc (canonical_kind v.kind) (criticality_octets v) (value_octets v))
    ∙ ap (λ c. canonical_kind v.kind ++ c ++ value_octets v) (criticality_written v.submission v.transfer v.delivery)
    ∙ ap (λ o. canonical_kind v.kind ++ canonical_criticality v.submission v.transfer v.delivery ++ o)
    (value_written v.value)

field_is : (v : ExtFields) (last : ℕ)
    → v ≡ ext_field v.kind (state last
    (of_parts v.kind (criticality_of v.submission v.transfer v.delivery) (value_of v.value)))
field_is v last =
    let bits = criticality_has v.submission v.transfer v.delivery in
    let o = criticality_of v.submission v.transfer v.delivery in
    made v.kind v.submission v.transfer v.delivery (bit_if o 0) (bit_if o 1) (bit_if o 2) v.value
    (unwrap_or (value_of v.value) null) (sym bits.first) (sym bits.second) (sym bits.third) (sym (value_is v.value))
  where
    made : (k : ExtKind) (a b c a' b' c' : Bool) (x x' : List ℕ) → a ≡ a' → b ≡ b' → c ≡ c' → x ≡ x'
        → ◌≡◌ {A = ExtFields} (record { kind = k; submission = a; transfer = b; delivery = c; value = x })
        (record { kind = k; submission = a'; transfer = b'; delivery = c'; value = x' })
    made k a b c a' b' c' x x' e f g h = cc

kept_inside : (depth : ℕ) (octets : List ℕ) → IsElementAt (depth + 2) octets → IsElementAt (depth + 1 + 1) octets
kept_inside depth octets h = subst (λ k. IsElementAt k octets) (let e : depth + 2 ≡ depth + 1 + 1 = omega arith in e) h

pub extension_field_spelled : (depth : ℕ) (v : ExtFields) → IsExtField v → KeepsExtField depth v → depth + 2 ≤ 16
    → length (ext_content v) < 2 ^ 64 → SpellsExtField depth (constructed 0 16) (ext_content v) v
extension_field_spelled depth v h k d short =
    let kind = canonical_kind v.kind in
    let behind = criticality_octets v ++ value_octets v in
    let size : length (kind ++ behind) < 2 ^ 64 = subst (λ octets. length octets < 2 ^ 64) (sym (content_is v)) short in
    let parts = of_parts v.kind (criticality_of v.submission v.transfer v.delivery) (value_of v.value) in
    let kind_there = kind_component (depth + 1) v.kind h.kind (omega arith) (short_front kind behind size) in
    let e = criticality_from (depth + 1) (omega arith) v (kept_inside depth v.value k) (short_back kind behind size) 1
    (omega arith) (omega arith) in
    let row = row_more MakesExt (depth + 1) no_ext (state 1 (of_parts v.kind None None))
    (state e.end parts) kind behind kind_there e.row in
    record {
      is_tag_of = refl;
      parts = state e.end parts;
      spelled = row_spelled MakesExt depth no_ext (state e.end parts) (ext_content v)
          (subst (λ octets. IsRow MakesExt (depth + 1) no_ext octets (state e.end parts)) (content_is v) row);
      kind = refl;
      value_is = field_is v e.end;
    }

pub extension_fields_again : ExtensionFieldsAreReadAgain
unfolding canonical_ext
extension_fields_again depth v h k d = tagged_again ext_in SpellsExtField ext_full depth (constructed 0 16)
    (ext_content v) v (low_tag 0 16 true (omega arith) (omega arith)) (omega arith)
    (extension_field_spelled depth v h k d)
