-- Extension fields are read exactly where they are spelled.
use Rattle.std.proofs.Common.{◌≡◌, ℕ, ◌+◌, ◌≤◌, Bool, true, false, cond, List, [], ◌∷◌, Option, Some, None, Ok, refl}
use Rattle.std.proofs.Common.{sym, ap, subst, ◌∙◌, inl, inr, arith}
use Rattle.std.specs.Prelude.{IfSome, IsTrue, unwrap_or, ◌&&◌, ◌||◌}
use Rattle.mta_ber.specs.declared.fault.Kind.TheVariants.{BadText}
use Rattle.mta_ber.specs.declared.tag.Tag.{Tag}
use Rattle.mta_ber.specs.Bits.{bits_in}
use Rattle.mta_ber.specs.Canon.{primitive}
use Rattle.mta_ber.specs.Element.{Part, explicit}
use Rattle.mta_ber.specs.Explicit.{SpellsExplicit}
use Rattle.mta_ber.specs.Forms.{components_under}
use Rattle.mta_ber.specs.Head.{◌>>=◌}
use Rattle.mta_ber.specs.Octet.{IsOctets}
use Rattle.mta_ber.specs.Oid.{is_oid, oid_in}
use Rattle.mta_ber.specs.Parts.{is_tag, required}
use Rattle.mta_ber.specs.Segmented.{SpellsBits}
use Rattle.mta_ber.proofs.ComponentLaws.{StepSound, StepFull}
use Rattle.mta_ber.proofs.ExplicitLaws.{ReadSound, ReadFull, explicit_sound, explicit_full, in_order_full}
use Rattle.mta_ber.proofs.HeadLaws.{and_true}
use Rattle.mta_ber.proofs.FormLaws.{components_under_sound, components_under_full}
use Rattle.mta_ber.proofs.Steps.{bind_ok, chosen, ok_is, passed, taken, required_so}
use Rattle.mta_ber.proofs.StringLaws.{bits_in_sound, bits_in_full}
use Rattle.mta_names.specs.Strings.{number_in}
use Rattle.mta_names.proofs.ExtensionLaws.{number_sound, number_full, number_small}
use Rattle.mta_names.proofs.Tools.{puts_sound, puts_full, tag_is, picked, not_none, Keeps, spelled_keep}
use Rattle.mta_names.proofs.StandardLaws.{ordered}
use Rattle.mta_fields.specs.declared.extension.ExtKind.{ExtKind}
use Rattle.mta_fields.specs.declared.extension.ExtKind.TheVariants.{Standard, Private}
use Rattle.mta_fields.specs.declared.extension.ExtFields.{ExtFields}
use Rattle.mta_fields.specs.declared.extension.ExtPart.{ExtPart}
use Rattle.mta_fields.specs.declared.extension.ExtPart.TheVariants.{ExtType, Criticality, Value}
use Rattle.mta_fields.specs.declared.extension.ExtParts.{ExtParts}
use Rattle.mta_fields.specs.ExtensionFields.{IsKind, IsElement, IsExtField, null, plain_kind_in, kind_in}
use Rattle.mta_fields.specs.ExtensionFields.{SpellsPlainKind, SpellsKind, ext_part_of, is_ext_tag, ext_place}
use Rattle.mta_fields.specs.ExtensionFields.{ext_needed, with_kind, with_criticality, with_value, whole_in, ext_part_in}
use Rattle.mta_fields.specs.ExtensionFields.{ext_step_of, ext_step, no_ext, ext_field, ext_in, SpellsWhole}
use Rattle.mta_fields.specs.ExtensionFields.{MakesExtPart, MakesExt, SpellsExtField}

-- ---- types

abbrev standard : ℕ → ExtKind
standard n = Standard n

abbrev private : List ℕ → ExtKind
private o = Private o

oid_sound : (o : List ℕ) (p : Part) → oid_in p ≡ Ok o → (p.tag.constructed ≡ false) × (o ≡ p.content)
    × IsTrue (is_oid o)
unfolding oid_in
oid_sound o p e =
    let a = passed p.tag.constructed _ _ o e in
    let b = taken (is_oid p.content) (Ok p.content) (record { at = p.at; kind = BadText }) o a.1 in
    let same = ok_is p.content o b.1 in
    (a.0, sym same, subst (λ x. IsTrue (is_oid x)) same b.0)

oid_full : (o : List ℕ) (p : Part) → p.tag.constructed ≡ false → o ≡ p.content → IsTrue (is_oid o) → oid_in p ≡ Ok o
unfolding oid_in
oid_full o p c is h = (let good : is_oid p.content ≡ true = subst (λ x. is_oid x ≡ true) is h in
    rw (c, good) (ap (λ (x : List ℕ). Ok x) (sym is)))

other_tag : (t : Tag) → is_tag 2 3 t ≡ true → is_tag 2 0 t ≡ false
other_tag t h = let e = tag_is 2 3 t h in rw (e.0, e.1) refl

plain_sound : ReadSound plain_kind_in SpellsPlainKind
unfolding plain_kind_in
plain_sound k p shallow content octets e =
    elim (chosen (is_tag 2 0 p.tag) _ _ _ e) [
      | inl y ↦ (let b = bind_ok (number_in 0 32767 p) (λ n. Ok (standard n)) k y.1 in
          subst (λ x. SpellsPlainKind p.depth p.tag p.content p.octets x) {x = standard b.0}
          (ok_is (standard b.0) k b.2) (y.0, number_sound 0 32767 b.0 p b.1))
      | inr n ↦ elim (chosen (is_tag 2 3 p.tag) _ _ _ n.1) [
        | inl y ↦ (let b = bind_ok (oid_in p) (λ o. Ok (private o)) k y.1 in let s = oid_sound b.0 p b.1 in
            subst (λ x. SpellsPlainKind p.depth p.tag p.content p.octets x) {x = private b.0}
            (ok_is (private b.0) k b.2) (y.0, s.0, s.1, s.2))
        | inr n ↦ absurd (cc n.1)
      ]
    ]

plain_full : ReadFull plain_kind_in SpellsPlainKind
unfolding plain_kind_in
plain_full (Standard n) p shallow h = (let r = number_full 0 32767 n p h.1 in rw (h.0, r) refl)
plain_full (Private o) p shallow h = (let r = oid_full o p h.1 h.2 h.3 in rw (other_tag p.tag h.0, h.0, r) refl)

kind_sound : (k : ExtKind) (p : Part) → p.depth ≤ 16 → IsOctets p.content → IsOctets p.octets → kind_in p ≡ Ok k
    → SpellsKind p.depth p.tag p.content p.octets k
unfolding kind_in
kind_sound k p shallow content octets e =
    elim (chosen (is_tag 2 0 p.tag && p.tag.constructed) _ _ _ e) [
      | inl y ↦ inr (
        (and_true (is_tag 2 0 p.tag) p.tag.constructed y.0).0,
        explicit_sound plain_kind_in SpellsPlainKind plain_sound k p content y.1,
      )
      | inr n ↦ inl (plain_sound k p shallow content octets n.1)
    ]

-- a type with no further tag is primitive
is_plain : (k : ExtKind) (depth : ℕ) (tag : Tag) (content octets : List ℕ) → SpellsPlainKind depth tag content octets k
    → tag.constructed ≡ false
is_plain (Standard n) depth tag content octets h = h.1.primitive
is_plain (Private o) depth tag content octets h = h.1

kind_full : (k : ExtKind) (p : Part) → p.depth ≤ 16 → SpellsKind p.depth p.tag p.content p.octets k → kind_in p ≡ Ok k
unfolding kind_in
kind_full k p shallow h =
    elim h [
      | inl m ↦ (
          let c = is_plain k p.depth p.tag p.content p.octets m in
          let no : (is_tag 2 0 p.tag && p.tag.constructed) ≡ false = rw c (never (is_tag 2 0 p.tag)) in
          ap (λ b. cond b (explicit plain_kind_in p) (plain_kind_in p)) no ∙ plain_full k p shallow m)
      | inr m ↦ (
          let yes : (is_tag 2 0 p.tag && p.tag.constructed) ≡ true = rw (m.0, m.1.is_constructed) refl in
          ap (λ b. cond b (explicit plain_kind_in p) (plain_kind_in p)) yes
          ∙ explicit_full plain_kind_in SpellsPlainKind plain_full k p m.1)
    ]
  where
    never : (b : Bool) → (b && false) ≡ false
    never true = refl
    never false = refl

-- ---- values

whole_sound : ReadSound whole_in SpellsWhole
whole_sound x p shallow content octets e = sym (ok_is p.octets x e)

whole_full : ReadFull whole_in SpellsWhole
whole_full x p shallow h = ap (λ (o : List ℕ). Ok o) (sym h)

-- ---- components

abbrev HasTag : Tag → ExtPart → Type 0
HasTag t k = is_ext_tag k t ≡ true

tagged : (t : Tag) (k : ExtPart) → ext_part_of t ≡ Some k → HasTag t k
tagged t = picked (HasTag t) (is_tag 2 0 t || is_tag 2 3 t) ExtType _ (λ e. e)
    (picked (HasTag t) (is_tag 2 1 t) Criticality _ (λ e. e)
    (picked (HasTag t) (is_tag 2 2 t) Value _ (λ e. e) (not_none (HasTag t))))

found : (k : ExtPart) (t : Tag) → HasTag t k → ext_part_of t ≡ Some k
found ExtType t h = ap (λ b. cond b (Some ExtType)
    (cond (is_tag 2 1 t) (Some Criticality) (cond (is_tag 2 2 t) (Some Value) None))) h
found Criticality t h = let e = tag_is 2 1 t h in rw (e.0, e.1) refl
found Value t h = let e = tag_is 2 2 t h in rw (e.0, e.1) refl

part_sound : (k : ExtPart) (s t : ExtParts) (p : Part) → p.depth ≤ 16 → IsOctets p.content → IsOctets p.octets
    → ext_part_in k s p ≡ Ok t → MakesExtPart k p.depth s p.tag p.content p.octets t
part_sound ExtType s t p d o w e = puts_sound (kind_in p) (with_kind s) t (SpellsKind p.depth p.tag p.content p.octets)
    (λ x r. kind_sound x p d o w r) e
part_sound Criticality s t p d o w e =
    puts_sound (bits_in p) (with_criticality s) t (SpellsBits p.depth p.tag.constructed p.content)
    (λ x r. bits_in_sound p x d o r) e
part_sound Value s t p d o w e =
    puts_sound (explicit whole_in p) (with_value s) t (SpellsExplicit SpellsWhole p.depth p.tag.constructed p.content)
    (λ x r. explicit_sound whole_in SpellsWhole whole_sound x p o r) e

part_full : (k : ExtPart) (s t : ExtParts) (p : Part) → p.depth ≤ 16
    → MakesExtPart k p.depth s p.tag p.content p.octets t → ext_part_in k s p ≡ Ok t
part_full ExtType s t p d h = puts_full (kind_in p) (with_kind s) t (SpellsKind p.depth p.tag p.content p.octets)
    (λ x r. kind_full x p d r) h
part_full Criticality s t p d h =
    puts_full (bits_in p) (with_criticality s) t (SpellsBits p.depth p.tag.constructed p.content)
    (λ x r. bits_in_full p x d r) h
part_full Value s t p d h = puts_full (explicit whole_in p) (with_value s) t
    (SpellsExplicit SpellsWhole p.depth p.tag.constructed p.content)
    (λ x r. explicit_full whole_in SpellsWhole whole_full x p r) h

step_sound : StepSound ext_step MakesExt
unfolding ext_step
step_sound s t p shallow content octets e = go (ext_part_of p.tag) refl e
  where
    go : (o : Option ExtPart) → ext_part_of p.tag ≡ o → ext_step_of o s p ≡ Ok t
        → MakesExt p.depth s p.tag p.content p.octets t
    go None is e = absurd cc
    go (Some k) is e =
        let q = ordered s.last (ext_needed k) (ext_place k) p.at (ext_part_in k s p) t e in
        record {
          part = k;
          is_tag_of = tagged p.tag k is;
          needed = q.1;
          behind = q.0;
          made =
              part_sound k s t p shallow content octets q.2;
        }

step_full : StepFull ext_step MakesExt
unfolding ext_step
step_full s t p shallow h =
    let k = h.part in
    ap (λ o. ext_step_of o s p) (found k p.tag h.is_tag_of)
    ∙ in_order_full s.last (ext_needed k) (ext_place k) p.at (ext_part_in k s p) h.behind h.needed
    ∙ part_full k s t p shallow h.made

pub ext_sound : (v : ExtFields) (p : Part) → IsOctets p.content → ext_in p ≡ Ok v
    → SpellsExtField p.depth p.tag p.content v
unfolding ext_in
ext_sound v p octets e =
    let a = bind_ok (components_under 0 16 ext_step no_ext p)
    (λ s. required s.kind p.at >>= λ k. Ok (ext_field k s)) v e in
    let c = components_under_sound 0 16 ext_step MakesExt step_sound no_ext a.0 p octets a.1 in
    let b = bind_ok (required a.0.kind p.at) (λ k. Ok (ext_field k a.0)) v a.2 in
    subst (λ (x : ExtFields). SpellsExtField p.depth p.tag p.content x) {x = ext_field b.0 a.0}
    (ok_is (ext_field b.0 a.0) v b.2) (record {
      is_tag_of = c.0;
      parts = a.0;
      spelled = c.1;
      kind = required_so a.0.kind p.at b.0 b.1;
      value_is = refl;
    })

pub ext_full : (v : ExtFields) (p : Part) → SpellsExtField p.depth p.tag p.content v → ext_in p ≡ Ok v
unfolding ext_in
ext_full v p h =
    ap (λ r. r >>= λ s. required s.kind p.at >>= λ k. Ok (ext_field k s))
    (components_under_full 0 16 ext_step MakesExt step_full no_ext h.parts p h.is_tag_of h.spelled)
    ∙ ap (λ o. required o p.at >>= λ k. Ok (ext_field k h.parts)) h.kind
    ∙ ap (λ (x : ExtFields). Ok x) (sym h.value_is)

-- ---- what is spelled is a field

plain_is : (k : ExtKind) (depth : ℕ) (tag : Tag) (content octets : List ℕ) → SpellsPlainKind depth tag content octets k
    → IsKind k
plain_is (Standard n) depth tag content octets h = number_small 0 32767 n tag.constructed content h.1
plain_is (Private o) depth tag content octets h = h.3

kind_is : (k : ExtKind) (depth : ℕ) (tag : Tag) (content octets : List ℕ) → SpellsKind depth tag content octets k
    → IsKind k
kind_is k depth tag content octets h =
    elim h [
      | inl m ↦ plain_is k depth tag content octets m
      | inr m ↦ plain_is k (depth + 1) m.1.tag m.1.inside content m.1.spelled
    ]

record Holds (s : ExtParts) : Type 0 where
  kind : IfSome s.kind IsKind
  value : IfSome s.value IsElement

keeps_part : (k : ExtPart) (depth : ℕ) (s t : ExtParts) (tag : Tag) (content octets : List ℕ)
    → MakesExtPart k depth s tag content octets t → Holds s → Holds t
keeps_part ExtType depth s t tag content octets m h =
    (let w = kind_is m.value depth tag content octets m.value_spelled in
    subst Holds (sym m.after_is) (record { kind = w; value = h.value }))
keeps_part Criticality depth s t tag content octets m h =
    subst Holds (sym m.after_is) (record { kind = h.kind; value = h.value })
keeps_part Value depth s t tag content octets m h =
    let x = m.value_spelled in
    let w : IsElement m.value = subst IsElement (sym x.spelled)
    (record { depth = depth + 1; tag = x.tag; content = x.inside; stands = x.stands }) in
    subst Holds (sym m.after_is) (record { kind = h.kind; value = w })

keeps : Keeps MakesExt Holds
keeps depth s t tag content octets stands m h = keeps_part m.part depth s t tag content octets m.made h

-- NULL is an element
null_stands : IsElement null
null_stands = record {
  depth = 1;
  tag = primitive 0 5;
  content = [];
  stands = record {
    count = Some 0;
    header = null;
    is_header = record {
      ident = 5 ∷ [];
      lengths = 0 ∷ [];
      is_ident =
          (omega arith, inl (record { low = omega arith; octet = refl }));
      is_count = inl (omega arith, refl);
      octets_are = refl;
    };
    shallow = omega arith;
    definite = refl;
    indefinite = tt;
    octets_are = refl;
  };
}

value_is : (o : Option (List ℕ)) → IfSome o IsElement → IsElement (unwrap_or o null)
value_is None h = null_stands
value_is (Some v) h = h

pub ext_is : (depth : ℕ) (tag : Tag) (content : List ℕ) (v : ExtFields) → SpellsExtField depth tag content v
    → IsExtField v
ext_is depth c content v h =
    let k = spelled_keep MakesExt Holds keeps depth no_ext h.parts content h.spelled
    (record { kind = tt; value = tt }) in
    let kind : IsKind v.kind = subst (λ o. IfSome o IsKind) h.kind k.kind in
    subst IsExtField (sym h.value_is) (record { kind = kind; value = value_is h.parts.value k.value })
