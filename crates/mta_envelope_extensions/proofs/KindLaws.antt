-- Types of extension fields are read exactly where they are spelled, and NULL is an element.
use Rattle.std.proofs.Common.{◌≡◌, ℕ, ◌+◌, ◌≤◌, Bool, true, false, cond, List, [], ◌∷◌, Some, Ok, refl, sym, ap, subst}
use Rattle.std.proofs.Common.{◌∙◌, inl, inr, arith}
use Rattle.std.specs.Prelude.{IsTrue, ◌&&◌}
use Rattle.mta_ber.specs.declared.fault.Kind.TheVariants.{BadText}
use Rattle.mta_ber.specs.declared.tag.Tag.{Tag}
use Rattle.mta_ber.specs.Canon.{primitive}
use Rattle.mta_ber.specs.Element.{Part, explicit}
use Rattle.mta_ber.specs.Octet.{IsOctets}
use Rattle.mta_ber.specs.Oid.{is_oid, oid_in}
use Rattle.mta_ber.specs.Parts.{is_tag}
use Rattle.mta_ber.proofs.ExplicitLaws.{ReadSound, ReadFull, explicit_sound, explicit_full}
use Rattle.mta_ber.proofs.HeadLaws.{and_true}
use Rattle.mta_ber.proofs.Steps.{bind_ok, chosen, ok_is, passed, taken}
use Rattle.mta_names.specs.Strings.{number_in}
use Rattle.mta_names.proofs.ExtensionLaws.{number_sound, number_full, number_small}
use Rattle.mta_names.proofs.Tools.{tag_is}
use Rattle.mta_fields.specs.declared.extension.ExtKind.{ExtKind}
use Rattle.mta_fields.specs.declared.extension.ExtKind.TheVariants.{Standard, Private}
use Rattle.mta_fields.specs.ExtensionFields.{IsKind, IsElement, null, plain_kind_in, kind_in, SpellsPlainKind}
use Rattle.mta_fields.specs.ExtensionFields.{SpellsKind}

-- ---- types

abbrev standard : ℕ → ExtKind
standard n = Standard n

abbrev private : List ℕ → ExtKind
private o = Private o

oid_sound : (o : List ℕ) (p : Part) → oid_in p ≡ Ok o → (p.tag.constructed ≡ false) × (o ≡ p.content)
    × IsTrue (is_oid o)
unfolding oid_in
oid_sound o p e =
    let a = passed p.tag.constructed _ _ o e in
    let b = taken (is_oid p.content) (Ok p.content) (record { at = p.at; kind = BadText }) o a.1 in
    let same = ok_is p.content o b.1 in
    (a.0, sym same, subst (λ x. IsTrue (is_oid x)) same b.0)

oid_full : (o : List ℕ) (p : Part) → p.tag.constructed ≡ false → o ≡ p.content → IsTrue (is_oid o) → oid_in p ≡ Ok o
unfolding oid_in
oid_full o p c is h = (let good : is_oid p.content ≡ true = subst (λ x. is_oid x ≡ true) is h in
    rw (c, good) (ap (λ (x : List ℕ). Ok x) (sym is)))

other_tag : (t : Tag) → is_tag 2 3 t ≡ true → is_tag 2 0 t ≡ false
other_tag t h = let e = tag_is 2 3 t h in rw (e.0, e.1) refl

plain_sound : ReadSound plain_kind_in SpellsPlainKind
unfolding plain_kind_in
plain_sound k p shallow content octets e =
    elim (chosen (is_tag 2 0 p.tag) _ _ _ e) [
      | inl y ↦ (let b = bind_ok (number_in 0 32767 p) (λ n. Ok (standard n)) k y.1 in
          subst (λ x. SpellsPlainKind p.depth p.tag p.content p.octets x) {x = standard b.0}
          (ok_is (standard b.0) k b.2) (y.0, number_sound 0 32767 b.0 p b.1))
      | inr n ↦ elim (chosen (is_tag 2 3 p.tag) _ _ _ n.1) [
        | inl y ↦ (let b = bind_ok (oid_in p) (λ o. Ok (private o)) k y.1 in let s = oid_sound b.0 p b.1 in
            subst (λ x. SpellsPlainKind p.depth p.tag p.content p.octets x) {x = private b.0}
            (ok_is (private b.0) k b.2) (y.0, s.0, s.1, s.2))
        | inr n ↦ absurd (cc n.1)
      ]
    ]

plain_full : ReadFull plain_kind_in SpellsPlainKind
unfolding plain_kind_in
plain_full (Standard n) p shallow h = (let r = number_full 0 32767 n p h.1 in rw (h.0, r) refl)
plain_full (Private o) p shallow h = (let r = oid_full o p h.1 h.2 h.3 in rw (other_tag p.tag h.0, h.0, r) refl)

pub kind_sound : (k : ExtKind) (p : Part) → p.depth ≤ 16 → IsOctets p.content → IsOctets p.octets → kind_in p ≡ Ok k
    → SpellsKind p.depth p.tag p.content p.octets k
unfolding kind_in
kind_sound k p shallow content octets e =
    elim (chosen (is_tag 2 0 p.tag && p.tag.constructed) _ _ _ e) [
      | inl y ↦ inr (
        (and_true (is_tag 2 0 p.tag) p.tag.constructed y.0).0,
        explicit_sound plain_kind_in SpellsPlainKind plain_sound k p content y.1,
      )
      | inr n ↦ inl (plain_sound k p shallow content octets n.1)
    ]

-- a type with no further tag is primitive
is_plain : (k : ExtKind) (depth : ℕ) (tag : Tag) (content octets : List ℕ) → SpellsPlainKind depth tag content octets k
    → tag.constructed ≡ false
is_plain (Standard n) depth tag content octets h = h.1.primitive
is_plain (Private o) depth tag content octets h = h.1

pub kind_full : (k : ExtKind) (p : Part) → p.depth ≤ 16 → SpellsKind p.depth p.tag p.content p.octets k
    → kind_in p ≡ Ok k
unfolding kind_in
kind_full k p shallow h =
    elim h [
      | inl m ↦ (
          let c = is_plain k p.depth p.tag p.content p.octets m in
          let no : (is_tag 2 0 p.tag && p.tag.constructed) ≡ false = rw c (never (is_tag 2 0 p.tag)) in
          ap (λ b. cond b (explicit plain_kind_in p) (plain_kind_in p)) no ∙ plain_full k p shallow m)
      | inr m ↦ (
          let yes : (is_tag 2 0 p.tag && p.tag.constructed) ≡ true = rw (m.0, m.1.is_constructed) refl in
          ap (λ b. cond b (explicit plain_kind_in p) (plain_kind_in p)) yes
          ∙ explicit_full plain_kind_in SpellsPlainKind plain_full k p m.1)
    ]
  where
    never : (b : Bool) → (b && false) ≡ false
    never true = refl
    never false = refl

plain_is : (k : ExtKind) (depth : ℕ) (tag : Tag) (content octets : List ℕ) → SpellsPlainKind depth tag content octets k
    → IsKind k
plain_is (Standard n) depth tag content octets h = number_small 0 32767 n tag.constructed content h.1
plain_is (Private o) depth tag content octets h = h.3

pub kind_is : (k : ExtKind) (depth : ℕ) (tag : Tag) (content octets : List ℕ) → SpellsKind depth tag content octets k
    → IsKind k
kind_is k depth tag content octets h =
    elim h [
      | inl m ↦ plain_is k depth tag content octets m
      | inr m ↦ plain_is k (depth + 1) m.1.tag m.1.inside content m.1.spelled
    ]

-- NULL is an element
pub null_stands : IsElement null
null_stands = record {
  depth = 1;
  tag = primitive 0 5;
  content = [];
  stands = record {
    count = Some 0;
    header = null;
    is_header = record {
      ident = 5 ∷ [];
      lengths = 0 ∷ [];
      is_ident =
          (omega arith, inl (record { low = omega arith; octet = refl }));
      is_count = inl (omega arith, refl);
      octets_are = refl;
    };
    shallow = omega arith;
    definite = refl;
    indefinite = tt;
    octets_are = refl;
  };
}
