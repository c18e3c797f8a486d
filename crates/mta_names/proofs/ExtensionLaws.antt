-- Extension attributes are read exactly where they are spelled.
use Rattle.std.proofs.Common.{◌≡◌, ℕ, ◌+◌, ◌≤◌, Bool, true, false, cond, eqb, List, [], ◌∷◌, Option, Some, None, Ok}
use Rattle.std.proofs.Common.{refl, sym, ap, subst, ◌∙◌, arith, inl, inr, ℤ, pos}
use Rattle.std.specs.Prelude.{IfSome, is_some, ◌&&◌, unsigned_abs, negsuc}
use Rattle.std.proofs.lemmas.Bool.{eqb-true, eqb-false}
use Rattle.std.proofs.lemmas.Bool.Decides.{nat_tests}
use Rattle.mta_ber.specs.declared.fault.Kind.TheVariants.{BadTag, BadSize}
use Rattle.mta_ber.specs.declared.tag.Tag.{Tag}
use Rattle.mta_ber.specs.declared.text.TextClass.TheVariants.{Printable}
use Rattle.mta_ber.specs.Components.{AreComponents, SpellsComponents}
use Rattle.mta_ber.specs.Element.{Part, explicit}
use Rattle.mta_ber.specs.Forms.{is_constructed_tag}
use Rattle.mta_ber.specs.Head.{◌>>=◌, fault}
use Rattle.mta_ber.specs.Int.{int_in, in_range, SpellsInteger}
use Rattle.mta_ber.specs.Octet.{IsOctets}
use Rattle.mta_ber.specs.Parts.{components, required, is_tag}
use Rattle.mta_ber.specs.Spelling.{Stands}
use Rattle.mta_ber.specs.Strings.{text_in, between, IsText}
use Rattle.mta_ber.proofs.ComponentLaws.{StepSound, StepFull}
use Rattle.mta_ber.proofs.ExplicitLaws.{ReadSound, ReadFull, explicit_sound, explicit_full}
use Rattle.mta_ber.proofs.IntLaws.{int_sound, int_full}
use Rattle.mta_ber.proofs.Steps.{bind_ok, chosen, ok_is, passed, taken, required_so}
use Rattle.mta_ber.proofs.StringLaws.{text_sound, text_full}
use Rattle.mta_names.specs.declared.attributes.Attribute.{Attribute}
use Rattle.mta_names.specs.declared.attributes.ExtraFields.{ExtraFields}
use Rattle.mta_names.specs.declared.extension.AttributeFields.{AttributeFields}
use Rattle.mta_names.specs.declared.extension.AttributeValue.{AttributeValue}
use Rattle.mta_names.specs.declared.extension.AttributeValue.TheVariants.{Name, Raw}
use Rattle.mta_names.specs.declared.extension.AttributeParts.{AttributeParts}
use Rattle.mta_names.specs.declared.extension.ExtensionParts.{ExtensionParts}
use Rattle.mta_names.specs.Extensions.{common_choice, value_in, typed, type_in, valued, attribute_step, no_attribute}
use Rattle.mta_names.specs.Extensions.{attribute_fields, attribute_parts_in, attribute_as, attribute, IsAttributeOf}
use Rattle.mta_names.specs.Extensions.{IsAttribute, attribute_in, with_attribute, extension_step, no_extensions}
use Rattle.mta_names.specs.Extensions.{extension_count, extensions_in, SpellsPrintable, SpellsAttributeValue, MakesType}
use Rattle.mta_names.specs.Extensions.{MakesAttributeValue, MakesAttribute, SpellsAttributeFields, SpellsAttribute}
use Rattle.mta_names.specs.Extensions.{MakesExtension, SpellsExtensions}
use Rattle.mta_names.specs.Lists.{is_printable, is_sequence}
use Rattle.mta_names.specs.Strings.{number_in, SpellsNumber}
use Rattle.mta_names.specs.Values.{Each, IsExtra}
use Rattle.mta_names.proofs.Tools.{puts_sound, puts_full, constructed_tag, tag_is, components_sound, components_full}
use Rattle.mta_names.proofs.Tools.{counted_so, so_between, each_more, Keeps, spelled_keep}

-- ---- numbers

not_below : (low high : ℕ) (n : ℤ) → in_range (pos low) (pos high) n ≡ true → n ≡ pos (unsigned_abs n)
not_below low high (pos n) e = refl
not_below low high (negsuc n) e = absurd cc

pub number_sound : (low high n : ℕ) (p : Part) → number_in low high p ≡ Ok n
    → SpellsNumber low high p.tag.constructed p.content n
unfolding number_in
number_sound low high n p e =
    let b = bind_ok (int_in p.at p.tag.constructed (pos low) (pos high) p.content) (λ n. Ok (unsigned_abs n)) n e in
    let s = int_sound p.at p.tag.constructed (pos low) (pos high) p.content b.0 b.1 in
    let same : b.0 ≡ pos n = not_below low high b.0 s.range ∙ ap pos (ok_is (unsigned_abs b.0) n b.2) in
    subst (λ k. SpellsInteger (pos low) (pos high) p.tag.constructed p.content k) same s

pub number_full : (low high n : ℕ) (p : Part) → SpellsNumber low high p.tag.constructed p.content n
    → number_in low high p ≡ Ok n
unfolding number_in
number_full low high n p h = ap (λ r. r >>= λ n. Ok (unsigned_abs n))
    (int_full p.at p.tag.constructed (pos low) (pos high) p.content (pos n) h)

pub number_small : (low high n : ℕ) (c : Bool) (content : List ℕ) → SpellsNumber low high c content n → n ≤ high
number_small low high n c content h = small n (h.range)
  where
    small : (n : ℕ) → in_range (pos low) (pos high) (pos n) ≡ true → n ≤ high
    small n e = grind (arith, nat_tests)

-- ---- the value of an attribute

common_sound : ReadSound common_choice (SpellsPrintable 1 64)
common_sound t p shallow content octets e =
    let c = taken (is_printable p.tag) (text_in Printable 1 64 p) _ t e in
    (c.0, text_sound Printable 1 64 p t shallow content c.1)

common_full : ReadFull common_choice (SpellsPrintable 1 64)
common_full t p shallow h = ap (λ b. cond b (text_in Printable 1 64 p) (fault p.at BadTag)) h.0
    ∙ text_full Printable 1 64 p t shallow h.1

abbrev named : List ℕ → AttributeValue
named t = Name t

abbrev raw : List ℕ → AttributeValue
raw o = Raw o

value_sound : (n : ℕ) (v : AttributeValue) (p : Part) → IsOctets p.content → value_in n p ≡ Ok v
    → SpellsAttributeValue (eqb n 1) p.depth p.tag p.content p.octets v
unfolding value_in
value_sound n v p octets e = go (eqb n 1) e
  where
    go : (b : Bool) → cond b (explicit common_choice p >>= λ t. Ok (named t)) (Ok (raw p.octets)) ≡ Ok v
        → SpellsAttributeValue b p.depth p.tag p.content p.octets v
    go true e =
        let b = bind_ok (explicit common_choice p) (λ t. Ok (named t)) v e in
        subst (SpellsAttributeValue true p.depth p.tag p.content p.octets) {x = named b.0} (ok_is (named b.0) v b.2)
        (refl, explicit_sound common_choice (SpellsPrintable 1 64) common_sound b.0 p octets b.1)
    go false e = subst (SpellsAttributeValue false p.depth p.tag p.content p.octets) {x = raw p.octets}
        (ok_is (raw p.octets) v e) (refl, refl)

value_full : (n : ℕ) (v : AttributeValue) (p : Part) → SpellsAttributeValue (eqb n 1) p.depth p.tag p.content p.octets v
    → value_in n p ≡ Ok v
unfolding value_in
value_full n (Name t) p h = rw h.0
    (ap (λ r. r >>= λ t. Ok (named t)) (explicit_full common_choice (SpellsPrintable 1 64) common_full t p h.1))
value_full n (Raw o) p h = rw h.0 (ap (λ (x : List ℕ). Ok (raw x)) (sym h.1))

-- ---- one attribute

none_so : {A : Type 0} (o : Option A) → is_some o ≡ false → o ≡ None
none_so None e = refl
none_so (Some x) e = absurd cc

type_sound : (s t : AttributeParts) (p : Part) → is_tag 2 0 p.tag ≡ true → type_in s p ≡ Ok t
    → MakesType s p.tag p.content t
type_sound s t p is e =
    let a = passed (is_some s.number) _ _ t e in
    let b = bind_ok (number_in 0 32767 p) (typed s) t a.1 in
    let c = passed (eqb b.0 1 && s.taken) _ _ t b.2 in
    record {
      is_tag_of = is;
      absent = none_so s.number a.0;
      number = b.0;
      spelled = number_sound 0 32767 b.0 p b.1;
      once_only = c.0;
      after_is = sym (ok_is (record s { number = Some b.0 }) t c.1);
    }

type_full : (s t : AttributeParts) (p : Part) → MakesType s p.tag p.content t → type_in s p ≡ Ok t
type_full s t p h =
    let r = number_full 0 32767 h.number p h.spelled in
    rw (h.absent, r, h.once_only) (ap (λ (x : AttributeParts). Ok x) (sym h.after_is))

attribute_value_sound : (s t : AttributeParts) (p : Part) (o : Option ℕ) → s.number ≡ o
    → is_constructed_tag 2 1 p.tag ≡ true → IsOctets p.content → valued s o p ≡ Ok t
    → MakesAttributeValue p.depth s p.tag p.content p.octets t
attribute_value_sound s t p None w is octets e = absurd cc
attribute_value_sound s t p (Some n) w is octets e =
    let a = passed (is_some s.value) _ _ t e in
    record {
      is_tag_of = is;
      number = n;
      typed_so = w;
      absent = none_so s.value a.0;
      puts = puts_sound (value_in n p) (λ v. record s { value = Some v }) t
          (SpellsAttributeValue (eqb n 1) p.depth p.tag p.content p.octets) (λ v r. value_sound n v p octets r) a.1;
    }

attribute_value_full : (s t : AttributeParts) (p : Part) → MakesAttributeValue p.depth s p.tag p.content p.octets t
    → valued s s.number p ≡ Ok t
attribute_value_full s t p h =
    ap (λ o. valued s o p) h.typed_so
    ∙ ap (λ o. cond (is_some o) (fault p.at BadTag) (value_in h.number p >>= λ v. Ok (record s { value = Some v })))
    h.absent
    ∙ puts_full (value_in h.number p) (λ v. record s { value = Some v }) t
    (SpellsAttributeValue (eqb h.number 1) p.depth p.tag p.content p.octets)
    (λ v r. value_full h.number v p r) h.puts

other_tag : (t : Tag) → is_tag 2 1 t ≡ true → is_tag 2 0 t ≡ false
other_tag t h = let e = tag_is 2 1 t h in rw (e.0, e.1) refl

step_sound : StepSound attribute_step MakesAttribute
unfolding attribute_step
step_sound s t p shallow content octets e =
    elim (chosen (is_tag 2 0 p.tag) _ _ _ e) [
      | inl y ↦ inl (type_sound s t p y.0 y.1)
      | inr n ↦ elim (chosen (is_constructed_tag 2 1 p.tag) _ _ _ n.1) [
        | inl y ↦ inr (attribute_value_sound s t p s.number refl y.0 content y.1)
        | inr n ↦ absurd (cc n.1)
      ]
    ]

step_full : StepFull attribute_step MakesAttribute
unfolding attribute_step
step_full s t p shallow h =
    elim h [
      | inl m ↦ rw m.is_tag_of (type_full s t p m)
      | inr m ↦ rw (other_tag p.tag (constructed_tag 2 1 p.tag m.is_tag_of).0, m.is_tag_of)
          (attribute_value_full s t p m)
    ]

pub fields_sound : (taken : Bool) (x : AttributeFields) (p : Part) → IsOctets p.content
    → attribute_parts_in taken p ≡ Ok x → SpellsAttributeFields taken p.depth p.tag.constructed p.content x
unfolding attribute_parts_in
fields_sound taken x p octets e =
    let none = no_attribute taken p.at in
    let a = bind_ok (components attribute_step none p)
    (λ s. required s.number p.at >>= λ n. required s.value p.at >>= λ v. Ok (attribute_fields n v)) x e in
    let c = components_sound attribute_step MakesAttribute step_sound none a.0 p octets a.1 in
    let b = bind_ok (required a.0.number p.at) (λ n. required a.0.value p.at >>= λ v. Ok (attribute_fields n v)) x a.2
    in
    let d = bind_ok (required a.0.value p.at) (λ v. Ok (attribute_fields b.0 v)) x b.2 in
    subst (λ (y : AttributeFields). SpellsAttributeFields taken p.depth p.tag.constructed p.content y) {x =
    attribute_fields b.0 d.0} (ok_is (attribute_fields b.0 d.0) x d.2) (record {
      is_constructed = c.0;
      at = p.at;
      parts = a.0;
      spelled = c.1;
      number = required_so a.0.number p.at b.0 b.1;
      value = required_so a.0.value p.at d.0 d.1;
    })

-- the offset of an attribute plays no part in what it spells
abbrev moved : ℕ → AttributeParts → AttributeParts
moved at s = record s { at = at }

makes_moved : (at depth : ℕ) (s t : AttributeParts) (tag : Tag) (content octets : List ℕ)
    → MakesAttribute depth s tag content octets t → MakesAttribute depth (moved at s) tag content octets (moved at t)
makes_moved at depth s t tag content octets h =
    elim h [
      | inl m ↦ inl (record {
        is_tag_of = m.is_tag_of;
        absent = m.absent;
        number = m.number;
        spelled = m.spelled;
        once_only = m.once_only;
        after_is = ap (moved at) m.after_is;
      })
      | inr m ↦ inr (record {
        is_tag_of = m.is_tag_of;
        number = m.number;
        typed_so = m.typed_so;
        absent = m.absent;
        puts = record {
          value = m.puts.value;
          value_spelled = m.puts.value_spelled;
          after_is =
              ap (moved at) m.puts.after_is;
        };
      })
    ]

are_moved : (at depth : ℕ) (s t : AttributeParts) (es : List (List ℕ)) → AreComponents MakesAttribute depth s es t
    → AreComponents MakesAttribute depth (moved at s) es (moved at t)
are_moved at depth s t [] h = ap (moved at) h
are_moved at depth s t (e ∷ es) h = (
  moved at h.0,
  record {
    tag = h.1.tag;
    content = h.1.content;
    stands = h.1.stands;
    made =
        makes_moved at depth s h.0 h.1.tag h.1.content e h.1.made;
  },
  are_moved at depth h.0 t es h.2,
)

fields_full : (taken : Bool) (x : AttributeFields) (p : Part)
    → SpellsAttributeFields taken p.depth p.tag.constructed p.content x → attribute_parts_in taken p ≡ Ok x
unfolding attribute_parts_in
fields_full taken x p h =
    let none = no_attribute taken p.at in
    let parts = moved p.at h.parts in
    let spelled : SpellsComponents MakesAttribute p.depth none p.content parts =
    record {
      components = h.spelled.components;
      joined = h.spelled.joined;
      are =
          are_moved p.at (p.depth + 1) (no_attribute taken h.at) h.parts h.spelled.components h.spelled.are;
    } in
    ap (λ r. r >>= λ s. required s.number p.at >>= λ n. required s.value p.at >>= λ v. Ok (attribute_fields n v))
    (components_full attribute_step MakesAttribute step_full none parts p h.is_constructed spelled)
    ∙ ap (λ o. required o p.at >>= λ n. required h.parts.value p.at >>= λ v. Ok (attribute_fields n v)) h.number
    ∙ ap (λ o. required o p.at >>= λ v. Ok (attribute_fields x.number v)) h.value

attribute_sound : (taken : Bool) (x : Attribute) (p : Part) → IsOctets p.content → attribute_in taken p ≡ Ok x
    → SpellsAttribute taken p.depth p.tag.constructed p.content x
unfolding attribute_in
attribute_sound taken x p octets e =
    let b = bind_ok (attribute_parts_in taken p) (λ f. Ok (attribute f)) x e in
    record {
      fields = b.0;
      spelled = fields_sound taken b.0 p octets b.1;
      attribute_is =
          sym (ok_is (attribute b.0) x b.2);
    }

attribute_full : (taken : Bool) (x : Attribute) (p : Part) → SpellsAttribute taken p.depth p.tag.constructed p.content x
    → attribute_in taken p ≡ Ok x
unfolding attribute_in
attribute_full taken x p h = ap (λ r. r >>= λ f. Ok (attribute f)) (fields_full taken h.fields p h.spelled)
    ∙ ap (λ (x : Attribute). Ok x) (sym h.attribute_is)

-- ---- all attributes

extension_step_sound : StepSound extension_step MakesExtension
unfolding extension_step
extension_step_sound s t p shallow content octets e =
    let c = taken (is_sequence p.tag) (attribute_in (is_some s.common) p >>= λ x. Ok (with_attribute x s)) _ t e in
    record {
      is_sequence_tag = c.0;
      puts = puts_sound (attribute_in (is_some s.common) p) (λ x. with_attribute x s) t
          (SpellsAttribute (is_some s.common) p.depth p.tag.constructed p.content)
          (λ x r. attribute_sound (is_some s.common) x p content r) c.1;
    }

extension_step_full : StepFull extension_step MakesExtension
unfolding extension_step
extension_step_full s t p shallow h =
    ap (λ b. cond b (attribute_in (is_some s.common) p >>= λ x. Ok (with_attribute x s)) (fault p.at BadTag))
    h.is_sequence_tag
    ∙ puts_full (attribute_in (is_some s.common) p) (λ x. with_attribute x s) t
    (SpellsAttribute (is_some s.common) p.depth p.tag.constructed p.content)
    (λ x r. attribute_full (is_some s.common) x p r) h.puts

pub extensions_sound : (s : ExtensionParts) (p : Part) → IsOctets p.content → extensions_in p ≡ Ok s
    → SpellsExtensions p.depth p.tag.constructed p.content s
unfolding extensions_in
extensions_sound s p octets e =
    let b = bind_ok (components extension_step no_extensions p)
    (λ s. cond (between 1 256 (extension_count s)) (Ok s) (fault p.at BadSize)) s e in
    let c = components_sound extension_step MakesExtension extension_step_sound no_extensions b.0 p octets b.1 in
    let d = counted_so 1 256 (extension_count b.0) p.at b.0 s b.2 in
    subst (λ (t : ExtensionParts). SpellsExtensions p.depth p.tag.constructed p.content t) {x = b.0} d.2
    (record { is_constructed = c.0; spelled = c.1; at_least = d.0; at_most = d.1 })

pub extensions_full : (s : ExtensionParts) (p : Part) → SpellsExtensions p.depth p.tag.constructed p.content s
    → extensions_in p ≡ Ok s
unfolding extensions_in
extensions_full s p h =
    ap (λ r. r >>= λ s. cond (between 1 256 (extension_count s)) (Ok s) (fault p.at BadSize))
    (components_full extension_step MakesExtension extension_step_full no_extensions s p h.is_constructed h.spelled)
    ∙ rw (so_between 1 256 (extension_count s) h.at_least h.at_most) refl

-- ---- what is spelled is such as it may be

record Held (s : AttributeParts) : Type 0 where
  small : IfSome s.number (λ n. n ≤ 32767)
  fits : (n : ℕ) → s.number ≡ Some n → IfSome s.value (IsAttributeOf n)
  none : s.number ≡ None → s.value ≡ None

abbrev extra : ℕ → List ℕ → ExtraFields
extra n octets = record { number = n; raw = octets }

value_fits : (n depth : ℕ) (tag : Tag) (content octets : List ℕ) (v : AttributeValue) → n ≤ 32767
    → is_constructed_tag 2 1 tag ≡ true → Stands depth tag content octets
    → SpellsAttributeValue (eqb n 1) depth tag content octets v → IsAttributeOf n v
value_fits n depth tag content octets (Name t) small is stands h = (eqb-true n 1 h.0, h.1.spelled.1.is_text)
value_fits n depth tag content octets (Raw o) small is stands h =
    subst (λ (x : List ℕ). IsExtra (extra n x)) (sym h.1) (record {
      small = small;
      other = eqb-false n 1 h.0;
      raw = record {
        depth = depth;
        tag = tag;
        content = content;
        is_tag_of = (constructed_tag 2 1 tag is).0;
        stands =
            stands;
      };
      explicit = (constructed_tag 2 1 tag is).1;
    })

nothing_fits : (P : AttributeValue → Type 0) (o : Option AttributeValue) → o ≡ None → IfSome o P
nothing_fits P o e = subst (λ x. IfSome x P) (sym e) tt

abbrev some_number : ℕ → Option ℕ
some_number n = Some n

number_is : (m n : ℕ) → some_number m ≡ some_number n → m ≡ n
number_is m n e = cc

held : Keeps MakesAttribute Held
held depth s t tag content octets stands h k =
    elim h [
      | inl m ↦ subst Held (sym m.after_is) (record {
        small = number_small 0 32767 m.number tag.constructed content m.spelled;
        fits = λ n e. nothing_fits (IsAttributeOf n) s.value (k.none m.absent);
        none = λ e. absurd (cc e);
      })
      | inr m ↦ subst Held (sym m.puts.after_is) (record {
        small = k.small;
        fits = λ n e. subst (λ j. IsAttributeOf j m.puts.value) (number_is m.number n (sym m.typed_so ∙ e))
            (value_fits m.number depth tag content octets m.puts.value
            (subst (λ o. IfSome o (λ n. n ≤ 32767)) m.typed_so k.small) m.is_tag_of stands m.puts.value_spelled);
        none = λ e. absurd (let f = sym m.typed_so ∙ e in cc f);
      })
    ]

pub fields_fit : (taken : Bool) (depth : ℕ) (c : Bool) (content : List ℕ) (f : AttributeFields)
    → SpellsAttributeFields taken depth c content f → IsAttribute f
fields_fit taken depth c content f h =
    let k = spelled_keep MakesAttribute Held held depth (no_attribute taken h.at) h.parts content h.spelled
    (record { small = tt; fits = λ n e. tt; none = λ e. refl }) in
    subst (λ o. IfSome o (IsAttributeOf f.number)) h.value (k.fits f.number h.number)

pub record Extended (s : ExtensionParts) : Type 0 where
  pub common : IfSome s.common (IsText Printable 1 64)
  pub extras : Each IsExtra s.extras

extended_as : (s : ExtensionParts) (n : ℕ) (v : AttributeValue) → IsAttributeOf n v → Extended s
    → Extended (with_attribute (attribute_as n v) s)
extended_as s n (Name t) fits k = record { common = fits.1; extras = k.extras }
extended_as s n (Raw o) fits k =
    record { common = k.common; extras = each_more IsExtra s.extras (record { number = n; raw = o }) k.extras fits }

extended : Keeps MakesExtension Extended
extended depth s t tag content octets stands m k =
    let h = m.puts.value_spelled in
    let f = fields_fit (is_some s.common) depth tag.constructed content h.fields h.spelled in
    subst Extended (sym (m.puts.after_is ∙ ap (λ a. with_attribute a s) h.attribute_is))
    (extended_as s h.fields.number h.fields.value f k)

pub extensions_are : (depth : ℕ) (c : Bool) (content : List ℕ) (s : ExtensionParts) → SpellsExtensions depth c content s
    → Extended s
extensions_are depth c content s h =
    spelled_keep MakesExtension Extended extended depth no_extensions s content h.spelled
    (record { common = tt; extras = tt })
