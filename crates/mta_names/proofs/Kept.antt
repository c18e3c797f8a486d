-- What is kept unread stands in the level of the place where it was read, and in each level above.
use Rattle.std.proofs.Common.{◌≡◌, ℕ, ◌+◌, Bool, true, eqb, List, [], ◌∷◌, Option, Some, None, sym, ap, subst, ◌∙◌}
use Rattle.std.proofs.Common.{arith, inl, inr}
use Rattle.std.specs.Prelude.{IfSome, is_some}
use Rattle.mta_ber.specs.declared.tag.Tag.{Tag}
use Rattle.mta_ber.specs.Components.{Makes, AreComponents, SpellsComponents}
use Rattle.mta_ber.specs.Parts.{is_tag}
use Rattle.mta_ber.specs.Spelling.{Stands}
use Rattle.mta_names.specs.declared.attributes.Attributes.{Attributes}
use Rattle.mta_names.specs.declared.extension.AttributeFields.{AttributeFields}
use Rattle.mta_names.specs.declared.extension.AttributeParts.{AttributeParts}
use Rattle.mta_names.specs.declared.extension.AttributeValue.{AttributeValue}
use Rattle.mta_names.specs.declared.extension.AttributeValue.TheVariants.{Name, Raw}
use Rattle.mta_names.specs.declared.extension.ExtensionParts.{ExtensionParts}
use Rattle.mta_names.specs.declared.reading.NameParts.{NameParts}
use Rattle.mta_names.specs.declared.reading.NamePart.{NamePart}
use Rattle.mta_names.specs.declared.reading.NamePart.TheVariants.{Standard, Pairs, Extensions, Directory}
use Rattle.mta_names.specs.Extensions.{no_attribute, attribute_as, with_attribute, no_extensions, SpellsAttributeValue}
use Rattle.mta_names.specs.Extensions.{MakesAttribute, SpellsAttributeFields, MakesExtension, SpellsExtensions}
use Rattle.mta_names.specs.Laws.{IsRawAt, AreKeptAt, ReadNamesAreKept, KeptNamesAreKeptAbove, ReadNamesAreReadAgain}
use Rattle.mta_names.specs.Names.{name_class, name_number, name_parts, MakesNamePart, MakesName}
use Rattle.mta_names.specs.Values.{Each, nothing}
use Rattle.mta_names.proofs.Levels.{raw_above}
use Rattle.mta_names.proofs.NameAgain.{names_again}
use Rattle.mta_names.proofs.NameLaws.{name_is}
use Rattle.mta_names.proofs.StandardLaws.{standard_is}
use Rattle.mta_names.proofs.Tools.{constructed_tag, each_more}

-- ---- levels above

pub some_so : {A : Type 0} (P Q : A → Type 0) → ((x : A) → P x → Q x) → (o : Option A) → IfSome o P → IfSome o Q
some_so P Q f None h = tt
some_so P Q f (Some x) h = f x h

each_so : {A : Type 0} (P Q : A → Type 0) → ((x : A) → P x → Q x) → (xs : List A) → Each P xs → Each Q xs
each_so P Q f [] h = tt
each_so P Q f (x ∷ xs) h = (f x h.0, each_so P Q f xs h.1)

pub name_above : KeptNamesAreKeptAbove
name_above depth above n le h = record {
  extras = each_so (λ x. IsRawAt (depth + 3) 2 1 x.raw) (λ x. IsRawAt (above + 3) 2 1 x.raw)
      (λ x k. raw_above (depth + 3) (above + 3) 2 1 x.raw (omega arith) k) n.extras h.extras;
  directory = some_so (IsRawAt (depth + 1) 2 0) (IsRawAt (above + 1) 2 0)
      (λ x k. raw_above (depth + 1) (above + 1) 2 0 x (omega arith) k) n.directory h.directory;
}

-- ---- what each component of a level keeps, all of them keep

module _ {S : Type 0} (makes : Makes S) (P : S → Type 0) (depth : ℕ) where
  abbrev pub KeepsAt : Type 0
  KeepsAt = (s t : S) (tag : Tag) (content octets : List ℕ) → Stands depth tag content octets
      → makes depth s tag content octets t → P s → P t

  pub are_kept : KeepsAt → (s t : S) (es : List (List ℕ)) → AreComponents makes depth s es t → P s → P t
  are_kept keeps s t [] h k = subst P h k
  are_kept keeps s t (e ∷ es) h k =
      are_kept keeps h.0 t es h.2 (keeps s h.0 h.1.tag h.1.content e h.1.stands h.1.made k)

pub spelled_kept : {S : Type 0} (makes : Makes S) (P : S → Type 0) (depth : ℕ) → KeepsAt makes P (depth + 1)
    → (s t : S) (content : List ℕ) → SpellsComponents makes depth s content t → P s → P t
spelled_kept makes P depth keeps s t content h k = are_kept makes P (depth + 1) keeps s t h.components h.are k

-- ---- extension attributes

-- a value that is not a common name is kept
abbrev KeptAs : ℕ → AttributeValue → Type 0
KeptAs depth (Name t) = Unit {0}
KeptAs depth (Raw o) = IsRawAt depth 2 1 o

value_kept : (common : Bool) (depth : ℕ) (tag : Tag) (content octets : List ℕ) (v : AttributeValue)
    → is_tag 2 1 tag ≡ true → Stands depth tag content octets → SpellsAttributeValue common depth tag content octets v
    → KeptAs depth v
value_kept common depth tag content octets (Name t) is stands h = tt
value_kept common depth tag content octets (Raw o) is stands h =
    subst (IsRawAt depth 2 1) (sym h.1) (record { tag = tag; content = content; is_tag_of = is; stands = stands })

abbrev Held : ℕ → AttributeParts → Type 0
Held depth s = IfSome s.value (KeptAs depth)

held : (depth : ℕ) → KeepsAt MakesAttribute (Held depth) depth
held depth s t tag content octets stands h k =
    elim h [
      | inl m ↦ subst (Held depth) (sym m.after_is) k
      | inr m ↦ subst (Held depth) (sym m.puts.after_is)
          (value_kept (eqb m.number 1) depth tag content octets m.puts.value
          (constructed_tag 2 1 tag m.is_tag_of).0 stands m.puts.value_spelled)
    ]

fields_kept : (taken : Bool) (depth : ℕ) (c : Bool) (content : List ℕ) (f : AttributeFields)
    → SpellsAttributeFields taken depth c content f → KeptAs (depth + 1) f.value
fields_kept taken depth c content f h =
    let k = spelled_kept MakesAttribute (Held (depth + 1)) depth (held (depth + 1))
    (no_attribute taken h.at) h.parts content h.spelled tt in
    subst (λ o. IfSome o (KeptAs (depth + 1))) h.value k

abbrev Extended : ℕ → ExtensionParts → Type 0
Extended depth s = AreKeptAt (depth + 1) s.extras

extended_as : (depth : ℕ) (s : ExtensionParts) (n : ℕ) (v : AttributeValue) → KeptAs (depth + 1) v → Extended depth s
    → Extended depth (with_attribute (attribute_as n v) s)
extended_as depth s n (Name t) h k = k
extended_as depth s n (Raw o) h k =
    each_more (λ y. IsRawAt (depth + 1) 2 1 y.raw) s.extras (record { number = n; raw = o }) k h

extended : (depth : ℕ) → KeepsAt MakesExtension (Extended depth) depth
extended depth s t tag content octets stands m k =
    let h = m.puts.value_spelled in
    let f = fields_kept (is_some s.common) depth tag.constructed content h.fields h.spelled in
    subst (Extended depth) (sym (m.puts.after_is ∙ ap (λ a. with_attribute a s) h.attribute_is))
    (extended_as depth s h.fields.number h.fields.value f k)

pub extensions_kept : (depth : ℕ) (c : Bool) (content : List ℕ) (s : ExtensionParts)
    → SpellsExtensions depth c content s → AreKeptAt (depth + 2) s.extras
extensions_kept depth c content s h =
    subst (λ k. AreKeptAt k s.extras) (let e : depth + 1 + 1 ≡ depth + 2 = omega arith in e)
    (spelled_kept MakesExtension (Extended (depth + 1)) depth
    (extended (depth + 1)) no_extensions s content h.spelled tt)

-- ---- names

record Named (depth : ℕ) (n : Attributes) : Type 0 where
  extras : AreKeptAt (depth + 2) n.extras
  directory : IfSome n.directory (IsRawAt depth 2 0)

part_kept : (k : NamePart) (depth : ℕ) (n : Attributes) (tag : Tag) (content octets : List ℕ) (t : NameParts)
    → is_tag (name_class k) (name_number k) tag ≡ true → Stands depth tag content octets
    → MakesNamePart k depth n tag content octets t → Named depth n → Named depth t.attributes
part_kept Standard depth n tag content octets t is stands m h =
    let alone = (standard_is depth tag.constructed content m.value m.value_spelled).alone in
    subst (λ (s : NameParts). Named depth s.attributes) (sym m.after_is)
    (record {
      extras = subst (AreKeptAt (depth + 2)) (sym alone.no_extras) tt;
      directory =
          subst (λ o. IfSome o (IsRawAt depth 2 0)) (sym alone.no_directory) tt;
    })
part_kept Pairs depth n tag content octets t is stands m h =
    subst (λ (s : NameParts). Named depth s.attributes) (sym m.after_is)
    (record { extras = h.extras; directory = h.directory })
part_kept Extensions depth n tag content octets t is stands m h =
    subst (λ (s : NameParts). Named depth s.attributes) (sym m.after_is)
    (record {
      extras = extensions_kept depth tag.constructed content m.value m.value_spelled;
      directory =
          h.directory;
    })
part_kept Directory depth n tag content octets t is stands m h =
    subst (λ (s : NameParts). Named depth s.attributes) (sym m)
    (record {
      extras = h.extras;
      directory =
          record { tag = tag; content = content; is_tag_of = is; stands = stands };
    })

named : (depth : ℕ) → KeepsAt MakesName (λ s. Named depth s.attributes) depth
named depth s t tag content octets stands m k =
    part_kept m.part depth s.attributes tag content octets t m.is_tag_of stands m.made k

pub name_kept : ReadNamesAreKept
name_kept depth c content n h =
    let k = spelled_kept MakesName (λ s. Named (depth + 1) s.attributes) depth (named (depth + 1))
    (name_parts 0 nothing) (name_parts h.last n) content h.spelled (record { extras = tt; directory = tt }) in
    record {
      extras = subst (λ d. AreKeptAt d n.extras) (let e : depth + 1 + 2 ≡ depth + 3 = omega arith in e) k.extras;
      directory = k.directory;
    }

pub read_names_again : ReadNamesAreReadAgain
read_names_again tag depth above c content n low is h le d =
    names_again tag above n low is (name_is depth c content n h)
    (name_above depth above n le (name_kept depth c content n h)) d
