-- What is written of extension attributes is spelled so, and is read again.
use Rattle.std.proofs.Common.{◌≡◌, ℕ, zero, suc, ◌+◌, ◌≤◌, ◌<◌, ◌^◌, ◌≢◌, Bool, true, false, eqb, List, [], ◌∷◌, ◌++◌}
use Rattle.std.proofs.Common.{length, Option, Some, None, refl, sym, subst, arith, inl, inr, pos}
use Rattle.std.specs.Prelude.{IfSome, is_some, ◌&&◌}
use Rattle.std.specs.List.{flat_map}
use Rattle.std.proofs.lemmas.Bool.Decides.{nat_tests}
use Rattle.mta_ber.specs.declared.tag.Tag.{Tag}
use Rattle.mta_ber.specs.declared.text.TextClass.TheVariants.{Printable}
use Rattle.mta_ber.specs.Canon.{element, primitive, constructed, optional}
use Rattle.mta_ber.specs.Components.{IsComponent}
use Rattle.mta_ber.specs.Contents.{int_content, canon_int}
use Rattle.mta_ber.specs.Explicit.{SpellsExplicit}
use Rattle.mta_ber.specs.Strings.{IsText}
use Rattle.mta_names.specs.declared.attributes.ExtraFields.{ExtraFields}
use Rattle.mta_names.specs.declared.extension.AttributeParts.{AttributeParts}
use Rattle.mta_names.specs.declared.extension.AttributeValue.{AttributeValue}
use Rattle.mta_names.specs.declared.extension.AttributeValue.TheVariants.{Name, Raw}
use Rattle.mta_names.specs.declared.extension.ExtensionParts.{ExtensionParts}
use Rattle.mta_names.specs.Extensions.{no_attribute, attribute_fields, attribute_as, with_attribute, no_extensions}
use Rattle.mta_names.specs.Extensions.{extension_count, extensions_in, SpellsPrintable, SpellsAttributeValue}
use Rattle.mta_names.specs.Extensions.{MakesAttribute, SpellsAttribute, MakesExtension, SpellsExtensions}
use Rattle.mta_names.specs.Extensions.{canonical_attribute, canonical_common, canonical_extra, unless_empty}
use Rattle.mta_names.specs.Laws.{IsRawAt, AreKeptAt, IsExtended, IsReadAgain, ExtensionAttributesAreReadAgain}
use Rattle.mta_names.specs.Lists.{canonical_printable}
use Rattle.mta_names.specs.Values.{Each, IsExtra}
use Rattle.mta_names.proofs.Again.{low_tag, text_spelled, number_spelled, explicit_spelled}
use Rattle.mta_names.proofs.ExtensionLaws.{extensions_full}
use Rattle.mta_names.proofs.Levels.{one_tag}
use Rattle.mta_names.proofs.Rows.{short_inside, short_front, short_back, puts, component, IsRow, row_more, row_last}
use Rattle.mta_names.proofs.Rows.{row_spelled, items_row, each_both, content_again}
use Rattle.mta_names.proofs.Tools.{so_constructed}

-- ---- one attribute

abbrev typed_as : Bool → ℕ → AttributeParts
typed_as taken n = record { taken = taken; at = 0; number = Some n; value = None }

abbrev valued_as : Bool → ℕ → AttributeValue → AttributeParts
valued_as taken n v = record { taken = taken; at = 0; number = Some n; value = Some v }

type_component : (taken : Bool) (n depth : ℕ) → n ≤ 32767 → (eqb n 1 && taken) ≡ false → depth ≤ 16
    → length (canon_int (primitive 2 0) (pos n)) < 2 ^ 64
    → IsComponent MakesAttribute depth (no_attribute taken 0) (canon_int (primitive 2 0) (pos n)) (typed_as taken n)
type_component taken n depth small once_only d short =
    component MakesAttribute depth (no_attribute taken 0) (typed_as taken n) (primitive 2 0) (int_content (pos n))
    (low_tag 2 0 false (omega arith) (omega arith)) d short
    (inl (record {
      is_tag_of = refl;
      absent = refl;
      number = n;
      spelled = number_spelled 32767 n small (omega arith);
      once_only = once_only;
      after_is = refl;
    }))

-- a type and a value that stands in its place
attribute_row : (taken : Bool) (n depth : ℕ) (octets : List ℕ) (v : AttributeValue) → n ≤ 32767
    → (eqb n 1 && taken) ≡ false → depth ≤ 16 → length (canon_int (primitive 2 0) (pos n) ++ octets) < 2 ^ 64
    → IsComponent MakesAttribute depth (typed_as taken n) octets (valued_as taken n v)
    → IsRow MakesAttribute depth (no_attribute taken 0) (canon_int (primitive 2 0) (pos n) ++ octets)
    (valued_as taken n v)
attribute_row taken n depth octets v small once_only d short h =
    row_more MakesAttribute depth (no_attribute taken 0) (typed_as taken n) (valued_as taken n v)
    (canon_int (primitive 2 0) (pos n)) octets
    (type_component taken n depth small once_only d (short_front (canon_int (primitive 2 0) (pos n)) octets short))
    (row_last MakesAttribute depth (typed_as taken n) (valued_as taken n v) octets h)

attribute_spelled : (taken : Bool) (n depth : ℕ) (octets : List ℕ) (v : AttributeValue) → n ≤ 32767
    → (eqb n 1 && taken) ≡ false → depth + 1 ≤ 16 → length (canon_int (primitive 2 0) (pos n) ++ octets) < 2 ^ 64
    → IsComponent MakesAttribute (depth + 1) (typed_as taken n) octets (valued_as taken n v)
    → SpellsAttribute taken depth true (canon_int (primitive 2 0) (pos n) ++ octets) (attribute_as n v)
attribute_spelled taken n depth octets v small once_only d short h = record {
  fields = attribute_fields n v;
  spelled = record {
    is_constructed = refl;
    at = 0;
    parts = valued_as taken n v;
    spelled = row_spelled MakesAttribute depth (no_attribute taken 0) (valued_as taken n v)
        (canon_int (primitive 2 0) (pos n) ++ octets)
        (attribute_row taken n (depth + 1) octets v small once_only d short h);
    number = refl;
    value = refl;
  };
  attribute_is = refl;
}

attribute_component : (s t : ExtensionParts) (n depth : ℕ) (octets : List ℕ) (v : AttributeValue) → n ≤ 32767
    → (eqb n 1 && is_some s.common) ≡ false → depth + 1 ≤ 16 → t ≡ with_attribute (attribute_as n v) s
    → length (canonical_attribute n octets) < 2 ^ 64
    → IsComponent MakesAttribute (depth + 1) (typed_as (is_some s.common) n) octets (valued_as (is_some s.common) n v)
    → IsComponent MakesExtension depth s (canonical_attribute n octets) t
attribute_component s t n depth octets v small once_only d after short h =
    let content = canon_int (primitive 2 0) (pos n) ++ octets in
    component MakesExtension depth s t (constructed 0 16) content (low_tag 0 16 true (omega arith) (omega arith))
    (omega arith) short (record {
      is_sequence_tag = refl;
      puts = record {
        value = attribute_as n v;
        value_spelled =
            attribute_spelled (is_some s.common) n depth octets v small once_only d
            (short_inside (constructed 0 16) content short) h;
        after_is = after;
      };
    })

-- ---- the common name

common_value : (depth : ℕ) (t : List ℕ) → IsText Printable 1 64 t → depth + 1 ≤ 16
    → length (canonical_printable t) < 2 ^ 64
    → SpellsExplicit (SpellsPrintable 1 64) depth true (canonical_printable t) t
common_value depth t h d short = explicit_spelled (SpellsPrintable 1 64) depth (primitive 0 19) t t
    (low_tag 0 19 false (omega arith) (omega arith)) d short (refl, text_spelled Printable 1 64 (depth + 1) t h d)

abbrev of_common : Option (List ℕ) → List ExtraFields → ExtensionParts
of_common c xs = record { common = c; extras = xs }

common_component : (depth : ℕ) (t : List ℕ) → IsText Printable 1 64 t → depth + 2 ≤ 16
    → length (canonical_common t) < 2 ^ 64 → IsComponent MakesExtension depth no_extensions (canonical_common t)
    (of_common (Some t) [])
common_component depth t h d short =
    let octets = element (constructed 2 1) (canonical_printable t) in
    let inside = short_back (canon_int (primitive 2 0) (pos 1)) octets
    (short_inside (constructed 0 16) (canon_int (primitive 2 0) (pos 1) ++ octets) short) in
    let value = common_value (depth + 1) t h (omega arith)
    (short_inside (constructed 2 1) (canonical_printable t) inside) in
    attribute_component no_extensions (of_common (Some t) []) 1 depth octets (Name t) (omega arith) refl
    (omega arith) refl short
    (component MakesAttribute (depth + 1) (typed_as false 1) (valued_as false 1 (Name t)) (constructed 2 1)
    (canonical_printable t) (low_tag 2 1 true (omega arith) (omega arith)) (omega arith) inside
    (inr (record {
      is_tag_of = refl;
      number = 1;
      typed_so = refl;
      absent = refl;
      puts =
          puts (SpellsAttributeValue true (depth + 1) (constructed 2 1) (canonical_printable t) octets)
          (λ x. valued_as false 1 x) (Name t) (refl, value);
    })))

-- ---- the others

other_number : (n : ℕ) → n ≢ 1 → eqb n 1 ≡ false
other_number n h = grind (arith, nat_tests)

not_twice : (b c : Bool) → b ≡ false → (b && c) ≡ false
not_twice b c e = rw e refl

-- what stands in the place of a value is the explicit tag that it may be
explicit_form : (depth : ℕ) (x : ExtraFields) → IsExtra x → (k : IsRawAt depth 2 1 x.raw) → k.tag.constructed ≡ true
explicit_form depth x h k = subst (λ (t : Tag). t.constructed ≡ true)
    (one_tag h.raw.depth depth h.raw.tag k.tag h.raw.content k.content x.raw h.raw.stands k.stands) h.explicit

extra_component : (depth : ℕ) (c : Option (List ℕ)) → depth + 1 ≤ 16 → (xs : List ExtraFields) (x : ExtraFields)
    → IsExtra x × IsRawAt (depth + 1) 2 1 x.raw → length (canonical_extra x) < 2 ^ 64
    → IsComponent MakesExtension depth (of_common c xs) (canonical_extra x) (of_common c (xs ++ x ∷ []))
extra_component depth c d xs x h short =
    let other = other_number x.number h.0.other in
    let taken = is_some c in
    let form = explicit_form (depth + 1) x h.0 h.1 in
    attribute_component (of_common c xs) (of_common c (xs ++ x ∷ [])) x.number depth x.raw (Raw x.raw) h.0.small
    (not_twice (eqb x.number 1) taken other) d refl short (record {
      tag = h.1.tag;
      content = h.1.content;
      stands = h.1.stands;
      made = inr (record {
        is_tag_of = so_constructed 2 1 h.1.tag h.1.is_tag_of form;
        number = x.number;
        typed_so = refl;
        absent = refl;
        puts = puts (SpellsAttributeValue (eqb x.number 1) (depth + 1) h.1.tag h.1.content x.raw)
            (λ v. valued_as taken x.number v) (Raw x.raw) (other, refl);
      });
    })

extras_row : (depth : ℕ) (c : Option (List ℕ)) (xs : List ExtraFields) → Each IsExtra xs → AreKeptAt (depth + 1) xs
    → depth + 1 ≤ 16 → length (flat_map canonical_extra xs) < 2 ^ 64
    → IsRow MakesExtension depth (of_common c []) (flat_map canonical_extra xs) (of_common c xs)
extras_row depth c xs h k d short =
    items_row MakesExtension depth (λ ys. of_common c ys) canonical_extra
    (λ x. IsExtra x × IsRawAt (depth + 1) 2 1 x.raw) (extra_component depth c d) [] xs
    (each_both IsExtra (λ x. IsRawAt (depth + 1) 2 1 x.raw) xs h k) short

-- ---- all of them

abbrev pub extensions_content : ExtensionParts → List ℕ
extensions_content s = optional canonical_common s.common ++ flat_map canonical_extra s.extras

extensions_row : (depth : ℕ) (c : Option (List ℕ)) (xs : List ExtraFields) → IfSome c (IsText Printable 1 64)
    → Each IsExtra xs → AreKeptAt (depth + 1) xs → depth + 2 ≤ 16
    → length (extensions_content (of_common c xs)) < 2 ^ 64
    → IsRow MakesExtension depth no_extensions (extensions_content (of_common c xs)) (of_common c xs)
extensions_row depth None xs h e k d short = extras_row depth None xs e k (omega arith) short
extensions_row depth (Some t) xs h e k d short =
    row_more MakesExtension depth no_extensions (of_common (Some t) []) (of_common (Some t) xs) (canonical_common t)
    (flat_map canonical_extra xs)
    (common_component depth t h d (short_front (canonical_common t) (flat_map canonical_extra xs) short))
    (extras_row depth (Some t) xs e k (omega arith)
    (short_back (canonical_common t) (flat_map canonical_extra xs) short))

kept_below : (depth : ℕ) (xs : List ExtraFields) → AreKeptAt (depth + 2) xs → AreKeptAt (depth + 1 + 1) xs
kept_below depth xs h = subst (λ d. AreKeptAt d xs) (let e : depth + 2 ≡ depth + 1 + 1 = omega arith in e) h

pub extensions_spelled : (depth : ℕ) (s : ExtensionParts) → IsExtended depth s → depth + 3 ≤ 16
    → length (extensions_content s) < 2 ^ 64 → SpellsExtensions depth true (extensions_content s) s
extensions_spelled depth s h d short = record {
  is_constructed = refl;
  spelled = row_spelled MakesExtension depth no_extensions s (extensions_content s)
      (extensions_row (depth + 1) s.common s.extras h.common h.extras (kept_below depth s.extras h.kept)
      (omega arith) short);
  at_least = h.some;
  at_most = h.few;
}

pub some_written : (n : ℕ) (content : List ℕ) → 1 ≤ n → unless_empty n content ≡ element (constructed 0 17) content
some_written zero content h = absurd (omega arith)
some_written (suc n) content h = refl

pub extensions_again : ExtensionAttributesAreReadAgain
extensions_again depth s h d =
    subst (λ octets. IsReadAgain extensions_in depth octets s)
    (sym (some_written (extension_count s) (extensions_content s) h.some))
    (content_again extensions_in SpellsExtensions extensions_full depth (constructed 0 17) (extensions_content s) s
    (low_tag 0 17 true (omega arith) (omega arith)) refl (omega arith) (extensions_spelled depth s h d))
