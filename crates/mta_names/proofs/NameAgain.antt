-- What is written of a name is spelled so, and is read again.
use Rattle.std.proofs.Common.{◌≡◌, ℕ, zero, suc, ◌+◌, ◌≤◌, ◌<◌, ◌^◌, true, false, List, [], ◌∷◌, ◌++◌, length, Option}
use Rattle.std.proofs.Common.{Some, None, refl, sym, ap, subst, arith, inl, inr}
use Rattle.std.specs.List.{flat_map}
use Rattle.std.proofs.lemmas.Bool.{cases_lt}
use Rattle.mta_ber.specs.declared.tag.Tag.{Tag}
use Rattle.mta_ber.specs.declared.text.TextClass.TheVariants.{Numeric, Printable}
use Rattle.mta_ber.specs.Canon.{IsTag, element, primitive, constructed, optional}
use Rattle.mta_ber.specs.Components.{IsComponent}
use Rattle.mta_ber.specs.Parts.{is_tag}
use Rattle.mta_ber.specs.Segmented.{SpellsText}
use Rattle.mta_ber.specs.Strings.{IsText}
use Rattle.mta_names.specs.declared.attributes.Attributes.{Attributes}
use Rattle.mta_names.specs.declared.attributes.ExtraFields.{ExtraFields}
use Rattle.mta_names.specs.declared.attributes.Label.{Label}
use Rattle.mta_names.specs.declared.attributes.PairFields.{PairFields}
use Rattle.mta_names.specs.declared.attributes.PersonFields.{PersonFields}
use Rattle.mta_names.specs.declared.extension.ExtensionParts.{ExtensionParts}
use Rattle.mta_names.specs.declared.reading.NamePart.TheVariants as parts
use Rattle.mta_names.specs.declared.standard.StandardPart.{StandardPart}
use Rattle.mta_names.specs.declared.standard.StandardPart.TheVariants.{Country, Admd, Network, Terminal, Prmd}
use Rattle.mta_names.specs.declared.standard.StandardPart.TheVariants.{Organization, User, Name, Units}
use Rattle.mta_names.specs.Extensions.{extension_count, SpellsExtensions, canonical_extensions, unless_empty}
use Rattle.mta_names.specs.Labels.{SpellsLabel, canonical_choice, canonical_label}
use Rattle.mta_names.specs.Laws.{standard_of, AreKeptAt, KeepsName, IsRawAt, IsExtended, StandardAttributesAreReadAgain}
use Rattle.mta_names.specs.Laws.{NamesAreReadAgain}
use Rattle.mta_names.specs.Lists.{listed, SpellsUnits, SpellsPairs, canonical_printable, canonical_units}
use Rattle.mta_names.specs.Lists.{canonical_pair, canonical_pairs}
use Rattle.mta_names.specs.Names.{name_in, SpellsName, MakesName, name_parts, with_pairs, with_extensions}
use Rattle.mta_names.specs.Names.{extensions_of, kept, name_content, canonical_name}
use Rattle.mta_names.specs.Persons.{SpellsPerson, canonical_person}
use Rattle.mta_names.specs.Standard.{standard_class, standard_number, standard_place, standard_parts, with_country}
use Rattle.mta_names.specs.Standard.{with_admd, with_network, with_terminal, with_prmd, with_organization, with_user}
use Rattle.mta_names.specs.Standard.{with_person, with_units, MakesStandardPart, MakesStandard, SpellsStandard}
use Rattle.mta_names.specs.Standard.{standard_in, canonical_text, canonical_named, standard_content, canonical_standard}
use Rattle.mta_names.specs.Values.{IsCountry, IsLabel, IsPerson, IsName, count_of, nothing}
use Rattle.mta_names.proofs.Again.{low_tag, text_spelled, label_spelled, person_spelled, units_spelled, pairs_spelled}
use Rattle.mta_names.proofs.ExtensionAgain.{some_written, extensions_content, extensions_spelled}
use Rattle.mta_names.proofs.NameLaws.{name_full}
use Rattle.mta_names.proofs.Rows.{short_inside, short_front, short_back, puts, component, row_more, row_spelled, From}
use Rattle.mta_names.proofs.Rows.{Piece, none_from, later_from, piece_from, optional_from, listed_from, at_last}
use Rattle.mta_names.proofs.Rows.{regroup_4, regroup_9, content_again}
use Rattle.mta_names.proofs.StandardLaws.{standard_full}

-- ---- standard attributes

-- an element at the place of a standard attribute
standard_piece : (k : StandardPart) (depth : ℕ) (m n : Attributes) (t : Tag) (content : List ℕ) → IsTag t
    → is_tag (standard_class k) (standard_number k) t ≡ true → depth ≤ 16
    → (length content < 2 ^ 64 → MakesStandardPart k depth m t content (standard_parts (standard_place k) n))
    → Piece MakesStandard depth standard_parts 0 (standard_place k) m (element t content) n
standard_piece k depth m n t content low is d made short last ge lt =
    component MakesStandard depth (standard_parts last m) (standard_parts (standard_place k) n) t content low d short
    (record { part = k; is_tag_of = is; behind = lt; made = made (short_inside t content short) })

-- what stands of the attributes of a name up to a place
abbrev upto_1 : Option Label → Attributes
upto_1 o = record nothing { country = o }

abbrev upto_2 : Attributes → Option Label → Attributes
upto_2 n o = record nothing { country = n.country; admd = o }

abbrev upto_3 : Attributes → Option (List ℕ) → Attributes
upto_3 n o = record nothing { country = n.country; admd = n.admd; network = o }

abbrev upto_4 : Attributes → Option (List ℕ) → Attributes
upto_4 n o = record nothing { country = n.country; admd = n.admd; network = n.network; terminal = o }

abbrev upto_5 : Attributes → Option Label → Attributes
upto_5 n o = record nothing { country = n.country; admd = n.admd; network = n.network; terminal = n.terminal; prmd = o }

abbrev upto_6 : Attributes → Option (List ℕ) → Attributes
upto_6 n o = record nothing {
  country = n.country;
  admd = n.admd;
  network = n.network;
  terminal = n.terminal;
  prmd =
      n.prmd;
  organization = o;
}

abbrev upto_7 : Attributes → Option (List ℕ) → Attributes
upto_7 n o = record nothing {
  country = n.country;
  admd = n.admd;
  network = n.network;
  terminal = n.terminal;
  prmd =
      n.prmd;
  organization = n.organization;
  user = o;
}

abbrev upto_8 : Attributes → Option PersonFields → Attributes
upto_8 n o = record nothing {
  country = n.country;
  admd = n.admd;
  network = n.network;
  terminal = n.terminal;
  prmd =
      n.prmd;
  organization = n.organization;
  user = n.user;
  person = o;
}

abbrev upto_9 : Attributes → List (List ℕ) → Attributes
upto_9 n us = record nothing {
  country = n.country;
  admd = n.admd;
  network = n.network;
  terminal = n.terminal;
  prmd =
      n.prmd;
  organization = n.organization;
  user = n.user;
  person = n.person;
  units = us;
}

-- from the last component on
module _ (depth : ℕ) (d : depth + 1 ≤ 16) (n : Attributes) (h : IsName n) where
  from_9 : From MakesStandard depth standard_parts 0 9 (upto_8 n n.person) (listed canonical_units n.units)
      (standard_of n)
  from_9 =
      at_last MakesStandard depth standard_parts 0 9 (upto_9 n []) (listed canonical_units n.units) (standard_of n)
      (listed_from MakesStandard depth standard_parts 0 9 10 canonical_units (upto_9 n) n.units [] (standard_of n)
      (omega arith)
      (λ some. standard_piece Units depth (upto_9 n []) (upto_9 n n.units) (constructed 2 6)
      (flat_map canonical_printable n.units) (low_tag 2 6 true (omega arith) (omega arith)) refl (omega arith)
      (λ short. puts (SpellsUnits depth true (flat_map canonical_printable n.units)) (with_units (upto_9 n [])) n.units
      (units_spelled depth n.units h.units some h.few_units d short)))
      (none_from MakesStandard depth standard_parts 0 10 (standard_of n)))

  from_8 : From MakesStandard depth standard_parts 0 8 (upto_7 n n.user)
      (optional canonical_named n.person ++ listed canonical_units n.units) (standard_of n)
  from_8 =
      optional_from MakesStandard depth standard_parts 0 8 9 canonical_named IsPerson (upto_8 n) n.person
      (listed canonical_units n.units) (standard_of n) (omega arith) h.person
      (λ x is. standard_piece Name depth (upto_8 n None) (upto_8 n (Some x)) (constructed 2 5) (canonical_person x)
      (low_tag 2 5 true (omega arith) (omega arith)) refl (omega arith)
      (λ short. puts (SpellsPerson depth true (canonical_person x)) (with_person (upto_8 n None)) x
      (person_spelled depth x is d short)))
      from_9

  from_7 : From MakesStandard depth standard_parts 0 7 (upto_6 n n.organization)
      (optional (canonical_text 4) n.user ++ (optional canonical_named n.person ++ listed canonical_units n.units))
      (standard_of n)
  from_7 =
      optional_from MakesStandard depth standard_parts 0 7 8 (canonical_text 4) (IsText Numeric 1 32) (upto_7 n) n.user
      (optional canonical_named n.person ++ listed canonical_units n.units) (standard_of n) (omega arith) h.user
      (λ x is. standard_piece User depth (upto_7 n None) (upto_7 n (Some x)) (primitive 2 4) x
      (low_tag 2 4 false (omega arith) (omega arith)) refl (omega arith)
      (λ short. puts (SpellsText Numeric 1 32 depth false x) (with_user (upto_7 n None)) x
      (text_spelled Numeric 1 32 depth x is (omega arith))))
      from_8

  from_6 : From MakesStandard depth standard_parts 0 6 (upto_5 n n.prmd)
      (optional (canonical_text 3) n.organization
      ++ (optional (canonical_text 4) n.user ++ (optional canonical_named n.person ++ listed canonical_units n.units)))
      (standard_of n)
  from_6 =
      optional_from MakesStandard depth standard_parts 0 6 7 (canonical_text 3) (IsText Printable 1 64)
      (upto_6 n) n.organization (optional (canonical_text 4) n.user
      ++ (optional canonical_named n.person ++ listed canonical_units n.units)) (standard_of n)
      (omega arith) h.organization
      (λ x is. standard_piece Organization depth (upto_6 n None) (upto_6 n (Some x)) (primitive 2 3) x
      (low_tag 2 3 false (omega arith) (omega arith)) refl (omega arith)
      (λ short. puts (SpellsText Printable 1 64 depth false x) (with_organization (upto_6 n None)) x
      (text_spelled Printable 1 64 depth x is (omega arith))))
      from_7

  abbrev behind_prmd : List ℕ
  behind_prmd = optional (canonical_text 3) n.organization
      ++ (optional (canonical_text 4) n.user ++ (optional canonical_named n.person ++ listed canonical_units n.units))

  from_5 : From MakesStandard depth standard_parts 0 5 (upto_4 n n.terminal)
      (optional (canonical_label 2 2) n.prmd ++ behind_prmd) (standard_of n)
  from_5 =
      optional_from MakesStandard depth standard_parts 0 5 6 (canonical_label 2 2) (IsLabel 1 16)
      (upto_5 n) n.prmd behind_prmd (standard_of n) (omega arith) h.prmd
      (λ x is. standard_piece Prmd depth (upto_5 n None) (upto_5 n (Some x)) (constructed 2 2) (canonical_choice x)
      (low_tag 2 2 true (omega arith) (omega arith)) refl (omega arith)
      (λ short. puts (SpellsLabel (IsLabel 1 16) depth true (canonical_choice x)) (with_prmd (upto_5 n None)) x
      (label_spelled (IsLabel 1 16) depth x is d short)))
      from_6

  from_4 : From MakesStandard depth standard_parts 0 4 (upto_3 n n.network)
      (optional (canonical_text 1) n.terminal ++ (optional (canonical_label 2 2) n.prmd ++ behind_prmd)) (standard_of n)
  from_4 =
      optional_from MakesStandard depth standard_parts 0 4 5 (canonical_text 1) (IsText Printable 1 24)
      (upto_4 n) n.terminal (optional (canonical_label 2 2) n.prmd ++ behind_prmd) (standard_of n)
      (omega arith) h.terminal
      (λ x is. standard_piece Terminal depth (upto_4 n None) (upto_4 n (Some x)) (primitive 2 1) x
      (low_tag 2 1 false (omega arith) (omega arith)) refl (omega arith)
      (λ short. puts (SpellsText Printable 1 24 depth false x) (with_terminal (upto_4 n None)) x
      (text_spelled Printable 1 24 depth x is (omega arith))))
      from_5

  abbrev behind_network : List ℕ
  behind_network = optional (canonical_text 1) n.terminal ++ (optional (canonical_label 2 2) n.prmd ++ behind_prmd)

  from_3 : From MakesStandard depth standard_parts 0 3 (upto_2 n n.admd)
      (optional (canonical_text 0) n.network ++ behind_network) (standard_of n)
  from_3 =
      optional_from MakesStandard depth standard_parts 0 3 4 (canonical_text 0) (IsText Numeric 1 16)
      (upto_3 n) n.network behind_network (standard_of n) (omega arith) h.network
      (λ x is. standard_piece Network depth (upto_3 n None) (upto_3 n (Some x)) (primitive 2 0) x
      (low_tag 2 0 false (omega arith) (omega arith)) refl (omega arith)
      (λ short. puts (SpellsText Numeric 1 16 depth false x) (with_network (upto_3 n None)) x
      (text_spelled Numeric 1 16 depth x is (omega arith))))
      from_4

  from_2 : From MakesStandard depth standard_parts 0 2 (upto_1 n.country)
      (optional (canonical_label 1 2) n.admd ++ (optional (canonical_text 0) n.network ++ behind_network))
      (standard_of n)
  from_2 =
      optional_from MakesStandard depth standard_parts 0 2 3 (canonical_label 1 2) (IsLabel 0 16) (upto_2 n) n.admd
      (optional (canonical_text 0) n.network ++ behind_network) (standard_of n) (omega arith) h.admd
      (λ x is. standard_piece Admd depth (upto_2 n None) (upto_2 n (Some x)) (constructed 1 2) (canonical_choice x)
      (low_tag 1 2 true (omega arith) (omega arith)) refl (omega arith)
      (λ short. puts (SpellsLabel (IsLabel 0 16) depth true (canonical_choice x)) (with_admd (upto_2 n None)) x
      (label_spelled (IsLabel 0 16) depth x is d short)))
      from_3

  standard_from : From MakesStandard depth standard_parts 0 1 nothing (standard_content n) (standard_of n)
  standard_from =
      subst (λ octets. From MakesStandard depth standard_parts 0 1 nothing octets (standard_of n))
      (regroup_9 (optional (canonical_label 1 1) n.country) (optional (canonical_label 1 2) n.admd)
      (optional (canonical_text 0) n.network) (optional (canonical_text 1) n.terminal)
      (optional (canonical_label 2 2) n.prmd) (optional (canonical_text 3) n.organization)
      (optional (canonical_text 4) n.user) (optional canonical_named n.person) (listed canonical_units n.units))
      (optional_from MakesStandard depth standard_parts 0 1 2 (canonical_label 1 1) IsCountry upto_1 n.country
      (optional (canonical_label 1 2) n.admd ++ (optional (canonical_text 0) n.network ++ behind_network))
      (standard_of n) (omega arith) h.country
      (λ x is. standard_piece Country depth (upto_1 None) (upto_1 (Some x)) (constructed 1 1) (canonical_choice x)
      (low_tag 1 1 true (omega arith) (omega arith)) refl (omega arith)
      (λ short. puts (SpellsLabel IsCountry depth true (canonical_choice x)) (with_country (upto_1 None)) x
      (label_spelled IsCountry depth x is d short)))
      from_2)

pub standard_spelled : (depth : ℕ) (n : Attributes) → IsName n → depth + 2 ≤ 16 → length (standard_content n) < 2 ^ 64
    → SpellsStandard depth true (standard_content n) (standard_of n)
standard_spelled depth n h d short =
    let e = standard_from (depth + 1) (omega arith) n h short 0 (omega arith) (omega arith) in
    record {
      is_constructed = refl;
      last = e.end;
      spelled =
          row_spelled MakesStandard depth (standard_parts 0 nothing) (standard_parts e.end (standard_of n))
          (standard_content n) e.row;
    }

pub standard_again : StandardAttributesAreReadAgain
standard_again depth n h d = content_again standard_in SpellsStandard standard_full depth (constructed 0 16)
    (standard_content n) (standard_of n) (low_tag 0 16 true (omega arith) (omega arith)) refl (omega arith)
    (standard_spelled depth n h d)

-- ---- what stands behind the standard attributes

abbrev with_rest_1 : Attributes → List PairFields → Attributes
with_rest_1 n ps = record (standard_of n) { pairs = ps }

abbrev with_rest_2 : Attributes → ExtensionParts → Attributes
with_rest_2 n s = record (standard_of n) { pairs = n.pairs; common = s.common; extras = s.extras }

abbrev with_rest_3 : Attributes → Option (List ℕ) → Attributes
with_rest_3 n o = record (standard_of n) { pairs = n.pairs; common = n.common; extras = n.extras; directory = o }

abbrev no_parts : ExtensionParts
no_parts = record { common = None; extras = [] }

none_there : (c : Option (List ℕ)) (xs : List ExtraFields) → count_of c + length xs < 1
    → ◌≡◌ {A = ExtensionParts} (record { common = c; extras = xs }) no_parts
none_there None [] lt = refl
none_there (Some x) xs lt = absurd (omega arith)
none_there None (x ∷ xs) lt = absurd (omega arith)

none_written : (k : ℕ) (content : List ℕ) → k < 1 → unless_empty k content ≡ []
none_written zero content lt = refl
none_written (suc k) content lt = absurd (omega arith)

kept_inside : (depth : ℕ) (xs : List ExtraFields) → AreKeptAt (depth + 3) xs → AreKeptAt (depth + 1 + 2) xs
kept_inside depth xs h = subst (λ k. AreKeptAt k xs) (let e : depth + 3 ≡ depth + 1 + 2 = omega arith in e) h

module _ (depth : ℕ) (d : depth + 4 ≤ 16) (n : Attributes) (h : IsName n) (k : KeepsName depth n) where
  directory_from : From MakesName (depth + 1) name_parts 1 4 (with_rest_3 n None) (optional kept n.directory) n
  directory_from =
      at_last MakesName (depth + 1) name_parts 1 4 (with_rest_3 n None) (optional kept n.directory) n
      (optional_from MakesName (depth + 1) name_parts 1 4 5 kept (IsRawAt (depth + 1) 2 0)
      (with_rest_3 n) n.directory [] n (omega arith) k.directory
      (λ x is short last ge lt. record {
        tag = is.tag;
        content = is.content;
        stands = is.stands;
        made =
            record { part = parts.Directory; is_tag_of = is.is_tag_of; needed = ge; behind = lt; made = refl };
      })
      (none_from MakesName (depth + 1) name_parts 1 5 n))

  extensions_are : 1 ≤ extension_count (extensions_of n) → IsExtended (depth + 1) (extensions_of n)
  extensions_are some = record {
    common = h.common;
    extras = h.extras;
    kept = kept_inside depth n.extras k.extras;
    some = some;
    few = h.few_extensions;
  }

  extensions_piece : 1 ≤ extension_count (extensions_of n)
      → Piece MakesName (depth + 1) name_parts 1 3 (with_rest_2 n no_parts)
      (element (constructed 0 17) (extensions_content (extensions_of n))) (with_rest_2 n (extensions_of n))
  extensions_piece some short last ge lt =
      let content = extensions_content (extensions_of n) in
      component MakesName (depth + 1) (name_parts last (with_rest_2 n no_parts))
      (name_parts 3 (with_rest_2 n (extensions_of n))) (constructed 0 17) content
      (low_tag 0 17 true (omega arith) (omega arith)) (omega arith) short (record {
        part = parts.Extensions;
        is_tag_of = refl;
        needed = ge;
        behind = lt;
        made = puts (SpellsExtensions (depth + 1) true content) (with_extensions (with_rest_2 n no_parts))
            (extensions_of n) (extensions_spelled (depth + 1) (extensions_of n) (extensions_are some) (omega arith)
            (short_inside (constructed 0 17) content short));
      })

  extensions_from : From MakesName (depth + 1) name_parts 1 3 (with_rest_2 n no_parts)
      (canonical_extensions (extensions_of n) ++ optional kept n.directory) n
  extensions_from =
      elim (cases_lt (extension_count (extensions_of n)) 1) [
        | inl none ↦ (
            let octets = none_written (extension_count (extensions_of n)) (extensions_content (extensions_of n)) none in
            let same = ap (λ (s : ExtensionParts). with_rest_2 n s) (none_there n.common n.extras none) in
            let later = later_from MakesName (depth + 1) name_parts 1 3 4 (with_rest_3 n None)
            (optional kept n.directory) n (omega arith) directory_from in
            subst (λ (m : Attributes). From MakesName (depth + 1) name_parts 1 3 m
            (canonical_extensions (extensions_of n) ++ optional kept n.directory) n) same
            (subst (λ o. From MakesName (depth + 1) name_parts 1 3 (with_rest_3 n None)
            (o ++ optional kept n.directory) n) (sym octets) later))
        | inr some ↦ (
            let octets = some_written (extension_count (extensions_of n)) (extensions_content (extensions_of n)) some in
            subst (λ o. From MakesName (depth + 1) name_parts 1 3 (with_rest_2 n no_parts)
            (o ++ optional kept n.directory) n) (sym octets)
            (piece_from MakesName (depth + 1) name_parts 1 3 4 (with_rest_2 n no_parts)
            (with_rest_2 n (extensions_of n)) (element (constructed 0 17) (extensions_content (extensions_of n)))
            (optional kept n.directory) n (omega arith) (extensions_piece some) directory_from))
      ]

  pairs_from : From MakesName (depth + 1) name_parts 1 2 (with_rest_1 n [])
      (listed canonical_pairs n.pairs ++ (canonical_extensions (extensions_of n) ++ optional kept n.directory)) n
  pairs_from =
      listed_from MakesName (depth + 1) name_parts 1 2 3 canonical_pairs (with_rest_1 n) n.pairs
      (canonical_extensions (extensions_of n) ++ optional kept n.directory) n (omega arith)
      (λ some short last ge lt.
      let content = flat_map canonical_pair n.pairs in
      component MakesName (depth + 1) (name_parts last (standard_of n)) (name_parts 2 (with_rest_1 n n.pairs))
      (constructed 0 16) content (low_tag 0 16 true (omega arith) (omega arith)) (omega arith) short (record {
        part = parts.Pairs;
        is_tag_of = refl;
        needed = ge;
        behind = lt;
        made = puts (SpellsPairs (depth + 1) true content) (with_pairs (standard_of n)) n.pairs
            (pairs_spelled (depth + 1) n.pairs h.pairs some h.few_pairs (omega arith)
            (short_inside (constructed 0 16) content short));
      }))
      extensions_from

  abbrev behind_standard : List ℕ
  behind_standard = listed canonical_pairs n.pairs
      ++ (canonical_extensions (extensions_of n) ++ optional kept n.directory)

  name_row : length (canonical_standard n ++ behind_standard) < 2 ^ 64
      → SpellsName depth true (canonical_standard n ++ behind_standard) n
  name_row short =
      let first = short_front (canonical_standard n) behind_standard short in
      let inside = short_inside (constructed 0 16) (standard_content n) first in
      let e = pairs_from (short_back (canonical_standard n) behind_standard short) 1 (omega arith) (omega arith) in
      let standard : IsComponent MakesName (depth + 1) (name_parts 0 nothing) (canonical_standard n)
      (name_parts 1 (standard_of n)) =
      component MakesName (depth + 1) (name_parts 0 nothing) (name_parts 1 (standard_of n)) (constructed 0 16)
      (standard_content n) (low_tag 0 16 true (omega arith) (omega arith)) (omega arith) first (record {
        part = parts.Standard;
        is_tag_of = refl;
        needed = omega arith;
        behind = omega arith;
        made = puts (SpellsStandard (depth + 1) true (standard_content n)) (name_parts 1) (standard_of n)
            (standard_spelled (depth + 1) n h (omega arith) inside);
      }) in
      let row = row_more MakesName (depth + 1) (name_parts 0 nothing) (name_parts 1 (standard_of n))
      (name_parts e.end n) (canonical_standard n) behind_standard standard e.row in
      record {
        is_constructed = refl;
        last = e.end;
        some = e.behind;
        spelled =
            row_spelled MakesName depth (name_parts 0 nothing) (name_parts e.end n)
            (canonical_standard n ++ behind_standard) row;
      }

pub name_spelled : (depth : ℕ) (n : Attributes) → IsName n → KeepsName depth n → depth + 4 ≤ 16
    → length (name_content n) < 2 ^ 64 → SpellsName depth true (name_content n) n
name_spelled depth n h k d short =
    let group = regroup_4 (canonical_standard n) (listed canonical_pairs n.pairs)
    (canonical_extensions (extensions_of n)) (optional kept n.directory) in
    subst (λ octets. SpellsName depth true octets n) group
    (name_row depth d n h k (subst (λ octets. length octets < 2 ^ 64) (sym group) short))

pub names_again : NamesAreReadAgain
unfolding canonical_name
names_again tag depth n low is h k d = content_again name_in SpellsName name_full depth tag (name_content n) n low is
    (omega arith) (name_spelled depth n h k d)
