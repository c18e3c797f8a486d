-- What is written of a text, a number, a label, a personal name and a list is spelled so, and is read again.
use Rattle.std.proofs.Common.{◌≡◌, ℕ, suc, ◌+◌, ◌≤◌, ◌<◌, ◌^◌, Bool, true, false, cond, List, [], ◌∷◌, ◌++◌, length}
use Rattle.std.proofs.Common.{Option, Some, None, refl, sym, ap, subst, ◌∙◌, arith, inl, inr, ℤ, pos, w64, FitsSigned}
use Rattle.std.specs.Int.{to_be_bytes, cast_unsigned}
use Rattle.std.specs.List.{flat_map}
use Rattle.std.proofs.lemmas.Bool.Decides.{nat_tests}
use Rattle.std.proofs.lemmas.Int.{ints}
use Rattle.mta_ber.specs.declared.tag.Tag.{Tag}
use Rattle.mta_ber.specs.declared.text.TextClass.{TextClass}
use Rattle.mta_ber.specs.declared.text.TextClass.TheVariants.{Printable}
use Rattle.mta_ber.specs.Canon.{IsTag, element, primitive, constructed, optional}
use Rattle.mta_ber.specs.Components.{IsComponent}
use Rattle.mta_ber.specs.Contents.{is_redundant, shortest, int_content}
use Rattle.mta_ber.specs.Explicit.{Spells, SpellsExplicit}
use Rattle.mta_ber.specs.Head.{◌>>=◌}
use Rattle.mta_ber.specs.Int.{int_in, in_range, SpellsInteger}
use Rattle.mta_ber.specs.Laws.{with_rest, beside}
use Rattle.mta_ber.specs.Parts.{is_tag}
use Rattle.mta_ber.specs.Segmented.{SpellsText}
use Rattle.mta_ber.specs.Strings.{class_number, IsText}
use Rattle.mta_ber.proofs.CanonLaws.{lent}
use Rattle.mta_ber.proofs.IntLaws.{int_sound}
use Rattle.mta_ber.proofs.RoundTrip.{first_again}
use Rattle.mta_ber.proofs.Steps.{bind_ok, ok_is}
use Rattle.mta_ber.proofs.StringLaws.{octets_spelled}
use Rattle.mta_ber.proofs.ValueLaws.{numbers_again}
use Rattle.mta_names.specs.declared.attributes.Label.{Label}
use Rattle.mta_names.specs.declared.attributes.PairFields.{PairFields}
use Rattle.mta_names.specs.declared.attributes.PersonFields.{PersonFields}
use Rattle.mta_names.specs.declared.pair.PairParts.{PairParts}
use Rattle.mta_names.specs.declared.person.PersonParts.{PersonParts}
use Rattle.mta_names.specs.declared.person.PersonPart.{PersonPart}
use Rattle.mta_names.specs.declared.person.PersonPart.TheVariants.{Surname, Given, Initials, Generation}
use Rattle.mta_names.specs.Labels.{label_number, country_in, label_in, label_choice, SpellsChoice, SpellsLabel}
use Rattle.mta_names.specs.Labels.{canonical_choice}
use Rattle.mta_names.specs.Laws.{CountriesAreReadAgain, LabelsAreReadAgain, LabelChoicesAreReadAgain}
use Rattle.mta_names.specs.Laws.{PersonalNamesAreReadAgain, UnitNamesAreReadAgain, DomainDefinedAttributesAreReadAgain}
use Rattle.mta_names.specs.Lists.{is_printable, is_sequence, units_in, pairs_in, SpellsUnit, SpellsUnits}
use Rattle.mta_names.specs.Lists.{canonical_printable, no_pair, MakesPair, SpellsPair, SpellsPairs, canonical_pair}
use Rattle.mta_names.specs.Persons.{person_number, person_size, person_slot, with_person_part, no_person, MakesPerson}
use Rattle.mta_names.specs.Persons.{SpellsPerson, person_in, canonical_person_part, canonical_person}
use Rattle.mta_names.specs.Strings.{SpellsNumber, AddsItem}
use Rattle.mta_names.specs.Values.{Each, IsCountry, IsLabel, IsPerson, IsPair}
use Rattle.mta_names.proofs.LabelLaws.{country_full, label_full, label_choice_full}
use Rattle.mta_names.proofs.ListLaws.{units_full, pairs_full}
use Rattle.mta_names.proofs.PersonLaws.{person_full}
use Rattle.mta_names.proofs.Rows.{element_stands, short_inside, short_front, short_back, puts, component, IsRow}
use Rattle.mta_names.proofs.Rows.{row_more, row_last, row_spelled, items_row, From, Piece, none_from, piece_from}
use Rattle.mta_names.proofs.Rows.{optional_from, at_last, regroup_4, read_again, content_again}

-- ---- tags

pub low_tag : (class number : ℕ) (c : Bool) → class < 4 → number < 2 ^ 28
    → IsTag (record { class = class; constructed = c; number = number })
low_tag class number c a b = record { class = a; number = b }

-- ---- texts

pub text_spelled : (class : TextClass) (low high depth : ℕ) (t : List ℕ) → IsText class low high t → depth ≤ 16
    → SpellsText class low high depth false t t
text_spelled class low high depth t h d =
    record { spelled = octets_spelled (class_number class) depth t d; is_text = h }

-- ---- numbers

few_so : (octets : List ℕ) → length (shortest octets) ≤ length octets
few_so [] = omega arith
few_so (b ∷ bs) = go (is_redundant b bs) (few_so bs)
  where
    go : (r : Bool) → length (shortest bs) ≤ length bs → length (cond r (shortest bs) (b ∷ bs)) ≤ suc (length bs)
    go true h = omega arith
    go false h = omega arith

few_octets : (n : ℤ) → length (int_content n) ≤ 8
unfolding int_content
few_octets n = few_so (to_be_bytes w64 (cast_unsigned w64 n))

number_fits : (n : ℕ) → n < 2 ^ 63 → FitsSigned w64 (pos n)
number_fits n lt = omega (arith, ints)

number_range : (high n : ℕ) → n ≤ high → in_range (pos 0) (pos high) (pos n) ≡ true
number_range high n le = grind (arith, nat_tests)

abbrev number_beside : ℤ → ℤ × List ℕ
number_beside n = (n, [])

pub number_spelled : (high n : ℕ) → n ≤ high → n < 2 ^ 63 → SpellsNumber 0 high false (int_content (pos n)) n
number_spelled high n le lt =
    let t = primitive 0 2 in
    let low : IsTag t = low_tag 0 2 false (omega arith) (omega arith) in
    let few = few_octets (pos n) in
    let whole = numbers_again t (pos n) (pos 0) (pos high) [] 0 low (number_fits n lt) (number_range high n le) in
    let found = ap (λ x. x >>= with_rest (λ p. int_in p.at p.tag.constructed (pos 0) (pos high) p.content))
    (first_again 0 t (int_content (pos n)) [] low (omega arith)) in
    let b = bind_ok (int_in 0 false (pos 0) (pos high) (int_content (pos n))) (λ v. beside v []) (number_beside (pos n))
    (sym found ∙ whole) in
    let same : b.0 ≡ pos n = ap (λ (x : ℤ × List ℕ). x.0) (ok_is (number_beside b.0) (number_beside (pos n)) b.2) in
    subst (λ k. SpellsInteger (pos 0) (pos high) false (int_content (pos n)) k) same
    (int_sound 0 false (pos 0) (pos high) (int_content (pos n)) b.0 b.1)

-- ---- explicit tags

pub explicit_spelled : {A : Type 0} (spells : Spells A) (depth : ℕ) (t : Tag) (content : List ℕ) (x : A) → IsTag t
    → depth + 1 ≤ 16 → length (element t content) < 2 ^ 64
    → spells (depth + 1) t content (element t content) x → SpellsExplicit spells depth true (element t content) x
explicit_spelled spells depth t content x low d short h =
    record {
      is_constructed = refl;
      tag = t;
      inside = content;
      stands =
          element_stands (depth + 1) t content low (short_inside t content short) d;
      spelled = h;
    }

-- ---- labels

pub string_tag : (b : Bool) → IsTag (primitive 0 (label_number b))
string_tag true = low_tag 0 18 false (omega arith) (omega arith)
string_tag false = low_tag 0 19 false (omega arith) (omega arith)

string_number : (b : Bool) → is_tag 0 (label_number b) (primitive 0 (label_number b)) ≡ true
string_number true = refl
string_number false = refl

pub choice_spelled : (fits : Label → Type 0) (depth : ℕ) (octets : List ℕ) (l : Label) → fits l → depth ≤ 16
    → SpellsChoice fits depth (primitive 0 (label_number l.numeric)) l.text octets l
choice_spelled fits depth octets l h d =
    record {
      is_tag_of = string_number l.numeric;
      spelled = octets_spelled (label_number l.numeric) depth l.text d;
      fits_so = h;
    }

pub label_spelled : (fits : Label → Type 0) (depth : ℕ) (l : Label) → fits l → depth + 1 ≤ 16
    → length (canonical_choice l) < 2 ^ 64 → SpellsLabel fits depth true (canonical_choice l) l
label_spelled fits depth l h d short =
    explicit_spelled (SpellsChoice fits) depth (primitive 0 (label_number l.numeric)) l.text l
    (string_tag l.numeric) d short (choice_spelled fits (depth + 1) (canonical_choice l) l h d)

pub countries_again : CountriesAreReadAgain
countries_again class number depth l low h d = content_again country_in (SpellsLabel IsCountry) country_full depth
    (constructed class number) (canonical_choice l) l low refl (omega arith) (label_spelled IsCountry depth l h d)

pub labels_again : LabelsAreReadAgain
labels_again class number low high depth l is h d =
    content_again (label_in low high) (SpellsLabel (IsLabel low high)) (label_full low high) depth
    (constructed class number) (canonical_choice l) l is refl (omega arith)
    (label_spelled (IsLabel low high) depth l h d)

pub label_choices_again : LabelChoicesAreReadAgain
label_choices_again low high depth l h d =
    read_again (label_choice low high) depth (primitive 0 (label_number l.numeric)) l.text l (string_tag l.numeric) d
    (λ short at more.
    label_choice_full low high l (lent at depth (primitive 0 (label_number l.numeric)) l.text more) d
    (choice_spelled (IsLabel low high) depth (canonical_choice l) l h d))

-- ---- personal names

person_piece : (k : PersonPart) (depth : ℕ) (s : PersonParts) (t : List ℕ)
    → is_tag 2 (person_number k) (primitive 2 (person_number k)) ≡ true → IsTag (primitive 2 (person_number k))
    → person_slot k s ≡ None → IsText Printable 1 (person_size k) t → depth ≤ 16
    → Piece MakesPerson depth (λ last s. s) 0 (person_number k + 1) s (canonical_person_part k t)
    (with_person_part k s t)
person_piece k depth s t is low none h d short last ge lt =
    component MakesPerson depth s (with_person_part k s t) (primitive 2 (person_number k)) t low d short
    (record {
      part = k;
      is_tag_of = is;
      absent = none;
      puts =
          puts (SpellsText Printable 1 (person_size k) depth false t) (with_person_part k s) t
          (text_spelled Printable 1 (person_size k) depth t h d);
    })

abbrev with_surname : List ℕ → Option (List ℕ) → Option (List ℕ) → Option (List ℕ) → PersonParts
with_surname t g i e = record { surname = Some t; given = g; initials = i; generation = e }

person_row : (depth : ℕ) (v : PersonFields) → IsPerson v → depth ≤ 16
    → From MakesPerson depth (λ last s. s) 0 1 no_person (canonical_person v)
    (with_surname v.surname v.given v.initials v.generation)
person_row depth v h d =
    let parts = with_surname v.surname v.given v.initials v.generation in
    let given = optional (canonical_person_part Given) v.given in
    let initials = optional (canonical_person_part Initials) v.initials in
    let generation = optional (canonical_person_part Generation) v.generation in
    subst (λ octets. From MakesPerson depth (λ last s. s) 0 1 no_person octets parts)
    (regroup_4 (canonical_person_part Surname v.surname) given initials generation)
    (piece_from MakesPerson depth (λ last s. s) 0 1 2 no_person (with_surname v.surname None None None)
    (canonical_person_part Surname v.surname) (given ++ (initials ++ generation)) parts (omega arith)
    (person_piece Surname depth no_person v.surname refl (low_tag 2 0 false (omega arith) (omega arith)) refl h.surname
    d)
    (optional_from MakesPerson depth (λ last s. s) 0 2 3 (canonical_person_part Given) (IsText Printable 1 16)
    (λ o. with_surname v.surname o None None) v.given (initials ++ generation) parts (omega arith) h.given
    (λ x is. person_piece Given depth (with_surname v.surname None None None) x refl
    (low_tag 2 1 false (omega arith) (omega arith)) refl is d)
    (optional_from MakesPerson depth (λ last s. s) 0 3 4 (canonical_person_part Initials) (IsText Printable 1 5)
    (λ o. with_surname v.surname v.given o None) v.initials generation parts (omega arith) h.initials
    (λ x is. person_piece Initials depth (with_surname v.surname v.given None None) x refl
    (low_tag 2 2 false (omega arith) (omega arith)) refl is d)
    (at_last MakesPerson depth (λ last s. s) 0 4 (with_surname v.surname v.given v.initials None)
    (optional (canonical_person_part Generation) v.generation)
    (with_surname v.surname v.given v.initials v.generation)
    (optional_from MakesPerson depth (λ last s. s) 0 4 5 (canonical_person_part Generation) (IsText Printable 1 3)
    (λ o. with_surname v.surname v.given v.initials o) v.generation []
    (with_surname v.surname v.given v.initials v.generation) (omega arith) h.generation
    (λ x is. person_piece Generation depth (with_surname v.surname v.given v.initials None) x refl
    (low_tag 2 3 false (omega arith) (omega arith)) refl is d)
    (none_from MakesPerson depth (λ last s. s) 0 5 (with_surname v.surname v.given v.initials v.generation)))))))

pub person_spelled : (depth : ℕ) (v : PersonFields) → IsPerson v → depth + 1 ≤ 16 → length (canonical_person v) < 2 ^ 64
    → SpellsPerson depth true (canonical_person v) v
person_spelled depth v h d short =
    let parts = with_surname v.surname v.given v.initials v.generation in
    let e = person_row (depth + 1) v h d short 0 (omega arith) (omega arith) in
    record {
      is_constructed = refl;
      parts = parts;
      spelled =
          row_spelled MakesPerson depth no_person parts (canonical_person v) e.row;
      surname = refl;
      value = refl;
    }

pub persons_again : PersonalNamesAreReadAgain
persons_again tag depth v low is h d =
    content_again person_in SpellsPerson person_full depth tag (canonical_person v) v low is (omega arith)
    (person_spelled depth v h d)

-- ---- unit names

sequence_low : IsTag (constructed 0 16)
sequence_low = low_tag 0 16 true (omega arith) (omega arith)

printable_low : IsTag (primitive 0 19)
printable_low = low_tag 0 19 false (omega arith) (omega arith)

unit_item : (depth : ℕ) → depth ≤ 16 → (us : List (List ℕ)) (u : List ℕ) → IsText Printable 1 32 u
    → length (canonical_printable u) < 2 ^ 64
    → IsComponent (AddsItem is_printable SpellsUnit) depth us (canonical_printable u) (us ++ u ∷ [])
unit_item depth d us u h short =
    component (AddsItem is_printable SpellsUnit) depth us (us ++ u ∷ []) (primitive 0 19) u printable_low d short
    (record { is_item_tag = refl; item = u; spelled = text_spelled Printable 1 32 depth u h d; after_is = refl })

pub units_spelled : (depth : ℕ) (us : List (List ℕ)) → Each (IsText Printable 1 32) us → 1 ≤ length us → length us ≤ 4
    → depth + 1 ≤ 16 → length (flat_map canonical_printable us) < 2 ^ 64
    → SpellsUnits depth true (flat_map canonical_printable us) us
units_spelled depth us h some few d short =
    record {
      is_constructed = refl;
      spelled = row_spelled (AddsItem is_printable SpellsUnit) depth [] us (flat_map canonical_printable us)
          (items_row (AddsItem is_printable SpellsUnit) (depth + 1) (λ ys. ys) canonical_printable
          (IsText Printable 1 32) (unit_item (depth + 1) d) [] us h short);
      at_least = some;
      at_most = few;
    }

pub units_again : UnitNamesAreReadAgain
units_again depth us h some few d =
    content_again units_in SpellsUnits units_full depth (constructed 2 6) (flat_map canonical_printable us) us
    (low_tag 2 6 true (omega arith) (omega arith)) refl (omega arith) (units_spelled depth us h some few d)

-- ---- domain-defined attributes

abbrev pair_parts : Option (List ℕ) → Option (List ℕ) → PairParts
pair_parts k v = record { kind = k; value = v }

pair_row : (depth : ℕ) (v : PairFields) → IsPair v → depth ≤ 16
    → length (canonical_printable v.kind ++ canonical_printable v.value) < 2 ^ 64
    → IsRow MakesPair depth no_pair (canonical_printable v.kind ++ canonical_printable v.value)
    (pair_parts (Some v.kind) (Some v.value))
pair_row depth v h d short =
    let first = short_front (canonical_printable v.kind) (canonical_printable v.value) short in
    let second = short_back (canonical_printable v.kind) (canonical_printable v.value) short in
    let half = pair_parts (Some v.kind) None in
    let whole = pair_parts (Some v.kind) (Some v.value) in
    row_more MakesPair depth no_pair half whole (canonical_printable v.kind) (canonical_printable v.value)
    (component MakesPair depth no_pair half (primitive 0 19) v.kind printable_low d first (
      refl,
      inl (record {
        no_kind = refl;
        no_value = refl;
        puts =
            puts (SpellsText Printable 1 8 depth false v.kind) (λ t. pair_parts (Some t) None) v.kind
            (text_spelled Printable 1 8 depth v.kind h.kind d);
      }),
    ))
    (row_last MakesPair depth half whole (canonical_printable v.value)
    (component MakesPair depth half whole (primitive 0 19) v.value printable_low d second (
      refl,
      inr (record {
        some_kind = refl;
        no_value = refl;
        puts =
            puts (SpellsText Printable 1 128 depth false v.value) (λ t. pair_parts (Some v.kind) (Some t)) v.value
            (text_spelled Printable 1 128 depth v.value h.value d);
      }),
    )))

pair_spelled : (depth : ℕ) (octets : List ℕ) (v : PairFields) → IsPair v → depth + 1 ≤ 16
    → length (canonical_printable v.kind ++ canonical_printable v.value) < 2 ^ 64
    → SpellsPair depth (constructed 0 16) (canonical_printable v.kind ++ canonical_printable v.value) octets v
pair_spelled depth octets v h d short = record {
  is_constructed = refl;
  parts = pair_parts (Some v.kind) (Some v.value);
  spelled = row_spelled MakesPair depth no_pair (pair_parts (Some v.kind) (Some v.value))
      (canonical_printable v.kind ++ canonical_printable v.value) (pair_row (depth + 1) v h d short);
  kind = refl;
  value = refl;
}

pair_item : (depth : ℕ) → depth + 1 ≤ 16 → (ps : List PairFields) (v : PairFields) → IsPair v
    → length (canonical_pair v) < 2 ^ 64 → IsComponent (AddsItem is_sequence SpellsPair) depth ps (canonical_pair v)
    (ps ++ v ∷ [])
pair_item depth d ps v h short =
    let content = canonical_printable v.kind ++ canonical_printable v.value in
    component (AddsItem is_sequence SpellsPair) depth ps (ps ++ v ∷ []) (constructed 0 16) content sequence_low
    (omega arith) short
    (record {
      is_item_tag = refl;
      item = v;
      spelled =
          pair_spelled depth (canonical_pair v) v h d (short_inside (constructed 0 16) content short);
      after_is = refl;
    })

pub pairs_spelled : (depth : ℕ) (ps : List PairFields) → Each IsPair ps → 1 ≤ length ps → length ps ≤ 4 → depth + 2 ≤ 16
    → length (flat_map canonical_pair ps) < 2 ^ 64 → SpellsPairs depth true (flat_map canonical_pair ps) ps
pairs_spelled depth ps h some few d short =
    record {
      is_constructed = refl;
      spelled = row_spelled (AddsItem is_sequence SpellsPair) depth [] ps (flat_map canonical_pair ps)
          (items_row (AddsItem is_sequence SpellsPair) (depth + 1) (λ ys. ys) canonical_pair IsPair
          (pair_item (depth + 1) (omega arith)) [] ps h short);
      at_least = some;
      at_most = few;
    }

pub pairs_again : DomainDefinedAttributesAreReadAgain
pairs_again depth ps h some few d =
    content_again pairs_in SpellsPairs pairs_full depth (constructed 0 16)
    (flat_map canonical_pair ps) ps sequence_low refl (omega arith) (pairs_spelled depth ps h some few d)
