-- Recipients that are written are spelled so, and are read again.
use Rattle.std.proofs.Common.{◌≡◌, ℕ, pos, ◌+◌, ◌≤◌, ◌<◌, ◌^◌, true, false, List, [], ◌∷◌, ◌++◌, length, Option, Some}
use Rattle.std.proofs.Common.{None, refl, ap, subst, ◌∙◌, append_assoc, arith}
use Rattle.std.specs.Prelude.{IfSome}
use Rattle.std.specs.List.{flat_map}
use Rattle.std.proofs.lemmas.Bool.Decides.{nat_tests}
use Rattle.mta_ber.specs.declared.tag.Tag.{Tag}
use Rattle.mta_ber.specs.Bits.{BitString}
use Rattle.mta_ber.specs.Canon.{IsTag, element, constructed, primitive, optional}
use Rattle.mta_ber.specs.Components.{IsComponent}
use Rattle.mta_ber.specs.Contents.{int_content, bits_content, canon_int}
use Rattle.mta_ber.specs.Int.{in_range}
use Rattle.mta_ber.specs.Parts.{is_tag}
use Rattle.mta_names.specs.declared.attributes.Attributes.{Attributes}
use Rattle.mta_names.specs.Laws.{IsRawAt, KeepsName}
use Rattle.mta_names.specs.Lists.{is_sequence, listed}
use Rattle.mta_names.specs.Names.{SpellsName, name_content, canonical_name, kept}
use Rattle.mta_names.specs.Strings.{SpellsNumber, AddsItem}
use Rattle.mta_names.specs.Values.{Each}
use Rattle.mta_names.proofs.Again.{low_tag, number_spelled}
use Rattle.mta_names.proofs.NameAgain.{name_spelled}
use Rattle.mta_names.proofs.Rows.{short_inside, puts, component, row_spelled, items_row, each_both, From, Piece}
use Rattle.mta_names.proofs.Rows.{none_from, piece_from, optional_from, listed_from, at_last, content_again}
use Rattle.mta_fields.proofs.Tagged.{tagged_again}
use Rattle.mta_fields.specs.declared.extension.ExtFields.{ExtFields}
use Rattle.mta_fields.specs.ExtensionFields.{IsExtField, ext_content, canonical_ext}
use Rattle.mta_fields.specs.Laws.{KeepsExtField}
use Rattle.mta_fields.proofs.ExtensionAgain.{extension_field_spelled}
use Rattle.mta_envelope_common.specs.ExtensionLists.{SpellsExtItem, SpellsExtList, canonical_ext_list}
use Rattle.mta_envelope_common.specs.Indicators.{SpellsIndicators, canonical_indicators}
use Rattle.mta_envelope_recipient.specs.declared.recipient.RecipientFields.{RecipientFields}
use Rattle.mta_envelope_recipient.specs.declared.parts.RecipientPart.{RecipientPart}
use Rattle.mta_envelope_recipient.specs.declared.parts.RecipientPart.TheVariants.{Addressee, Number, Indicators}
use Rattle.mta_envelope_recipient.specs.declared.parts.RecipientPart.TheVariants.{Conversion, Extensions}
use Rattle.mta_envelope_recipient.specs.declared.parts.RecipientParts.{RecipientParts}
use Rattle.mta_envelope_recipient.specs.Laws.{KeepsRecipient, IsWholeRecipient, RecipientsAreReadAgain}
use Rattle.mta_envelope_recipient.specs.Laws.{RecipientListsAreReadAgain}
use Rattle.mta_envelope_recipient.specs.Lists.{is_set, SpellsItem, SpellsRecipients, recipients_in}
use Rattle.mta_envelope_recipient.specs.Lists.{canonical_recipients}
use Rattle.mta_envelope_recipient.specs.Recipients.{is_recipient_tag, with_name, with_number, with_indicators}
use Rattle.mta_envelope_recipient.specs.Recipients.{with_conversion, with_extensions, no_recipient, fields_or_none}
use Rattle.mta_envelope_recipient.specs.Recipients.{recipient, recipient_in, MakesRecipientPart, MakesRecipient}
use Rattle.mta_envelope_recipient.specs.Recipients.{SpellsRecipient, recipient_content, canonical_recipient}
use Rattle.mta_envelope_recipient.proofs.BitsAgain.{indicators_spelled}
use Rattle.mta_envelope_recipient.proofs.ListLaws.{recipients_full}
use Rattle.mta_envelope_recipient.proofs.RecipientLaws.{recipient_full}

-- ---- lists of extension fields

pub sequence_low : IsTag (constructed 0 16)
sequence_low = low_tag 0 16 true (omega arith) (omega arith)

-- a field that is one, and whose value stands in the level of its place
abbrev pub IsKeptField : ℕ → ExtFields → Type 0
IsKeptField depth v = IsExtField v × KeepsExtField depth v

field_item : (depth : ℕ) → depth + 2 ≤ 16 → (vs : List ExtFields) (v : ExtFields) → IsKeptField depth v
    → length (canonical_ext v) < 2 ^ 64 → IsComponent (AddsItem is_sequence SpellsExtItem) depth vs (canonical_ext v)
    (vs ++ v ∷ [])
unfolding canonical_ext
field_item depth d vs v h short =
    component (AddsItem is_sequence SpellsExtItem) depth vs (vs ++ v ∷ []) (constructed 0 16)
    (ext_content v) sequence_low (omega arith) short
    (record {
      is_item_tag = refl;
      item = v;
      spelled =
          extension_field_spelled depth v h.0 h.1 d (short_inside (constructed 0 16) (ext_content v) short);
      after_is =
          refl;
    })

pub ext_list_spelled : (depth : ℕ) (vs : List ExtFields) → Each (IsKeptField (depth + 1)) vs → depth + 3 ≤ 16
    → length (flat_map canonical_ext vs) < 2 ^ 64 → SpellsExtList depth true (flat_map canonical_ext vs) vs
ext_list_spelled depth vs h d short = record {
  is_constructed = refl;
  spelled = row_spelled (AddsItem is_sequence SpellsExtItem) depth [] vs (flat_map canonical_ext vs)
      (items_row (AddsItem is_sequence SpellsExtItem) (depth + 1) (λ ys. ys) canonical_ext (IsKeptField (depth + 1))
      (field_item (depth + 1) (omega arith)) [] vs h short);
}

abbrev pub write_fields : Tag → List ExtFields → List ℕ
write_fields tag vs = element tag (flat_map canonical_ext vs)

pub fields_listed : (tag : Tag) (vs : List ExtFields) → listed (write_fields tag) vs ≡ canonical_ext_list tag vs
fields_listed tag [] = refl
fields_listed tag (v ∷ vs) = refl

-- ---- numbers

pub number_from_one : (n : ℕ) → 1 ≤ n → n ≤ 32767 → SpellsNumber 1 32767 false (int_content (pos n)) n
number_from_one n some small =
    let s = number_spelled 32767 n small (omega arith) in
    record { primitive = s.primitive; short = s.short; few = s.few; value = s.value; range = range n some small }
  where
    range : (n : ℕ) → 1 ≤ n → n ≤ 32767 → in_range (pos 1) (pos 32767) (pos n) ≡ true
    range n some small = grind (arith, nat_tests)

-- ---- components

abbrev same : ℕ → RecipientParts → RecipientParts
same last s = s

recipient_piece : (k : RecipientPart) (place depth : ℕ) (s t : RecipientParts) (tag : Tag) (content : List ℕ)
    → IsTag tag → is_recipient_tag k tag ≡ true → depth ≤ 16
    → (length content < 2 ^ 64 → MakesRecipientPart k depth s tag content (element tag content) t)
    → Piece MakesRecipient depth same 0 place s (element tag content) t
recipient_piece k place depth s t tag content low is d made short last ge lt =
    component MakesRecipient depth s t tag content low d short
    (record { part = k; is_tag_of = is; made = made (short_inside tag content short) })

abbrev some_fields : List ExtFields → Option (List ExtFields)
some_fields [] = None
some_fields (v ∷ vs) = Some (v ∷ vs)

fields_again : (vs : List ExtFields) → vs ≡ fields_or_none (some_fields vs)
fields_again [] = refl
fields_again (v ∷ vs) = refl

abbrev stood : Option Attributes → Option ℕ → Option BitString → Option (List ℕ) → Option (List ExtFields)
    → RecipientParts
stood n k b c e = record { name = n; number = k; indicators = b; conversion = c; extensions = e }

abbrev whole : RecipientFields → RecipientParts
whole v = stood (Some v.name) (Some v.number) (Some v.indicators) v.conversion (some_fields v.extensions)

abbrev number_octets : RecipientFields → List ℕ
number_octets v = canon_int (primitive 2 0) (pos v.number)

abbrev indicator_octets : RecipientFields → List ℕ
indicator_octets v = canonical_indicators (primitive 2 1) v.indicators

abbrev field_octets : RecipientFields → List ℕ
field_octets v = listed (write_fields (constructed 2 3)) v.extensions

module _ (depth : ℕ) (d : depth + 4 ≤ 16) (v : RecipientFields) (h : IsWholeRecipient v) (kn : KeepsName depth v.name)
    (kc : IfSome v.conversion (IsRawAt depth 2 2)) (ke : Each (IsKeptField (depth + 1)) v.extensions) where
  fields_piece : (vs : List ExtFields) → Each (IsKeptField (depth + 1)) vs → 1 ≤ length vs
      → Piece MakesRecipient depth same 0 5 (stood (Some v.name) (Some v.number) (Some v.indicators) v.conversion None)
      (write_fields (constructed 2 3) vs)
      (stood (Some v.name) (Some v.number) (Some v.indicators) v.conversion (some_fields vs))
  fields_piece [] k some = absurd (omega arith)
  fields_piece (x ∷ xs) k some =
      recipient_piece Extensions 5 depth (stood (Some v.name) (Some v.number) (Some v.indicators) v.conversion None)
      (stood (Some v.name) (Some v.number) (Some v.indicators) v.conversion (Some (x ∷ xs)))
      (constructed 2 3) (flat_map canonical_ext (x ∷ xs)) (low_tag 2 3 true (omega arith) (omega arith)) refl
      (omega arith)
      (λ short. (
        refl,
        puts (SpellsExtList depth true (flat_map canonical_ext (x ∷ xs)))
            (with_extensions (stood (Some v.name) (Some v.number) (Some v.indicators) v.conversion None)) (x ∷ xs)
            (ext_list_spelled depth (x ∷ xs) k (omega arith) short),
      ))

  fields_from : From MakesRecipient depth same 0 5
      (stood (Some v.name) (Some v.number) (Some v.indicators) v.conversion None) (field_octets v) (whole v)
  fields_from =
      at_last MakesRecipient depth same 0 5 (stood (Some v.name) (Some v.number) (Some v.indicators) v.conversion None)
      (field_octets v) (whole v)
      (listed_from MakesRecipient depth same 0 5 6 (write_fields (constructed 2 3))
      (λ vs. stood (Some v.name) (Some v.number) (Some v.indicators) v.conversion (some_fields vs)) v.extensions []
      (whole v) (omega arith)
      (fields_piece v.extensions ke)
      (none_from MakesRecipient depth same 0 6 (whole v)))

  conversion_from : From MakesRecipient depth same 0 4
      (stood (Some v.name) (Some v.number) (Some v.indicators) None None) (optional kept v.conversion ++ field_octets v)
      (whole v)
  conversion_from =
      optional_from MakesRecipient depth same 0 4 5 kept (IsRawAt depth 2 2)
      (λ o. stood (Some v.name) (Some v.number) (Some v.indicators) o None) v.conversion (field_octets v) (whole v)
      (omega arith) kc
      (λ x is short last ge lt. record {
        tag = is.tag;
        content = is.content;
        stands = is.stands;
        made = record {
          part = Conversion;
          is_tag_of = is.is_tag_of;
          made = (
            refl,
            puts (λ y. y ≡ x) (with_conversion
                (stood (Some v.name) (Some v.number) (Some v.indicators) None None)) x refl,
          );
        };
      })
      fields_from

  indicators_from : From MakesRecipient depth same 0 3 (stood (Some v.name) (Some v.number) None None None)
      (indicator_octets v ++ (optional kept v.conversion ++ field_octets v)) (whole v)
  indicators_from =
      piece_from MakesRecipient depth same 0 3 4 (stood (Some v.name) (Some v.number) None None None)
      (stood (Some v.name) (Some v.number) (Some v.indicators) None None) (indicator_octets v)
      (optional kept v.conversion ++ field_octets v) (whole v) (omega arith)
      (recipient_piece Indicators 3 depth (stood (Some v.name) (Some v.number) None None None)
      (stood (Some v.name) (Some v.number) (Some v.indicators) None None) (primitive 2 1)
      (bits_content v.indicators) (low_tag 2 1 false (omega arith) (omega arith)) refl (omega arith)
      (λ short. (
        refl,
        puts (SpellsIndicators depth false (bits_content v.indicators))
            (with_indicators (stood (Some v.name) (Some v.number) None None None)) v.indicators
            (indicators_spelled depth v.indicators h.recipient.indicators (omega arith)),
      )))
      conversion_from

  number_from : From MakesRecipient depth same 0 2 (stood (Some v.name) None None None None)
      (number_octets v ++ (indicator_octets v ++ (optional kept v.conversion ++ field_octets v))) (whole v)
  number_from =
      piece_from MakesRecipient depth same 0 2 3 (stood (Some v.name) None None None None)
      (stood (Some v.name) (Some v.number) None None None) (number_octets v)
      (indicator_octets v ++ (optional kept v.conversion ++ field_octets v)) (whole v) (omega arith)
      (recipient_piece Number 2 depth (stood (Some v.name) None None None None)
      (stood (Some v.name) (Some v.number) None None None) (primitive 2 0) (int_content (pos v.number))
      (low_tag 2 0 false (omega arith) (omega arith)) refl (omega arith)
      (λ short. (
        refl,
        puts (SpellsNumber 1 32767 false (int_content (pos v.number)))
            (with_number (stood (Some v.name) None None None None)) v.number
            (number_from_one v.number h.recipient.some h.recipient.small),
      )))
      indicators_from

  name_from : From MakesRecipient depth same 0 1 no_recipient
      (canonical_name (constructed 1 0) v.name
      ++ (number_octets v ++ (indicator_octets v ++ (optional kept v.conversion ++ field_octets v)))) (whole v)
  unfolding canonical_name
  name_from =
      piece_from MakesRecipient depth same 0 1 2 no_recipient (stood (Some v.name) None None None None)
      (canonical_name (constructed 1 0) v.name)
      (number_octets v ++ (indicator_octets v ++ (optional kept v.conversion ++ field_octets v))) (whole v)
      (omega arith)
      (recipient_piece Addressee 1 depth no_recipient (stood (Some v.name) None None None None) (constructed 1 0)
      (name_content v.name) (low_tag 1 0 true (omega arith) (omega arith)) refl (omega arith)
      (λ short. (
        refl,
        puts (SpellsName depth true (name_content v.name)) (with_name no_recipient) v.name
            (name_spelled depth v.name h.name kn (omega arith) short),
      )))
      number_from

regroup_5 : (a b c d e : List ℕ) → a ++ (b ++ (c ++ (d ++ e))) ≡ a ++ b ++ c ++ d ++ e
regroup_5 a b c d e = simp append_assoc

content_is : (v : RecipientFields) → canonical_name (constructed 1 0) v.name
    ++ (number_octets v ++ (indicator_octets v ++ (optional kept v.conversion ++ field_octets v))) ≡ recipient_content v
content_is v =
    regroup_5 (canonical_name (constructed 1 0) v.name) (number_octets v) (indicator_octets v)
    (optional kept v.conversion) (field_octets v)
    ∙ ap (λ octets. canonical_name (constructed 1 0) v.name ++ number_octets v ++ indicator_octets v
    ++ optional kept v.conversion ++ octets) (fields_listed (constructed 2 3) v.extensions)

recipient_again_is : (v : RecipientFields) → v ≡ recipient v.name v.number v.indicators (whole v)
recipient_again_is v = made v.name v.number v.indicators v.conversion v.extensions
    (fields_or_none (some_fields v.extensions)) (fields_again v.extensions)
  where
    made : (n : Attributes) (k : ℕ) (b : BitString) (c : Option (List ℕ)) (e f : List ExtFields) → e ≡ f
        → ◌≡◌ {A = RecipientFields} (record { name = n; number = k; indicators = b; conversion = c; extensions = e })
        (record { name = n; number = k; indicators = b; conversion = c; extensions = f })
    made n k b c e f is = cc

deeper : (depth : ℕ) (vs : List ExtFields) → Each (KeepsExtField (depth + 2)) vs
    → Each (KeepsExtField (depth + 1 + 1)) vs
deeper depth vs h = subst (λ k. Each (KeepsExtField k) vs) (let e : depth + 2 ≡ depth + 1 + 1 = omega arith in e) h

pub recipient_spelled : (depth : ℕ) (v : RecipientFields) → IsWholeRecipient v → KeepsRecipient depth v → depth + 5 ≤ 16
    → length (recipient_content v) < 2 ^ 64 → SpellsRecipient depth (constructed 0 17) (recipient_content v) v
recipient_spelled depth v h k d short =
    let fields = each_both IsExtField (KeepsExtField (depth + 1 + 1)) v.extensions h.extensions
    (deeper depth v.extensions k.extensions) in
    let all = subst (λ octets. From MakesRecipient (depth + 1) same 0 1 no_recipient octets (whole v)) (content_is v)
    (name_from (depth + 1) (omega arith) v h k.name k.conversion fields) in
    let e = all short 0 (omega arith) (omega arith) in
    record {
      is_tag_of = refl;
      parts = whole v;
      spelled =
          row_spelled MakesRecipient depth no_recipient (whole v) (recipient_content v) e.row;
      name = refl;
      number = refl;
      indicators = refl;
      value = recipient_again_is v;
    }

pub recipients_again : RecipientsAreReadAgain
unfolding canonical_recipient
recipients_again depth v h k d = tagged_again recipient_in SpellsRecipient recipient_full depth (constructed 0 17)
    (recipient_content v) v (low_tag 0 17 true (omega arith) (omega arith)) (omega arith)
    (recipient_spelled depth v h k d)

-- ---- lists

abbrev pub IsKeptRecipient : ℕ → RecipientFields → Type 0
IsKeptRecipient depth v = IsWholeRecipient v × KeepsRecipient depth v

recipient_item : (depth : ℕ) → depth + 5 ≤ 16 → (vs : List RecipientFields) (v : RecipientFields)
    → IsKeptRecipient depth v → length (canonical_recipient v) < 2 ^ 64
    → IsComponent (AddsItem is_set SpellsItem) depth vs (canonical_recipient v) (vs ++ v ∷ [])
unfolding canonical_recipient
recipient_item depth d vs v h short =
    component (AddsItem is_set SpellsItem) depth vs (vs ++ v ∷ []) (constructed 0 17) (recipient_content v)
    (low_tag 0 17 true (omega arith) (omega arith)) (omega arith) short
    (record {
      is_item_tag = refl;
      item = v;
      spelled =
          recipient_spelled depth v h.0 h.1 d (short_inside (constructed 0 17) (recipient_content v) short);
      after_is =
          refl;
    })

pub recipients_spelled : (depth : ℕ) (vs : List RecipientFields) → Each (IsKeptRecipient (depth + 1)) vs → 1 ≤ length vs
    → length vs ≤ 32767 → depth + 6 ≤ 16 → length (flat_map canonical_recipient vs) < 2 ^ 64
    → SpellsRecipients depth true (flat_map canonical_recipient vs) vs
recipients_spelled depth vs h some few d short = record {
  is_constructed = refl;
  spelled = row_spelled (AddsItem is_set SpellsItem) depth [] vs (flat_map canonical_recipient vs)
      (items_row (AddsItem is_set SpellsItem) (depth + 1) (λ ys. ys) canonical_recipient (IsKeptRecipient (depth + 1))
      (recipient_item (depth + 1) (omega arith)) [] vs h short);
  at_least = some;
  at_most = few;
}

pub recipient_lists_again : RecipientListsAreReadAgain
unfolding canonical_recipients
recipient_lists_again depth vs h k some few d =
    content_again recipients_in SpellsRecipients recipients_full depth (constructed 2 2)
    (flat_map canonical_recipient vs) vs (low_tag 2 2 true (omega arith) (omega arith)) refl (omega arith)
    (recipients_spelled depth vs (each_both IsWholeRecipient (KeepsRecipient (depth + 1)) vs h k) some few d)
