-- What is written of a content type, a trace, a list of extension fields and indicators is spelled so.
use Rattle.std.proofs.Common.{◌≡◌, ℕ, zero, suc, ◌+◌, ◌-◌, ◌*◌, ◌/◌, ◌%◌, ◌≤◌, ◌<◌, ◌^◌, ◌⊎◌, true, false, cond, ltb}
use Rattle.std.proofs.Common.{List, [], ◌∷◌, ◌++◌, length, Option, Some, None, refl, sym, ap, ◌∙◌, arith, inl, inr, pos}
use Rattle.std.specs.Prelude.{unwrap_or, max}
use Rattle.std.specs.List.{flat_map}
use Rattle.std.specs.Int.{bytes_high_first}
use Rattle.std.proofs.Math.Nat.{mod-eq_of_lt}
use Rattle.std.proofs.lemmas.Nat.{shl-shr, shl_below}
use Rattle.std.proofs.lemmas.Bool.{cases_lt, le-ltb}
use Rattle.mta_ber.specs.declared.tag.Tag.{Tag}
use Rattle.mta_ber.specs.Bits.{BitString, no_bits, with_bits, at_most_64, too_many, padded}
use Rattle.mta_ber.specs.Canon.{IsTag, element, constructed, primitive, optional}
use Rattle.mta_ber.specs.Components.{IsComponent}
use Rattle.mta_ber.specs.Contents.{int_content, octet_count, unused_bits, bits_content}
use Rattle.mta_ber.specs.Head.{base}
use Rattle.mta_ber.specs.Oid.{IsOid}
use Rattle.mta_ber.specs.Segmented.{AddsBits}
use Rattle.mta_ber.proofs.BitLaws.{octets_as_bits}
use Rattle.mta_ber.proofs.CanonLaws.{digits_of}
use Rattle.mta_names.specs.Lists.{is_sequence}
use Rattle.mta_names.specs.Strings.{AddsItem}
use Rattle.mta_names.specs.Values.{Each}
use Rattle.mta_names.proofs.Again.{low_tag, number_spelled}
use Rattle.mta_names.proofs.Rows.{short_inside, component, row_spelled, items_row, each_both}
use Rattle.mta_fields.specs.declared.extension.ExtFields.{ExtFields}
use Rattle.mta_fields.specs.declared.trace.TraceFields.{TraceFields}
use Rattle.mta_fields.specs.Domains.{canonical_domain}
use Rattle.mta_fields.specs.ExtensionFields.{IsExtField, ext_content, canonical_ext}
use Rattle.mta_fields.specs.Laws.{IsWholeTrace, KeepsTrace, KeepsExtField}
use Rattle.mta_fields.specs.TraceElements.{canonical_trace}
use Rattle.mta_fields.specs.Traces.{canonical_supplied}
use Rattle.mta_fields.proofs.ExtensionAgain.{extension_field_spelled}
use Rattle.mta_fields.proofs.FieldAgain.{bits_spelled, trace_spelled}
use Rattle.mta_envelope_common.specs.declared.kind.ContentKind.TheVariants.{Number, Oid}
use Rattle.mta_envelope_common.specs.ContentKinds.{SpellsContentKind}
use Rattle.mta_envelope_common.specs.ExtensionLists.{SpellsExtItem, SpellsExtList, canonical_ext_list}
use Rattle.mta_envelope_common.specs.Indicators.{IsIndicators, SpellsIndicators}
use Rattle.mta_envelope_common.specs.TraceLists.{SpellsTraceItem, SpellsTraceList}

-- ---- content types

pub kind_number_spelled : (depth n : ℕ) (octets : List ℕ) → n ≤ 32767
    → SpellsContentKind depth (primitive 1 6) (int_content (pos n)) octets (Number n)
kind_number_spelled depth n octets h = (refl, number_spelled 32767 n h (omega arith))

pub kind_oid_spelled : (depth : ℕ) (o octets : List ℕ) → IsOid o
    → SpellsContentKind depth (primitive 0 6) o octets (Oid o)
kind_oid_spelled depth o octets h = (refl, record { primitive = refl; is_oid_of = h; kept = refl })

-- ---- traces

sequence_low : IsTag (constructed 0 16)
sequence_low = low_tag 0 16 true (omega arith) (omega arith)

trace_item : (depth : ℕ) → depth + 4 ≤ 16 → (vs : List TraceFields) (v : TraceFields) → IsWholeTrace v
    × KeepsTrace depth v → length (canonical_trace v) < 2 ^ 64
    → IsComponent (AddsItem is_sequence SpellsTraceItem) depth vs (canonical_trace v) (vs ++ v ∷ [])
unfolding canonical_trace
trace_item depth d vs v h short =
    let content = canonical_domain v.domain ++ canonical_supplied v.supplied in
    component (AddsItem is_sequence SpellsTraceItem) depth vs (vs ++ v ∷ []) (constructed 0 16) content sequence_low
    (omega arith) short
    (record {
      is_item_tag = refl;
      item = v;
      spelled =
          trace_spelled depth v h.0 h.1 d (short_inside (constructed 0 16) content short);
      after_is = refl;
    })

pub trace_list_spelled : (depth : ℕ) (vs : List TraceFields) → Each IsWholeTrace vs → Each (KeepsTrace (depth + 1)) vs
    → length vs ≤ 512 → depth + 5 ≤ 16 → length (flat_map canonical_trace vs) < 2 ^ 64
    → SpellsTraceList depth true (flat_map canonical_trace vs) vs
trace_list_spelled depth vs h k few d short =
    let both = each_both IsWholeTrace (KeepsTrace (depth + 1)) vs h k in
    record {
      is_constructed = refl;
      spelled = row_spelled (AddsItem is_sequence SpellsTraceItem) depth [] vs (flat_map canonical_trace vs)
          (items_row (AddsItem is_sequence SpellsTraceItem) (depth + 1) (λ ys. ys) canonical_trace
          (λ v. IsWholeTrace v × KeepsTrace (depth + 1) v) (trace_item (depth + 1) (omega arith)) [] vs both short);
      at_least = omega arith;
      at_most = few;
    }

-- ---- lists of extension fields

ext_item : (depth : ℕ) → depth + 2 ≤ 16 → (vs : List ExtFields) (v : ExtFields) → IsExtField v × KeepsExtField depth v
    → length (canonical_ext v) < 2 ^ 64
    → IsComponent (AddsItem is_sequence SpellsExtItem) depth vs (canonical_ext v) (vs ++ v ∷ [])
unfolding canonical_ext
ext_item depth d vs v h short =
    component (AddsItem is_sequence SpellsExtItem) depth vs (vs ++ v ∷ []) (constructed 0 16)
    (ext_content v) sequence_low (omega arith) short
    (record {
      is_item_tag = refl;
      item = v;
      spelled =
          extension_field_spelled depth v h.0 h.1 d (short_inside (constructed 0 16) (ext_content v) short);
      after_is =
          refl;
    })

pub ext_list_spelled : (depth : ℕ) (vs : List ExtFields) → Each IsExtField vs → Each (KeepsExtField (depth + 1)) vs
    → depth + 3 ≤ 16 → length (flat_map canonical_ext vs) < 2 ^ 64
    → SpellsExtList depth true (flat_map canonical_ext vs) vs
ext_list_spelled depth vs h k d short =
    let both = each_both IsExtField (KeepsExtField (depth + 1)) vs h k in
    record {
      is_constructed = refl;
      spelled = row_spelled (AddsItem is_sequence SpellsExtItem) depth [] vs (flat_map canonical_ext vs)
          (items_row (AddsItem is_sequence SpellsExtItem) (depth + 1) (λ ys. ys) canonical_ext
          (λ v. IsExtField v × KeepsExtField (depth + 1) v) (ext_item (depth + 1) (omega arith)) [] vs both short);
    }

-- a list is a component where it is not empty
abbrev pub ext_list_of : List ExtFields → Option (List ExtFields)
ext_list_of [] = None
ext_list_of (v ∷ vs) = Some (v ∷ vs)

abbrev pub write_ext_list : Tag → List ExtFields → List ℕ
write_ext_list tag vs = element tag (flat_map canonical_ext vs)

pub ext_list_written : (tag : Tag) (vs : List ExtFields)
    → optional (write_ext_list tag) (ext_list_of vs) ≡ canonical_ext_list tag vs
ext_list_written tag [] = refl
ext_list_written tag (v ∷ vs) = refl

pub ext_list_held : (vs : List ExtFields) → unwrap_or (ext_list_of vs) [] ≡ vs
ext_list_held [] = refl
ext_list_held (v ∷ vs) = refl

-- ---- indicators

length_bytes : (k n : ℕ) → length (bytes_high_first k n) ≡ k
length_bytes zero n = refl
length_bytes (suc k) n = ap (λ x. suc x) (length_bytes k n)

made_is : (c c' w w' : ℕ) → c ≡ c' → w ≡ w'
    → ◌≡◌ {A = BitString} (record { count = c; word = w }) (record { count = c'; word = w' })
made_is c c' w w' a b = cc

some_unused : (bits count number : ℕ) → length (bytes_high_first (octet_count bits) number) ≡ octet_count bits
    → (unused_bits bits ≡ 0) ⊎ ((true ≡ true) × (1 ≤ length (bytes_high_first (octet_count bits) number)))
some_unused bits count number size =
    elim (cases_lt 0 bits) [ inl some ↦ inr (refl, omega (arith, size)) | inr none ↦ inl (omega arith) ]

joined_is : (b : BitString) (c w : ℕ) → b.count ≤ 64 → c ≡ b.count → w ≡ b.word
    → b ≡ at_most_64 (with_bits no_bits (record { count = c; word = w }))
joined_is b c w few ce we =
    let small : ltb 64 (0 + c) ≡ false = le-ltb 64 (0 + c) (omega arith) in
    let count_is : 0 + c ≡ b.count = omega arith in
    let word_is : 0 * 2 ^ c + w ≡ b.word = omega arith in
    sym (ap (λ t. cond t too_many (with_bits no_bits (record { count = c; word = w }))) small
    ∙ made_is (0 + c) b.count (0 * 2 ^ c + w) b.word count_is word_is)

adds_bits : (b : BitString) → b.count ≤ 64 → b.word < 2 ^ b.count → AddsBits true no_bits (bits_content b) b
unfolding bits_content
adds_bits b few below =
    let unused = unused_bits b.count in
    let count = octet_count b.count in
    let number = b.word * 2 ^ unused in
    let octets = bytes_high_first count number in
    let size = length_bytes count number in
    let whole : b.count + unused ≡ 8 * count = omega arith in
    let small : number < 256 ^ count =
    omega (arith, shl_below b.word b.count unused below, ap (λ k. 2 ^ k) whole, octets_as_bits count) in
    let value : base 256 octets ≡ number = digits_of count 0 number
    ∙ (let e : 0 * 256 ^ count + number % 256 ^ count ≡ number = ap (λ x. 0 * 256 ^ count + x) (mod-eq_of_lt small)
    ∙ (let z : 0 * 256 ^ count + number ≡ number = omega arith in z) in e) in
    let word : base 256 octets / 2 ^ unused ≡ b.word = ap (λ x. x / 2 ^ unused) value ∙ shl-shr b.word unused in
    let count_is : 8 * length octets - unused ≡ b.count = omega (arith, size) in
    record {
      unused = unused;
      octets = octets;
      content_is = refl;
      few = omega arith;
      some =
          some_unused b.count count number size;
      after_is =
          joined_is b (8 * length octets - unused) (base 256 octets / 2 ^ unused) few count_is word;
    }

padded_so : (b : BitString) → 8 ≤ b.count → b ≡ padded 8 b
padded_so b h =
    let count : b.count ≡ max 8 b.count = omega arith in
    let none : 8 - b.count ≡ 0 = omega arith in
    let word : b.word ≡ b.word * 2 ^ (8 - b.count) =
    sym (ap (λ k. b.word * 2 ^ k) none ∙ (let e : b.word * 2 ^ 0 ≡ b.word = omega arith in e)) in
    made_is b.count (max 8 b.count) b.word (b.word * 2 ^ (8 - b.count)) count word

pub indicators_spelled : (depth : ℕ) (b : BitString) → IsIndicators b → depth ≤ 16
    → SpellsIndicators depth false (bits_content b) b
indicators_spelled depth b h d =
    record {
      bits = b;
      spelled = bits_spelled depth (bits_content b) b (adds_bits b h.at_most h.within) h.at_most d;
      value = padded_so b h.at_least;
    }
