-- What fields keep unread stands in the level of the place where it was read, and in each level above.
use Rattle.std.proofs.Common.{◌≡◌, ℕ, ◌+◌, ◌≤◌, Bool, true, false, List, [], Option, Some, None, refl, sym, subst}
use Rattle.std.proofs.Common.{arith}
use Rattle.std.specs.Prelude.{IfSome, unwrap_or}
use Rattle.mta_ber.specs.declared.tag.Tag.{Tag}
use Rattle.mta_ber.specs.Canon.{element, primitive, ident_octets, length_octets}
use Rattle.mta_ber.specs.Parts.{is_tag}
use Rattle.mta_ber.specs.Spelling.{Stands}
use Rattle.mta_names.specs.Laws.{IsRawAt, KeepsName}
use Rattle.mta_names.specs.Values.{IsName}
use Rattle.mta_names.proofs.Again.{low_tag}
use Rattle.mta_names.proofs.Kept.{KeepsAt, spelled_kept, some_so, name_kept, name_above}
use Rattle.mta_names.proofs.Levels.{stands_above, raw_above}
use Rattle.mta_names.proofs.NameLaws.{name_is}
use Rattle.mta_names.proofs.Rows.{element_stands}
use Rattle.mta_fields.specs.declared.expansion.ExpansionFields.{ExpansionFields}
use Rattle.mta_fields.specs.declared.expansion.ExpansionPart.{ExpansionPart}
use Rattle.mta_fields.specs.declared.expansion.ExpansionPart.TheVariants as expansions
use Rattle.mta_fields.specs.declared.expansion.ExpansionParts.{ExpansionParts}
use Rattle.mta_fields.specs.declared.extension.ExtFields.{ExtFields}
use Rattle.mta_fields.specs.declared.extension.ExtPart.{ExtPart}
use Rattle.mta_fields.specs.declared.extension.ExtPart.TheVariants.{ExtType, Criticality, Value}
use Rattle.mta_fields.specs.declared.extension.ExtParts.{ExtParts}
use Rattle.mta_fields.specs.declared.supplied.Supplied.{Supplied}
use Rattle.mta_fields.specs.declared.supplied.SuppliedPart.{SuppliedPart}
use Rattle.mta_fields.specs.declared.supplied.SuppliedPart.TheVariants.{Arrival, Deferred, Routing, Other, Attempted}
use Rattle.mta_fields.specs.declared.supplied.SuppliedPart.TheVariants.{Converted}
use Rattle.mta_fields.specs.declared.supplied.SuppliedParts.{SuppliedParts}
use Rattle.mta_fields.specs.declared.trace.TraceFields.{TraceFields}
use Rattle.mta_fields.specs.declared.trace.TracePart.{TracePart}
use Rattle.mta_fields.specs.declared.trace.TracePart.TheVariants as traces
use Rattle.mta_fields.specs.declared.trace.TraceParts.{TraceParts}
use Rattle.mta_fields.specs.Domains.{IsDomain}
use Rattle.mta_fields.specs.Expansions.{no_expansion, MakesExpansionPart, MakesExpansion, SpellsExpansion}
use Rattle.mta_fields.specs.ExtensionFields.{null, no_ext, MakesExtPart, MakesExt}
use Rattle.mta_fields.specs.Laws.{IsElementAt, KeepsSupplied, KeepsTrace, KeepsExpansion, IsWholeSupplied, IsWholeId}
use Rattle.mta_fields.specs.Laws.{IsWholeTrace, IsWholeExpansion, ReadTraceElementsAreKept}
use Rattle.mta_fields.specs.Laws.{ReadSuppliedInformationIsKept, ReadExtensionFieldsAreKept, ReadExpansionsAreKept}
use Rattle.mta_fields.specs.Laws.{KeptTraceElementsAreKeptAbove, KeptSuppliedInformationIsKeptAbove}
use Rattle.mta_fields.specs.Laws.{KeptExtensionFieldsAreKeptAbove, KeptExpansionsAreKeptAbove}
use Rattle.mta_fields.specs.Laws.{ReadMtsIdentifiersAreReadAgain, ReadTraceElementsAreReadAgain}
use Rattle.mta_fields.specs.Laws.{ReadExtensionFieldsAreReadAgain, ReadExpansionsAreReadAgain}
use Rattle.mta_fields.specs.Identifiers.{no_id, MakesIdPart, MakesId, SpellsMtsId}
use Rattle.mta_fields.specs.declared.identifier.MtsIdFields.{MtsIdFields}
use Rattle.mta_fields.specs.declared.identifier.MtsIdPart.{MtsIdPart}
use Rattle.mta_fields.specs.declared.identifier.MtsIdPart.TheVariants as ids
use Rattle.mta_fields.specs.declared.identifier.MtsIdParts.{MtsIdParts}
use Rattle.mta_fields.specs.TraceElements.{no_trace, MakesTracePart, MakesTrace, SpellsTrace}
use Rattle.mta_fields.specs.Traces.{is_supplied_tag, no_supplied, MakesSuppliedPart, MakesSupplied, SpellsSupplied}
use Rattle.mta_fields.proofs.DomainLaws.{domain_is}
use Rattle.mta_fields.proofs.ExpansionLaws.{expansion_is}
use Rattle.mta_fields.proofs.ExtLaws.{ext_is}
use Rattle.mta_fields.proofs.ExtensionAgain.{extension_fields_again}
use Rattle.mta_fields.proofs.FieldAgain.{identifiers_again, traces_again, expansions_again}
use Rattle.mta_fields.proofs.IdentifierLaws.{id_is}
use Rattle.mta_fields.proofs.SuppliedLaws.{supplied_is}

-- ---- levels above

element_above : (depth above : ℕ) (octets : List ℕ) → above ≤ depth → IsElementAt depth octets
    → IsElementAt above octets
element_above depth above octets le h =
    record { tag = h.tag; content = h.content; stands = stands_above depth above h.tag h.content octets le h.stands }

pub supplied_above : KeptSuppliedInformationIsKeptAbove
supplied_above depth above v le h =
    some_so (IsRawAt (depth + 1) 1 5) (IsRawAt (above + 1) 1 5)
    (λ x k. raw_above (depth + 1) (above + 1) 1 5 x (omega arith) k) v.converted h

pub trace_above : KeptTraceElementsAreKeptAbove
trace_above depth above v le h = supplied_above (depth + 1) (above + 1) v.supplied (omega arith) h

pub extension_field_above : KeptExtensionFieldsAreKeptAbove
extension_field_above depth above v le h = element_above (depth + 2) (above + 2) v.value (omega arith) h

pub expansion_above : KeptExpansionsAreKeptAbove
expansion_above depth above v le h = name_above (depth + 1) (above + 1) v.name (omega arith) h

-- ---- what a domain supplied

abbrev Supplies : ℕ → SuppliedParts → Type 0
Supplies depth s = IfSome s.converted (IsRawAt depth 1 5) × IfSome s.attempted IsDomain

supplied_part : (k : SuppliedPart) (depth : ℕ) (s t : SuppliedParts) (tag : Tag) (content octets : List ℕ)
    → is_supplied_tag k tag ≡ true → Stands depth tag content octets → MakesSuppliedPart k depth s tag content octets t
    → Supplies depth s → Supplies depth t
supplied_part Arrival depth s t tag content octets is stands m h = subst (Supplies depth) (sym m.1.after_is) h
supplied_part Deferred depth s t tag content octets is stands m h = subst (Supplies depth) (sym m.1.after_is) h
supplied_part Routing depth s t tag content octets is stands m h = subst (Supplies depth) (sym m.1.after_is) h
supplied_part Other depth s t tag content octets is stands m h = subst (Supplies depth) (sym m.1.after_is) h
supplied_part Attempted depth s t tag content octets is stands m h =
    subst (Supplies depth) (sym m.1.after_is) (h.0, domain_is depth tag content m.1.value m.1.value_spelled)
supplied_part Converted depth s t tag content octets is stands m h =
    subst (Supplies depth) (sym m.1.after_is) (
      subst (IsRawAt depth 1 5) (sym m.1.value_spelled)
          (record { tag = tag; content = content; is_tag_of = is; stands = stands }),
      h.1,
    )

supplies : (depth : ℕ) → KeepsAt MakesSupplied (Supplies depth) depth
supplies depth s t tag content octets stands m h =
    supplied_part m.part depth s t tag content octets m.is_tag_of stands m.made h

supplied_both : (depth : ℕ) (c : Bool) (content : List ℕ) (v : Supplied) → SpellsSupplied depth c content v
    → KeepsSupplied depth v × IfSome v.attempted IsDomain
supplied_both depth c content v h =
    let k = spelled_kept MakesSupplied (Supplies (depth + 1)) depth
    (supplies (depth + 1)) no_supplied h.parts content h.spelled (tt, tt) in (
      subst (λ (x : Supplied). IfSome x.converted (IsRawAt (depth + 1) 1 5)) (sym h.value) k.0,
      subst (λ (x : Supplied). IfSome x.attempted IsDomain) (sym h.value) k.1,
    )

pub supplied_kept : ReadSuppliedInformationIsKept
supplied_kept depth c content v h = (supplied_both depth c content v h).0

pub supplied_whole : (depth : ℕ) (c : Bool) (content : List ℕ) (v : Supplied) → SpellsSupplied depth c content v
    → IsWholeSupplied v
supplied_whole depth c content v h =
    record { supplied = supplied_is depth c content v h; attempted = (supplied_both depth c content v h).1 }

-- ---- trace elements

abbrev Traced : ℕ → TraceParts → Type 0
Traced depth s = IfSome s.domain IsDomain × IfSome s.supplied (λ v. KeepsSupplied depth v × IsWholeSupplied v)

trace_part : (k : TracePart) (depth : ℕ) (s t : TraceParts) (tag : Tag) (content : List ℕ)
    → MakesTracePart k depth s tag content t → Traced depth s → Traced depth t
trace_part traces.Place depth s t tag content m h =
    subst (Traced depth) (sym m.after_is) (domain_is depth tag content m.value m.value_spelled, h.1)
trace_part traces.Information depth s t tag content m h =
    subst (Traced depth) (sym m.after_is) (
      h.0,
      (
        supplied_kept depth tag.constructed content m.value m.value_spelled,
        supplied_whole depth tag.constructed content m.value m.value_spelled,
      ),
    )

traced : (depth : ℕ) → KeepsAt MakesTrace (Traced depth) depth
traced depth s t tag content octets stands m h = trace_part m.part depth s t tag content m.made h

trace_all : (depth : ℕ) (tag : Tag) (content : List ℕ) (v : TraceFields) → SpellsTrace depth tag content v
    → KeepsTrace depth v × IsWholeTrace v
trace_all depth c content v h =
    let k = spelled_kept MakesTrace (Traced (depth + 1)) depth (traced (depth + 1)) no_trace h.parts content h.spelled
    (tt, tt) in
    let place = subst (λ o. IfSome o IsDomain) h.domain k.0 in
    let both = subst (λ o. IfSome o (λ v. KeepsSupplied (depth + 1) v × IsWholeSupplied v)) h.supplied k.1 in
    (both.0, record { domain = place; supplied = both.1 })

pub trace_kept : ReadTraceElementsAreKept
trace_kept depth c content v h = (trace_all depth c content v h).0

pub trace_whole : (depth : ℕ) (tag : Tag) (content : List ℕ) (v : TraceFields) → SpellsTrace depth tag content v
    → IsWholeTrace v
trace_whole depth c content v h = (trace_all depth c content v h).1

pub read_traces_again : ReadTraceElementsAreReadAgain
read_traces_again depth above c content v h le d = let k = trace_all depth c content v h in
    traces_again above v k.1 (trace_above depth above v le k.0) d

-- ---- MTS identifiers

abbrev Identified : MtsIdParts → Type 0
Identified s = IfSome s.domain IsDomain

id_part : (k : MtsIdPart) (depth : ℕ) (s t : MtsIdParts) (tag : Tag) (content : List ℕ)
    → MakesIdPart k depth s tag content t → Identified s → Identified t
id_part ids.Issuer depth s t tag content m h =
    subst Identified (sym m.after_is) (domain_is depth tag content m.value m.value_spelled)
id_part ids.Local depth s t tag content m h = subst Identified (sym m.after_is) h

identified : (depth : ℕ) → KeepsAt MakesId Identified depth
identified depth s t tag content octets stands m h = id_part m.part depth s t tag content m.made h

pub identifier_whole : (depth : ℕ) (tag : Tag) (content : List ℕ) (v : MtsIdFields) → SpellsMtsId depth tag content v
    → IsWholeId v
identifier_whole depth c content v h =
    let k = spelled_kept MakesId Identified depth (identified (depth + 1)) no_id h.parts content h.spelled tt in
    record { domain = subst (λ o. IfSome o IsDomain) h.domain k; local = id_is depth c content v h }

pub read_identifiers_again : ReadMtsIdentifiersAreReadAgain
read_identifiers_again depth above c content v h d = identifiers_again above v (identifier_whole depth c content v h) d

-- ---- extension fields

abbrev Extended : ℕ → ExtParts → Type 0
Extended depth s = IfSome s.value (IsElementAt (depth + 1))

ext_part : (k : ExtPart) (depth : ℕ) (s t : ExtParts) (tag : Tag) (content octets : List ℕ)
    → MakesExtPart k depth s tag content octets t → Extended depth s → Extended depth t
ext_part ExtType depth s t tag content octets m h = subst (Extended depth) (sym m.after_is) h
ext_part Criticality depth s t tag content octets m h = subst (Extended depth) (sym m.after_is) h
ext_part Value depth s t tag content octets m h =
    let v = m.value_spelled in
    subst (Extended depth) (sym m.after_is)
    (subst (IsElementAt (depth + 1)) (sym v.spelled)
    (record { tag = v.tag; content = v.inside; stands = v.stands }))

extended : (depth : ℕ) → KeepsAt MakesExt (Extended depth) depth
extended depth s t tag content octets stands m h = ext_part m.part depth s t tag content octets m.made h

null_is : element (primitive 0 5) [] ≡ null
unfolding element ident_octets length_octets
null_is = refl

null_stands : (depth : ℕ) → depth ≤ 16 → IsElementAt depth null
null_stands depth d = subst (IsElementAt depth) null_is
    (record {
      tag = primitive 0 5;
      content = [];
      stands =
          element_stands depth (primitive 0 5) [] (low_tag 0 5 false (omega arith) (omega arith)) (omega arith) d;
    })

value_or_null : (depth : ℕ) (o : Option (List ℕ)) → depth ≤ 16 → IfSome o (IsElementAt depth)
    → IsElementAt depth (unwrap_or o null)
value_or_null depth None d h = null_stands depth d
value_or_null depth (Some v) d h = h

pub extension_field_kept : ReadExtensionFieldsAreKept
extension_field_kept depth above c content v h le d =
    let k = spelled_kept MakesExt (Extended (depth + 1)) depth
    (extended (depth + 1)) no_ext h.parts content h.spelled tt in
    let held = some_so (IsElementAt (depth + 1 + 1)) (IsElementAt (above + 2))
    (λ x m. element_above (depth + 1 + 1) (above + 2) x (omega arith) m) h.parts.value k in
    subst (λ (x : ExtFields). IsElementAt (above + 2) x.value) (sym h.value_is)
    (value_or_null (above + 2) h.parts.value d held)

pub read_extension_fields_again : ReadExtensionFieldsAreReadAgain
read_extension_fields_again depth above c content v h le d = extension_fields_again above v (ext_is depth c content v h)
    (extension_field_kept depth above c content v h le d) d

-- ---- expansions

abbrev Expanded : ℕ → ExpansionParts → Type 0
Expanded depth s = IfSome s.name (λ n. KeepsName depth n × IsName n)

expansion_part : (k : ExpansionPart) (depth : ℕ) (s t : ExpansionParts) (tag : Tag) (content : List ℕ)
    → MakesExpansionPart k depth s tag content t → Expanded depth s → Expanded depth t
expansion_part expansions.Name depth s t tag content m h =
    subst (Expanded depth) (sym m.after_is) (
      name_kept depth tag.constructed content m.value m.value_spelled,
      name_is depth tag.constructed content m.value m.value_spelled,
    )
expansion_part expansions.Time depth s t tag content m h = subst (Expanded depth) (sym m.after_is) h

expanded : (depth : ℕ) → KeepsAt MakesExpansion (Expanded depth) depth
expanded depth s t tag content octets stands m h = expansion_part m.part depth s t tag content m.made h

expansion_all : (depth : ℕ) (tag : Tag) (content : List ℕ) (v : ExpansionFields) → SpellsExpansion depth tag content v
    → KeepsExpansion depth v × IsWholeExpansion v
expansion_all depth c content v h =
    let k = spelled_kept MakesExpansion (Expanded (depth + 1)) depth
    (expanded (depth + 1)) no_expansion h.parts content h.spelled tt in
    let name = subst (λ o. IfSome o (λ n. KeepsName (depth + 1) n × IsName n)) h.name k in
    (name.0, record { name = name.1; moment = expansion_is depth c content v h })

pub expansion_kept : ReadExpansionsAreKept
expansion_kept depth c content v h = (expansion_all depth c content v h).0

pub expansion_whole : (depth : ℕ) (tag : Tag) (content : List ℕ) (v : ExpansionFields)
    → SpellsExpansion depth tag content v → IsWholeExpansion v
expansion_whole depth c content v h = (expansion_all depth c content v h).1

pub read_expansions_again : ReadExpansionsAreReadAgain
read_expansions_again depth above c content v h le d = let k = expansion_all depth c content v h in
    expansions_again above v k.1 (expansion_above depth above v le k.0) d
