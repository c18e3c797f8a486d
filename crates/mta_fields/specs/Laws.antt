-- Laws of fields and octets: what is written is read again, whatever follows it, and no spelling begins another.
use Rattle.std.specs.Prelude.{ℕ, ◌+◌, ◌≤◌, Bool, List, IfSome}
use Rattle.mta_ber.specs.declared.tag.Tag.{Tag}
use Rattle.mta_ber.specs.Spelling.{Stands}
use Rattle.mta_names.specs.Laws.{IsReadAgain, NoneBeginsAnother, IsRawAt, KeepsName}
use Rattle.mta_fields.specs.Tagged.{NoTaggedBeginsAnother}
use Rattle.mta_names.specs.Values.{IsName}
use Rattle.mta_fields.specs.declared.domain.DomainFields.{DomainFields}
use Rattle.mta_fields.specs.declared.identifier.MtsIdFields.{MtsIdFields}
use Rattle.mta_fields.specs.declared.supplied.Supplied.{Supplied}
use Rattle.mta_fields.specs.declared.trace.TraceFields.{TraceFields}
use Rattle.mta_fields.specs.declared.extension.ExtFields.{ExtFields}
use Rattle.mta_fields.specs.declared.expansion.ExpansionFields.{ExpansionFields}
use Rattle.mta_fields.specs.Domains.{IsDomain, domain_in, canonical_domain, SpellsDomain}
use Rattle.mta_fields.specs.Identifiers.{IsMtsId, id_in, canonical_id, SpellsMtsId}
use Rattle.mta_fields.specs.Traces.{IsSupplied, supplied_in, canonical_supplied, SpellsSupplied}
use Rattle.mta_fields.specs.TraceElements.{trace_in, canonical_trace, SpellsTrace}
use Rattle.mta_fields.specs.ExtensionFields.{IsExtField, ext_in, canonical_ext, SpellsExtField}
use Rattle.mta_fields.specs.Expansions.{IsExpansion, expansion_in, canonical_expansion, SpellsExpansion}

-- ---- what is kept unread

-- the whole octets of one element in a level
pub record IsElementAt (depth : ℕ) (octets : List ℕ) : Type 0 where
  pub tag : Tag
  pub content : List ℕ
  pub stands : Stands depth tag content octets

-- the converted types stand in the level below what a domain supplied
abbrev pub KeepsSupplied : ℕ → Supplied → Type 0
KeepsSupplied depth v = IfSome v.converted (IsRawAt (depth + 1) 1 5)

-- what a domain supplied is a component of the trace element
abbrev pub KeepsTrace : ℕ → TraceFields → Type 0
KeepsTrace depth v = KeepsSupplied (depth + 1) v.supplied

-- the value of an extension stands inside an explicit tag, which is a component of the field
abbrev pub KeepsExtField : ℕ → ExtFields → Type 0
KeepsExtField depth v = IsElementAt (depth + 2) v.value

-- the name is a component of the expansion
abbrev pub KeepsExpansion : ℕ → ExpansionFields → Type 0
KeepsExpansion depth v = KeepsName (depth + 1) v.name

-- ---- the values, with the parts that have rules of their own

pub record IsWholeSupplied (v : Supplied) : Type 0 where
  pub supplied : IsSupplied v
  pub attempted : IfSome v.attempted IsDomain

pub record IsWholeId (v : MtsIdFields) : Type 0 where
  pub domain : IsDomain v.domain
  pub local : IsMtsId v

pub record IsWholeTrace (v : TraceFields) : Type 0 where
  pub domain : IsDomain v.domain
  pub supplied : IsWholeSupplied v.supplied

pub record IsWholeExpansion (v : ExpansionFields) : Type 0 where
  pub name : IsName v.name
  pub moment : IsExpansion v

-- ---- the laws; a level is such that all that is written stands in the sixteen levels

abbrev pub DomainsAreReadAgain : Type 0
DomainsAreReadAgain = (depth : ℕ) (v : DomainFields) → IsDomain v → depth + 2 ≤ 16
    → IsReadAgain domain_in depth (canonical_domain v) v

abbrev pub MtsIdentifiersAreReadAgain : Type 0
MtsIdentifiersAreReadAgain = (depth : ℕ) (v : MtsIdFields) → IsWholeId v → depth + 3 ≤ 16
    → IsReadAgain id_in depth (canonical_id v) v

abbrev pub SuppliedInformationIsReadAgain : Type 0
SuppliedInformationIsReadAgain = (depth : ℕ) (v : Supplied) → IsWholeSupplied v → KeepsSupplied depth v
    → depth + 3 ≤ 16
    → IsReadAgain supplied_in depth (canonical_supplied v) v

abbrev pub TraceElementsAreReadAgain : Type 0
TraceElementsAreReadAgain = (depth : ℕ) (v : TraceFields) → IsWholeTrace v → KeepsTrace depth v
    → depth + 4 ≤ 16
    → IsReadAgain trace_in depth (canonical_trace v) v

abbrev pub ExtensionFieldsAreReadAgain : Type 0
ExtensionFieldsAreReadAgain = (depth : ℕ) (v : ExtFields) → IsExtField v → KeepsExtField depth v
    → depth + 2 ≤ 16
    → IsReadAgain ext_in depth (canonical_ext v) v

abbrev pub ExpansionsAreReadAgain : Type 0
ExpansionsAreReadAgain = (depth : ℕ) (v : ExpansionFields) → IsWholeExpansion v → KeepsExpansion depth v
    → depth + 5 ≤ 16 → IsReadAgain expansion_in depth (canonical_expansion v) v

-- ---- what was read: what is kept unread stands where it was read in the level of its place, and in each level above

abbrev pub ReadSuppliedInformationIsKept : Type 0
ReadSuppliedInformationIsKept = (depth : ℕ) (c : Bool) (content : List ℕ) (v : Supplied)
    → SpellsSupplied depth c content v → KeepsSupplied depth v

abbrev pub ReadTraceElementsAreKept : Type 0
ReadTraceElementsAreKept = (depth : ℕ) (tag : Tag) (content : List ℕ) (v : TraceFields)
    → SpellsTrace depth tag content v → KeepsTrace depth v

-- a value that was left out is NULL, which has to have room
abbrev pub ReadExtensionFieldsAreKept : Type 0
ReadExtensionFieldsAreKept = (depth above : ℕ) (tag : Tag) (content : List ℕ) (v : ExtFields)
    → SpellsExtField depth tag content v → above ≤ depth → above + 2 ≤ 16 → KeepsExtField above v

abbrev pub ReadExpansionsAreKept : Type 0
ReadExpansionsAreKept = (depth : ℕ) (tag : Tag) (content : List ℕ) (v : ExpansionFields)
    → SpellsExpansion depth tag content v → KeepsExpansion depth v

abbrev pub KeptSuppliedInformationIsKeptAbove : Type 0
KeptSuppliedInformationIsKeptAbove = (depth above : ℕ) (v : Supplied) → above ≤ depth → KeepsSupplied depth v
    → KeepsSupplied above v

abbrev pub KeptTraceElementsAreKeptAbove : Type 0
KeptTraceElementsAreKeptAbove = (depth above : ℕ) (v : TraceFields) → above ≤ depth → KeepsTrace depth v
    → KeepsTrace above v

abbrev pub KeptExtensionFieldsAreKeptAbove : Type 0
KeptExtensionFieldsAreKeptAbove = (depth above : ℕ) (v : ExtFields) → above ≤ depth → KeepsExtField depth v
    → KeepsExtField above v

abbrev pub KeptExpansionsAreKeptAbove : Type 0
KeptExpansionsAreKeptAbove = (depth above : ℕ) (v : ExpansionFields) → above ≤ depth → KeepsExpansion depth v
    → KeepsExpansion above v

-- so what was read is read again where it is written in the level where it was read, or above; an identifier keeps
-- nothing unread, so in each level
abbrev pub ReadMtsIdentifiersAreReadAgain : Type 0
ReadMtsIdentifiersAreReadAgain = (depth other : ℕ) (tag : Tag) (content : List ℕ) (v : MtsIdFields)
    → SpellsMtsId depth tag content v → other + 3 ≤ 16 → IsReadAgain id_in other (canonical_id v) v

abbrev pub ReadTraceElementsAreReadAgain : Type 0
ReadTraceElementsAreReadAgain = (depth above : ℕ) (tag : Tag) (content : List ℕ) (v : TraceFields)
    → SpellsTrace depth tag content v → above ≤ depth → above + 4 ≤ 16
    → IsReadAgain trace_in above (canonical_trace v) v

abbrev pub ReadExtensionFieldsAreReadAgain : Type 0
ReadExtensionFieldsAreReadAgain = (depth above : ℕ) (tag : Tag) (content : List ℕ) (v : ExtFields)
    → SpellsExtField depth tag content v → above ≤ depth → above + 2 ≤ 16
    → IsReadAgain ext_in above (canonical_ext v) v

abbrev pub ReadExpansionsAreReadAgain : Type 0
ReadExpansionsAreReadAgain = (depth above : ℕ) (tag : Tag) (content : List ℕ) (v : ExpansionFields)
    → SpellsExpansion depth tag content v → above ≤ depth → above + 5 ≤ 16
    → IsReadAgain expansion_in above (canonical_expansion v) v

abbrev pub NoDomainBeginsAnother : Type 0
NoDomainBeginsAnother = NoTaggedBeginsAnother SpellsDomain

abbrev pub NoMtsIdentifierBeginsAnother : Type 0
NoMtsIdentifierBeginsAnother = NoTaggedBeginsAnother SpellsMtsId

abbrev pub NoSuppliedInformationBeginsAnother : Type 0
NoSuppliedInformationBeginsAnother = NoneBeginsAnother SpellsSupplied

abbrev pub NoTraceElementBeginsAnother : Type 0
NoTraceElementBeginsAnother = NoTaggedBeginsAnother SpellsTrace

abbrev pub NoExtensionFieldBeginsAnother : Type 0
NoExtensionFieldBeginsAnother = NoTaggedBeginsAnother SpellsExtField

abbrev pub NoExpansionBeginsAnother : Type 0
NoExpansionBeginsAnother = NoTaggedBeginsAnother SpellsExpansion
