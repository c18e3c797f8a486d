-- Values and parts that fields keep unread, by their lengths. What is in one of a definite length is not looked into,
-- so it stands in every level up to 16; of one of an indefinite length the levels inside count too.
use Rattle.std.specs.Prelude.{◌≡◌, ℕ, ◌+◌, ◌≤◌, List, Some, None, IfSome}
use Rattle.mta_names.specs.Definite.{FitsAt, FitsName}
use Rattle.mta_names.specs.Laws.{IsReadAgain}
use Rattle.mta_fields.specs.declared.expansion.ExpansionFields.{ExpansionFields}
use Rattle.mta_fields.specs.declared.extension.ExtFields.{ExtFields}
use Rattle.mta_fields.specs.declared.supplied.Supplied.{Supplied}
use Rattle.mta_fields.specs.declared.trace.TraceFields.{TraceFields}
use Rattle.mta_fields.specs.Expansions.{expansion_in, canonical_expansion}
use Rattle.mta_fields.specs.ExtensionFields.{IsElement, IsExtField, ext_in, canonical_ext}
use Rattle.mta_fields.specs.Laws.{IsElementAt, KeepsSupplied, KeepsTrace, KeepsExtField, KeepsExpansion}
use Rattle.mta_fields.specs.Laws.{IsWholeSupplied, IsWholeTrace, IsWholeExpansion}
use Rattle.mta_fields.specs.TraceElements.{trace_in, canonical_trace}
use Rattle.mta_fields.specs.Traces.{supplied_in, canonical_supplied}

abbrev pub DefiniteElementsStandEverywhere : Type 0
DefiniteElementsStandEverywhere =
    (depth size : ℕ) (octets : List ℕ) (h : IsElement octets)
    → h.stands.count ≡ Some size
    → depth ≤ 16 → IsElementAt depth octets

-- ---- what is kept unread in an indefinite length stands in the level of its place

abbrev pub FitsSupplied : ℕ → Supplied → Type 0
FitsSupplied depth v = IfSome v.converted (FitsAt (depth + 1) 1 5)

abbrev pub FitsTrace : ℕ → TraceFields → Type 0
FitsTrace depth v = FitsSupplied (depth + 1) v.supplied

abbrev pub FitsExtField : ℕ → ExtFields → Type 0
FitsExtField depth v = (h : IsElement v.value) → h.stands.count ≡ None → IsElementAt (depth + 2) v.value

abbrev pub FitsExpansion : ℕ → ExpansionFields → Type 0
FitsExpansion depth v = FitsName (depth + 1) v.name

-- ---- then all that is kept unread does

abbrev pub SuppliedInformationThatFitsIsKept : Type 0
SuppliedInformationThatFitsIsKept =
    (depth : ℕ) (v : Supplied) → IsWholeSupplied v → FitsSupplied depth v → depth + 1 ≤ 16
    → KeepsSupplied depth v

abbrev pub TraceElementsThatFitAreKept : Type 0
TraceElementsThatFitAreKept =
    (depth : ℕ) (v : TraceFields) → IsWholeTrace v → FitsTrace depth v → depth + 2 ≤ 16
    → KeepsTrace depth v

abbrev pub ExtensionFieldsThatFitAreKept : Type 0
ExtensionFieldsThatFitAreKept =
    (depth : ℕ) (v : ExtFields) → IsExtField v → FitsExtField depth v → depth + 2 ≤ 16
    → KeepsExtField depth v

abbrev pub ExpansionsThatFitAreKept : Type 0
ExpansionsThatFitAreKept =
    (depth : ℕ) (v : ExpansionFields) → IsWholeExpansion v → FitsExpansion depth v → depth + 4 ≤ 16
    → KeepsExpansion depth v

-- ---- and it is read again where it is written

abbrev pub SuppliedInformationThatFitsIsReadAgain : Type 0
SuppliedInformationThatFitsIsReadAgain =
    (depth : ℕ) (v : Supplied) → IsWholeSupplied v → FitsSupplied depth v → depth + 3 ≤ 16
    → IsReadAgain supplied_in depth (canonical_supplied v) v

abbrev pub TraceElementsThatFitAreReadAgain : Type 0
TraceElementsThatFitAreReadAgain =
    (depth : ℕ) (v : TraceFields) → IsWholeTrace v → FitsTrace depth v → depth + 4 ≤ 16
    → IsReadAgain trace_in depth (canonical_trace v) v

abbrev pub ExtensionFieldsThatFitAreReadAgain : Type 0
ExtensionFieldsThatFitAreReadAgain =
    (depth : ℕ) (v : ExtFields) → IsExtField v → FitsExtField depth v → depth + 2 ≤ 16
    → IsReadAgain ext_in depth (canonical_ext v) v

abbrev pub ExpansionsThatFitAreReadAgain : Type 0
ExpansionsThatFitAreReadAgain =
    (depth : ℕ) (v : ExpansionFields) → IsWholeExpansion v → FitsExpansion depth v → depth + 5 ≤ 16
    → IsReadAgain expansion_in depth (canonical_expansion v) v
