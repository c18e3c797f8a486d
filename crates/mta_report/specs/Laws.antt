-- Laws of reports and octets: what is written is read again, whatever follows it.
use Rattle.std.specs.Prelude.{ℕ, ◌+◌, ◌<◌, ◌≤◌, ◌≡◌, ◌^◌, Bool, true, List, ◌++◌, length, IfSome}
use Rattle.mta_ber.specs.declared.tag.Tag.{Tag}
use Rattle.mta_ber.specs.Element.{first}
use Rattle.mta_ber.specs.Head.{◌>>=◌}
use Rattle.mta_ber.specs.Laws.{with_rest, beside}
use Rattle.mta_ber.specs.Canon.{constructed}
use Rattle.mta_names.specs.Laws.{IsReadAgain, IsRawAt, KeepsName}
use Rattle.mta_fields.specs.Tagged.{NoTaggedBeginsAnother}
use Rattle.mta_names.specs.Values.{Each, IsName}
use Rattle.mta_fields.specs.ExtensionFields.{IsExtField}
use Rattle.mta_fields.specs.Laws.{IsWholeId, IsWholeTrace, KeepsTrace, KeepsExtField}
use Rattle.mta_report_recipient.specs.Laws.{IsWholeReported, KeepsReported}
use Rattle.mta_report.specs.declared.fields.ReportFields.{ReportFields}
use Rattle.mta_report.specs.ReportValues.{IsReport}
use Rattle.mta_report.specs.Reports.{report_in, SpellsReport, canonical_report}

-- a report, with the parts that have rules of their own
pub record IsWholeReport (v : ReportFields) : Type 0 where
  pub id : IsWholeId v.id
  pub destination : IsName v.destination
  pub trace : Each IsWholeTrace v.trace
  pub extensions : Each IsExtField v.extensions
  pub subject : IsWholeId v.subject
  pub content_extensions : Each IsExtField v.content_extensions
  pub recipients : Each IsWholeReported v.recipients
  pub report : IsReport v

-- what a report in the level `depth` keeps unread stands in the level of its place: the components of its envelope and
-- of its content are two levels below it, and the items of their lists three
pub record KeepsReport (depth : ℕ) (v : ReportFields) : Type 0 where
  pub destination : KeepsName (depth + 2) v.destination
  pub trace : Each (KeepsTrace (depth + 3)) v.trace
  pub extensions : Each (KeepsExtField (depth + 3)) v.extensions
  pub subject_trace : IfSome v.subject_trace (IsRawAt (depth + 2) 1 9)
  pub eits : IfSome v.eits (IsRawAt (depth + 2) 1 5)
  pub returned : IfSome v.returned (IsRawAt (depth + 2) 2 1)
  pub additional : IfSome v.additional (IsRawAt (depth + 2) 2 2)
  pub content_extensions : Each (KeepsExtField (depth + 3)) v.content_extensions
  pub recipients : Each (KeepsReported (depth + 3)) v.recipients

-- the law; the level is such that all that is written stands in the sixteen levels
abbrev pub ReportsAreReadAgain : Type 0
ReportsAreReadAgain = (depth : ℕ) (v : ReportFields) → IsWholeReport v → KeepsReport depth v → depth + 8 ≤ 16
    → IsReadAgain report_in depth (canonical_report v) v

-- and so are the octets of a whole APDU, whatever stands behind them
abbrev pub WholeReportsAreReadAgain : Type 0
WholeReportsAreReadAgain = (v : ReportFields) (more : List ℕ) (at : ℕ) → IsWholeReport v → KeepsReport 1 v
    → length (canonical_report v) < 2 ^ 64
    → (first at (canonical_report v ++ more) >>= with_rest report_in) ≡ beside v more

-- a report that was read keeps what it keeps in the level of its place, and is one; the value of an extension that was
-- left out is NULL, which has to have room
abbrev pub ReadReportsAreKept : Type 0
ReadReportsAreKept = (depth : ℕ) (tag : Tag) (content : List ℕ) (v : ReportFields)
    → SpellsReport depth tag content v → depth + 7 ≤ 16 → KeepsReport depth v × IsWholeReport v

-- so a report that was read is written so that it is read again
abbrev pub ReadReportsAreReadAgain : Type 0
ReadReportsAreReadAgain = (depth : ℕ) (tag : Tag) (content : List ℕ) (v : ReportFields)
    → SpellsReport depth tag content v → depth + 8 ≤ 16 → IsReadAgain report_in depth (canonical_report v) v

-- and so is one that was read at the outermost level, whatever stands behind it
abbrev pub ReadWholeReportsAreReadAgain : Type 0
ReadWholeReportsAreReadAgain = (content : List ℕ) (v : ReportFields) (more : List ℕ) (at : ℕ)
    → SpellsReport 1 (constructed 2 1) content v → length (canonical_report v) < 2 ^ 64
    → (first at (canonical_report v ++ more) >>= with_rest report_in) ≡ beside v more

-- no spelling begins another, and each is that of one value
abbrev pub NoReportBeginsAnother : Type 0
NoReportBeginsAnother = NoTaggedBeginsAnother SpellsReport
