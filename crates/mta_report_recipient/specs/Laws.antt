-- Laws of recipients of whom is reported and octets: what is written is read again, whatever follows it.
use Rattle.std.specs.Prelude.{ℕ, ◌+◌, ◌≤◌, Bool, List, IfSome}
use Rattle.mta_ber.specs.declared.tag.Tag.{Tag}
use Rattle.mta_names.specs.Laws.{IsReadAgain, IsRawAt, KeepsName}
use Rattle.mta_fields.specs.Tagged.{NoTaggedBeginsAnother}
use Rattle.mta_names.specs.Values.{Each, IsName}
use Rattle.mta_fields.specs.ExtensionFields.{IsExtField}
use Rattle.mta_fields.specs.Laws.{KeepsExtField}
use Rattle.mta_report_recipient.specs.declared.reported.ReportedFields.{ReportedFields}
use Rattle.mta_report_recipient.specs.ReportedRecipients.{reported_in, SpellsReported, canonical_reported}
use Rattle.mta_report_recipient.specs.Values.{IsReported}

-- a recipient, with the parts that have rules of their own
pub record IsWholeReported (v : ReportedFields) : Type 0 where
  pub name : IsName v.name
  pub reported : IsReported v
  pub intended : IfSome v.intended IsName
  pub extensions : Each IsExtField v.extensions

-- what a recipient in the level `depth` keeps unread stands in the level of its place: names and supplementary
-- information are components, converted types stand in the last trace, and extension fields in the SET of them
pub record KeepsReported (depth : ℕ) (v : ReportedFields) : Type 0 where
  pub name : KeepsName (depth + 1) v.name
  pub converted : IfSome v.converted (IsRawAt (depth + 2) 1 5)
  pub intended : IfSome v.intended (KeepsName (depth + 1))
  pub supplementary : IfSome v.supplementary (IsRawAt (depth + 1) 2 5)
  pub extensions : Each (KeepsExtField (depth + 2)) v.extensions

-- the law; the level is such that all that is written stands in the sixteen levels
abbrev pub RecipientsAreReadAgain : Type 0
RecipientsAreReadAgain = (depth : ℕ) (v : ReportedFields) → IsWholeReported v → KeepsReported depth v
    → depth + 5 ≤ 16
    → IsReadAgain reported_in depth (canonical_reported v) v

-- a recipient that was read keeps what it keeps in the level of its place, and is one; the value of an extension that
-- was left out is NULL, which has to have room
abbrev pub ReadRecipientsAreKept : Type 0
ReadRecipientsAreKept = (depth : ℕ) (tag : Tag) (content : List ℕ) (v : ReportedFields)
    → SpellsReported depth tag content v → depth + 4 ≤ 16 → KeepsReported depth v × IsWholeReported v

-- so a recipient that was read is written so that it is read again
abbrev pub ReadRecipientsAreReadAgain : Type 0
ReadRecipientsAreReadAgain = (depth : ℕ) (tag : Tag) (content : List ℕ) (v : ReportedFields)
    → SpellsReported depth tag content v → depth + 5 ≤ 16
    → IsReadAgain reported_in depth (canonical_reported v) v

-- no spelling begins another, and each is that of one value
abbrev pub NoRecipientBeginsAnother : Type 0
NoRecipientBeginsAnother = NoTaggedBeginsAnother SpellsReported
