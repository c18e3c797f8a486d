-- Laws of verdicts, copies and reports.
use Rattle.std.specs.Prelude.{◌≡◌, ℕ, ◌+◌, ◌<◌, ◌≤◌, ◌^◌, Bool, true, List, [], ◌∷◌}
use Rattle.std.specs.Prelude.{◌++◌, length, Some, None, IfSome, slice_get}
use Rattle.std.specs.Option.{option_map}
use Rattle.mta_ber.specs.Bits.{BitString, bit}
use Rattle.mta_ber.specs.Times.{last_moment}
use Rattle.mta_names.specs.Values.{Each, IsName}
use Rattle.mta_names.specs.Laws.{KeepsName}
use Rattle.mta_fields.specs.Domains.{IsDomain}
use Rattle.mta_fields.specs.Expansions.{canonical_expansion}
use Rattle.std.specs.List.{flat_map}
use Rattle.mta_fields.specs.Laws.{IsWholeExpansion}
use Rattle.mta_envelope_common.specs.Indicators.{IsIndicators}
use Rattle.mta_envelope_recipient.specs.declared.recipient.RecipientFields.{RecipientFields}
use Rattle.mta_envelope_recipient.specs.Laws.{IsWholeRecipient}
use Rattle.mta_envelope.specs.declared.envelope.EnvelopeFields.{EnvelopeFields}
use Rattle.mta_envelope.specs.Laws.{IsWholeEnvelope, KeepsEnvelope}
use Rattle.mta_envelope.specs.Messages.{MessageValue}
use Rattle.mta_report_recipient.specs.declared.outcome.Outcome.{Outcome}
use Rattle.mta_report_recipient.specs.Values.{IsOutcome}
use Rattle.mta_report.specs.declared.fields.ReportFields.{ReportFields}
use Rattle.mta_report.specs.Laws.{IsWholeReport, KeepsReport}
use Rattle.mta_tables.specs.declared.entry.MailList.{MailList}
use Rattle.mta_tables.specs.Tables.{TablesValue}
use Rattle.mta_procedures.specs.declared.case.Case.{Case}
use Rattle.mta_procedures.specs.Bits.{with_responsibility}
use Rattle.mta_procedures.specs.Copies.{outgoing_envelope, outgoing_fields, outgoing_message, outgoing_probe}
use Rattle.mta_procedures.specs.Copies.{responsible_for, responsible_if, is_chosen}
use Rattle.mta_procedures.specs.Facts.{Facts}
use Rattle.mta_procedures.specs.Heads.{outgoing_head}
use Rattle.mta_procedures.specs.Histories.{is_in_history, longest_history}
use Rattle.mta_procedures.specs.Members.{members_copy, members_envelope, expanded_history, expansion_of}
use Rattle.mta_procedures.specs.Reports.{report_of}
use Rattle.mta_procedures.specs.Situations.{Situation}
use Rattle.mta_procedures.specs.Traces.{longest_trace}
use Rattle.mta_procedures.specs.Verdicts.{IsFirst, first_case}

-- ---- cases: one is the first that applies, and no other is

abbrev pub FirstCaseApplies : Type 0
FirstCaseApplies = (f : Facts) → IsFirst f (first_case f)

abbrev pub FirstCaseIsOne : Type 0
FirstCaseIsOne = (f : Facts) (c : Case) → IsFirst f c → c ≡ first_case f

-- ---- outgoing copies

-- the head and the content behind it are the copy
abbrev pub HeadIsInFront : Type 0
HeadIsInFront =
    (s : Situation) (m : MessageValue) (chosen : List ℕ)
    → outgoing_message s m chosen ≡ outgoing_head s m chosen ++ m.content.octets

-- all but recipients and trace is as it was
abbrev pub CopyKeepsAllElse : Type 0
CopyKeepsAllElse =
    (s : Situation) (e : EnvelopeFields) (chosen : List ℕ)
    → record (outgoing_envelope s e chosen) { recipients = e.recipients; trace = e.trace } ≡ e

-- and of a report all but the trace
abbrev pub ReportCopyKeepsAllElse : Type 0
ReportCopyKeepsAllElse = (s : Situation) (p : ReportFields) → record (outgoing_fields s p) { trace = p.trace } ≡ p

-- a recipient, counted from 1, is as it was but for responsibility, which it has where it is chosen
abbrev pub CopyKeepsRecipients : Type 0
CopyKeepsRecipients =
    (chosen : List ℕ) (rs : List RecipientFields) (i : ℕ)
    → slice_get (responsible_for chosen rs) i ≡ option_map (responsible_if (is_chosen chosen (i + 1)))
    (slice_get rs i)

-- responsibility is as said, and no other bit changes
pub record IsWithResponsibility (responsible : Bool) (old new : BitString) : Type 0 where
  pub said : bit new 0 ≡ responsible
  pub others : (place : ℕ) → 1 ≤ place → bit new place ≡ bit old place
  pub indicators : IsIndicators new
  pub as_many : new.count ≡ old.count

abbrev pub ResponsibilityIsAsSaid : Type 0
ResponsibilityIsAsSaid =
    (responsible : Bool) (b : BitString) → IsIndicators b
    → IsWithResponsibility responsible b (with_responsibility responsible b)

-- a copy has as many octets whichever recipients are chosen and whenever it is made
abbrev pub CopiesAreAsLong : Type 0
CopiesAreAsLong =
    (s t : Situation) (m : MessageValue) (chosen others : List ℕ) → s.tables ≡ t.tables
    → s.arrival ≡ t.arrival
    → length (outgoing_message s m chosen) ≡ length (outgoing_message t m others)

abbrev pub ProbeCopiesAreAsLong : Type 0
ProbeCopiesAreAsLong =
    (s t : Situation) (e : EnvelopeFields) (chosen others : List ℕ) → s.tables ≡ t.tables
    → s.arrival ≡ t.arrival
    → length (outgoing_probe s e chosen) ≡ length (outgoing_probe t e others)

-- the own domain and the moments are such as may be written
pub record IsWritable (s : Situation) : Type 0 where
  pub domain : IsDomain s.tables.domain
  pub arrival : s.arrival ≤ last_moment
  pub moment : s.moment ≤ last_moment

-- the copy of an envelope is one, and what it keeps unread stands in the level of its place where it did
abbrev pub CopiesAreWhole : Type 0
CopiesAreWhole =
    (s : Situation) (e : EnvelopeFields) (chosen : List ℕ) → IsWritable s → length e.trace < longest_trace
    → IsWholeEnvelope e → KeepsEnvelope 2 e
    → IsWholeEnvelope (outgoing_envelope s e chosen) × KeepsEnvelope 2 (outgoing_envelope s e chosen)

abbrev pub ReportCopiesAreWhole : Type 0
ReportCopiesAreWhole =
    (s : Situation) (p : ReportFields) → IsWritable s → length p.trace < longest_trace → IsWholeReport p
    → KeepsReport 1 p → IsWholeReport (outgoing_fields s p) × KeepsReport 1 (outgoing_fields s p)

-- ---- members' copies

-- a list that was expanded before has none
abbrev pub ListInHistoryHasNoCopy : Type 0
ListInHistoryHasNoCopy =
    (s : Situation) (l : MailList) (m : MessageValue) (r : RecipientFields) → is_in_history l m.envelope ≡ true
    → members_copy s l m r ≡ None

-- the four parts that the members' copy has of its own, as another envelope has them
abbrev pub with_other_parts : EnvelopeFields → EnvelopeFields → EnvelopeFields
with_other_parts e copy = record copy {
  recipients = e.recipients;
  history = e.history;
  extensions = e.extensions;
  trace = e.trace;
}

-- the history grows by the list's expansion, the content stays, and all but four parts of the envelope too
pub record IsMembersCopy (s : Situation) (l : MailList) (m copy : MessageValue) : Type 0 where
  pub history : copy.envelope.history ≡ m.envelope.history ++ expansion_of s l ∷ []
  pub one_more : length copy.envelope.history ≡ length m.envelope.history + 1
  pub bounded : length m.envelope.history < longest_history → length copy.envelope.history ≤ longest_history
  pub as_many : length copy.envelope.recipients ≡ length l.members
  pub content : copy.content ≡ m.content
  pub all_else : with_other_parts m.envelope copy.envelope ≡ m.envelope

abbrev pub MembersCopyIsOne : Type 0
MembersCopyIsOne =
    (s : Situation) (l : MailList) (m copy : MessageValue) (r : RecipientFields) → members_copy s l m r ≡ Some copy
    → IsMembersCopy s l m copy

-- what a members' copy is made of: the names have what they keep unread in the level of their places, and the octets
-- of the history can be counted
pub record IsExpandable (s : Situation) (l : MailList) (e : EnvelopeFields) (r : RecipientFields) : Type 0 where
  pub writable : IsWritable s
  pub short_trace : length e.trace < longest_trace
  pub short_history : length e.history < longest_history
  pub name : IsName l.name
  pub name_kept : KeepsName 8 l.name
  pub some_members : 1 ≤ length l.members
  pub few_members : length l.members ≤ 1000
  pub members : Each IsName l.members
  pub members_kept : Each (KeepsName 5) l.members
  pub recipient : IsWholeRecipient r
  pub counted : length (flat_map canonical_expansion (expanded_history s l e)) < 2 ^ 64

-- the members' copy of an envelope is one: its extensions say the history that it has
abbrev pub MembersCopyIsWhole : Type 0
MembersCopyIsWhole =
    (s : Situation) (l : MailList) (e : EnvelopeFields) (r : RecipientFields) → IsExpandable s l e r
    → IsWholeEnvelope e → KeepsEnvelope 2 e
    → IsWholeEnvelope (members_envelope s l e r) × KeepsEnvelope 2 (members_envelope s l e r)

-- ---- reports

-- what a report is made of
pub record IsReportable
    (t : TablesValue)
    (number arrival : ℕ)
    (e : EnvelopeFields)
    (r : RecipientFields)
    (outcome : Outcome) : Type 0 where
  pub domain : IsDomain t.domain
  pub small : number < 2 ^ 32
  pub moment : arrival ≤ last_moment
  pub envelope : IsWholeEnvelope e
  pub history : Each IsWholeExpansion e.history
  pub recipient : IsWholeRecipient r
  pub outcome_fits : IsOutcome outcome

-- a report that is made is one
abbrev pub MadeReportIsWhole : Type 0
MadeReportIsWhole =
    (t : TablesValue) (number arrival : ℕ) (e : EnvelopeFields) (r : RecipientFields) (outcome : Outcome)
    → IsReportable t number arrival e r outcome → IfSome (report_of t number arrival e r outcome) IsWholeReport
