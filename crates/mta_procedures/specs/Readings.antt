-- Laws of items that were read: what is made of them here is read as what was meant, by a peer and by this agent.
use Rattle.std.specs.Prelude.{◌≡◌, ℕ, ◌<◌, ◌≤◌, ◌^◌, true, List, length, slice_get, Some, Ok}
use Rattle.mta_ber.specs.Times.{last_moment}
use Rattle.mta_names.specs.declared.attributes.Attributes.{Attributes}
use Rattle.mta_names.specs.Laws.{KeepsName}
use Rattle.mta_names.specs.Values.{Each, IsName}
use Rattle.mta_fields.specs.Domains.{IsDomain}
use Rattle.mta_envelope_recipient.specs.declared.recipient.RecipientFields.{RecipientFields}
use Rattle.mta_envelope.specs.declared.envelope.EnvelopeFields.{EnvelopeFields}
use Rattle.mta_envelope.specs.Contents.{content_as}
use Rattle.mta_envelope.specs.Laws.{IsWholeEnvelope, KeepsEnvelope}
use Rattle.mta_envelope.specs.Messages.{MessageValue, message_as}
use Rattle.mta_report_recipient.specs.declared.outcome.Outcome.{Outcome}
use Rattle.mta_report_recipient.specs.Values.{IsOutcome}
use Rattle.mta_report.specs.declared.fields.ReportFields.{ReportFields}
use Rattle.mta_report.specs.Reports.{canonical_report}
use Rattle.mta_apdu.specs.Apdus.{ApduValue, message, probe, report, apdu_of, stored_of, longest_stored, SpellsStored}
use Rattle.mta_tables.specs.declared.entry.MailList.{MailList}
use Rattle.mta_tables.specs.Tables.{TablesValue, tables_of}
use Rattle.mta_procedures.specs.Copies.{outgoing_envelope, outgoing_fields, outgoing_message, outgoing_probe}
use Rattle.mta_procedures.specs.Copies.{outgoing_report, longest_copy}
use Rattle.mta_procedures.specs.Laws.{IsWritable, IsExpandable}
use Rattle.mta_procedures.specs.Members.{members_copy, message_octets}
use Rattle.mta_procedures.specs.Reports.{report_of}
use Rattle.mta_procedures.specs.Situations.{Situation}
use Rattle.mta_procedures.specs.Traces.{longest_trace}
use Rattle.mta_procedures.specs.Walks.{report_walk, passed_back}

-- ---- items that were read

-- all parts of the envelope are in their ranges, and what is kept unread stands at its level
pub record WasRead (e : EnvelopeFields) : Type 0 where
  pub whole : IsWholeEnvelope e
  pub kept : KeepsEnvelope 2 e

abbrev pub EnvelopesWereRead : ApduValue → Type 0
EnvelopesWereRead (message m) = WasRead m.envelope
EnvelopesWereRead (probe e) = WasRead e
EnvelopesWereRead (report p) = Unit {0}

-- the envelope of an item that is kept was read
abbrev pub KeptEnvelopesWereRead : Type 0
KeptEnvelopesWereRead = (bytes : List ℕ) (v : ApduValue) → SpellsStored bytes v → EnvelopesWereRead v

-- ---- copies that go to a peer

-- a peer reads the copy of a message as the message with responsibility and trace as they are to be, and the content
-- in one piece
abbrev pub MessageCopiesAreRead : Type 0
MessageCopiesAreRead =
    (s : Situation) (bytes : List ℕ) (m : MessageValue) (chosen : List ℕ)
    → IsWritable s → SpellsStored bytes (message m) → length m.envelope.trace < longest_trace
    → length (outgoing_message s m chosen) ≤ longest_copy
    → apdu_of (outgoing_message s m chosen) ≡ Ok
    (message (message_as (outgoing_envelope s m.envelope chosen) (content_as true m.content.octets)))

abbrev pub ProbeCopiesAreRead : Type 0
ProbeCopiesAreRead =
    (s : Situation) (bytes : List ℕ) (e : EnvelopeFields) (chosen : List ℕ)
    → IsWritable s → SpellsStored bytes (probe e) → length e.trace < longest_trace
    → length (outgoing_probe s e chosen) ≤ longest_copy
    → apdu_of (outgoing_probe s e chosen) ≡ Ok (probe (outgoing_envelope s e chosen))

abbrev pub ReportCopiesAreRead : Type 0
ReportCopiesAreRead =
    (s : Situation) (bytes : List ℕ) (p : ReportFields)
    → IsWritable s → SpellsStored bytes (report p) → length p.trace < longest_trace
    → length (outgoing_report s p) ≤ longest_copy
    → apdu_of (outgoing_report s p) ≡ Ok (report (outgoing_fields s p))

-- ---- lists

-- the names may be written at each level, since they keep nothing unread
pub record IsWritableList (l : MailList) : Type 0 where
  pub name : IsName l.name
  pub name_kept : (depth : ℕ) → KeepsName depth l.name
  pub members : Each IsName l.members
  pub members_kept : (depth : ℕ) → Each (KeepsName depth) l.members

abbrev pub ListsOfTablesAreWritable : Type 0
ListsOfTablesAreWritable =
    (text : List ℕ) (t : TablesValue) (place : ℕ) (l : MailList) → tables_of text ≡ Ok t
    → slice_get t.lists place ≡ Some l → IsWritableList l

-- ---- items that are made here

-- what is made of an envelope that was read, with these parts in their ranges
pub record IsReported
    (t : TablesValue)
    (number arrival : ℕ)
    (e : EnvelopeFields)
    (r : RecipientFields)
    (outcome : Outcome) : Type 0 where
  pub domain : IsDomain t.domain
  pub small : number < 2 ^ 32
  pub moment : arrival ≤ last_moment
  pub outcome_fits : IsOutcome outcome
  pub envelope : WasRead e
  pub place : ℕ
  pub recipient : slice_get e.recipients place ≡ Some r

-- a report on a recipient of a message or a probe that was read is kept as it is
abbrev pub MadeReportsAreRead : Type 0
MadeReportsAreRead =
    (t : TablesValue) (number arrival : ℕ) (e : EnvelopeFields) (r : RecipientFields) (outcome : Outcome)
    (p : ReportFields)
    → IsReported t number arrival e r outcome → report_of t number arrival e r outcome ≡ Some p
    → length (canonical_report p) ≤ longest_stored
    → stored_of (canonical_report p) ≡ Ok (report p)

-- so is a report that was read and is passed back as the walk of a message that was read tells
abbrev pub PassedReportsAreRead : Type 0
PassedReportsAreRead =
    (s : Situation) (bytes : List ℕ) (p : ReportFields) (e : EnvelopeFields) (n : Attributes)
    → IsWritable s → SpellsStored bytes (report p) → length p.trace < longest_trace
    → WasRead e → report_walk s.tables e ≡ Some n
    → length (canonical_report (passed_back s p n)) ≤ longest_stored
    → stored_of (canonical_report (passed_back s p n)) ≡ Ok (report (passed_back s p n))

-- and the members' copy of a message that was read, with the content in one piece
abbrev pub MembersCopiesAreRead : Type 0
MembersCopiesAreRead =
    (s : Situation) (bytes : List ℕ) (l : MailList) (m copy : MessageValue) (r : RecipientFields)
    → SpellsStored bytes (message m) → IsExpandable s l m.envelope r → members_copy s l m r ≡ Some copy
    → length (message_octets copy) ≤ longest_stored
    → stored_of (message_octets copy) ≡ Ok
    (message (message_as copy.envelope (content_as true copy.content.octets)))
