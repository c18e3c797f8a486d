-- What the rules say of the recipients of items (X.411, clause 14), by the text of the tables and the octets of an item
-- as they are kept. Where one of them is not read, the rules say nothing.
use Rattle.std.specs.Prelude.{ℕ, ◌+◌, Bool, true, false, List, [], ◌∷◌, ◌++◌, length, map, Option, Some}
use Rattle.std.specs.Prelude.{None, slice_get, option_and_then, option_map, option_to_list, is_some}
use Rattle.std.specs.List.{flat_map}
use Rattle.mta_names.specs.declared.attributes.Attributes.{Attributes}
use Rattle.mta_envelope_recipient.specs.declared.recipient.RecipientFields.{RecipientFields}
use Rattle.mta_envelope.specs.declared.envelope.EnvelopeFields.{EnvelopeFields}
use Rattle.mta_envelope.specs.Messages.{MessageValue}
use Rattle.mta_report.specs.declared.fields.ReportFields.{ReportFields}
use Rattle.mta_apdu.specs.Apdus.{ApduValue, message, probe, report}
use Rattle.mta_tables.specs.declared.entry.Peer.{Peer}
use Rattle.mta_tables.specs.declared.entry.Mailbox.{Mailbox}
use Rattle.mta_tables.specs.declared.entry.MailList.{MailList}
use Rattle.mta_tables.specs.declared.hop.Hop.{Hop}
use Rattle.mta_tables.specs.declared.hop.Hop.TheVariants as Hops
use Rattle.mta_tables.specs.Hops.{best_hop}
use Rattle.mta_tables.specs.Tables.{TablesValue, tables_of, peer_of}
use Rattle.mta_procedures.specs.declared.codes.TheConstants.{TRANSFER_FAILURE, UNABLE_TO_TRANSFER, MAXIMUM_TIME_EXPIRED}
use Rattle.mta_procedures.specs.declared.codes.TheConstants.{CONTENT_TOO_LONG, PROTOCOL_VIOLATION}
use Rattle.mta_procedures.specs.declared.verdict.Verdict.{Verdict}
use Rattle.mta_procedures.specs.Copies.{outgoing_message, outgoing_probe, outgoing_report}
use Rattle.mta_procedures.specs.Facts.{list_at}
use Rattle.mta_procedures.specs.Members.{members_copy}
use Rattle.mta_procedures.specs.Reports as reports
use Rattle.mta_procedures.specs.declared.terms.Terms.{Terms}
use Rattle.mta_procedures.specs.Situations.{situation, terms_of, report_terms}
use Rattle.mta_procedures.specs.Situations as situations
use Rattle.mta_procedures.specs.Verdicts.{verdict_on_message, verdict_of_probe, verdict_of_report}
use Rattle.mta_procedures.specs.Walks.{Accepted, passed_to}
use Rattle.mta_procedures.specs.Walks as walks
use Rattle.mta_records.specs.declared.state.Origin.{Origin}
use Rattle.mta_records.specs.declared.state.Origin.TheVariants as Origins
use Rattle.mta_records.specs.declared.state.Status.{Status}
use Rattle.mta_records.specs.declared.state.Status.TheVariants.{Pending, Delivered, Expanded, Sent, Reported, Affirmed}
use Rattle.mta_records.specs.declared.state.Status.TheVariants.{Discarded, Passed}
use Rattle.mta_machine.specs.Apdu.{value_read, value_of}
use Rattle.mta_machine.specs.Items.{ItemValue, numbered}

-- ---- what is read

-- the tables of a text
unfoldable pub tables_value : List ℕ → Option TablesValue
tables_value text = value_read (tables_of text)

-- what tables and an APDU give, where both are read
abbrev pub read_both :
    {A : Type 0} → Option TablesValue → Option ApduValue → (TablesValue → ApduValue → Option A) → Option A
read_both None v give = None
read_both (Some t) None give = None
read_both (Some t) (Some v) give = give t v

-- the envelope of a message or probe
abbrev pub envelope_in : ApduValue → Option EnvelopeFields
envelope_in (message v) = Some v.envelope
envelope_in (probe v) = Some v
envelope_in (report v) = None

abbrev pub name_of : RecipientFields → Attributes
name_of r = r.name

-- the names of the recipients, of which a report has one
abbrev pub names_in : ApduValue → List Attributes
names_in (message v) = map name_of v.envelope.recipients
names_in (probe v) = map name_of v.recipients
names_in (report v) = v.destination ∷ []

-- ---- tables

-- the grammar of tables reads the text
unfoldable pub is_tables_text : List ℕ → Bool
is_tables_text text = is_some (tables_value text)

-- the tables have a peer of this word
unfoldable pub names_peer : (text word : List ℕ) → Bool
names_peer text word = is_some (option_and_then (λ (t : TablesValue). peer_of t word) (tables_value text))

abbrev pub word_of_peer : Peer → List ℕ
word_of_peer p = p.name

abbrev pub word_of_mailbox : Mailbox → List ℕ
word_of_mailbox m = m.word

abbrev pub peer_at : TablesValue → ℕ → Option (List ℕ)
peer_at t place = option_map word_of_peer (slice_get t.peers place)

abbrev pub mailbox_at : TablesValue → ℕ → Option (List ℕ)
mailbox_at t place = option_map word_of_mailbox (slice_get t.mailboxes place)

-- the word of the peer at this place, from 0
unfoldable pub peer_word : (text : List ℕ) → (place : ℕ) → Option (List ℕ)
peer_word text place = option_and_then (λ (t : TablesValue). peer_at t place) (tables_value text)

-- the word of the mailbox at this place, from 0
unfoldable pub mailbox_word : (text : List ℕ) → (place : ℕ) → Option (List ℕ)
mailbox_word text place = option_and_then (λ (t : TablesValue). mailbox_at t place) (tables_value text)

-- the peer to which a hop leads
abbrev pub peer_on : TablesValue → Hop → Option (List ℕ)
peer_on t (Hops.Peer place) = peer_at t place
peer_on t (Hops.Local place) = None
peer_on t (Hops.List place) = None
peer_on t Hops.None = None

abbrev pub route_under : TablesValue → ApduValue → ℕ → Option (List ℕ)
route_under t v r = option_and_then (λ (n : Attributes). peer_on t (best_hop t n)) (numbered (names_in v) r)

-- the word of the peer to which the best route of the recipient's name leads
unfoldable pub route_word : (text octets : List ℕ) (r : ℕ) → Option (List ℕ)
route_word text octets r = read_both (tables_value text) (value_of octets) (λ t v. route_under t v r)

-- ---- verdicts

abbrev pub verdict_under : (format : ℕ) → TablesValue → ApduValue → (arrival r moment : ℕ) → Option Verdict
verdict_under format t (message v) arrival r moment =
    option_map (verdict_on_message format (situation t arrival moment) v) (numbered v.envelope.recipients r)
verdict_under format t (probe v) arrival r moment =
    option_map (verdict_of_probe format (situation t arrival moment) v) (numbered v.recipients r)
verdict_under format t (report v) arrival r moment =
    option_map (λ (n : Attributes). verdict_of_report (situation t arrival moment) v true)
    (numbered (v.destination ∷ []) r)

-- What becomes in a format of a recipient of an APDU that arrived at a moment, looked at at another, under these
-- tables. A report that comes to a list has the verdict Back here; whether it can be passed back is `passed_back`. So
-- this rests on nothing that changes later.
unfoldable pub verdict_of : (format : ℕ) (text octets : List ℕ) (arrival r moment : ℕ) → Option Verdict
verdict_of format text octets arrival r moment =
    read_both (tables_value text) (value_of octets) (λ t v. verdict_under format t v arrival r moment)

-- what an APDU says of its time, as far as that counts in a format
abbrev pub terms_in : (format : ℕ) → ApduValue → Terms
terms_in format (message v) = terms_of format v.envelope
terms_in format (probe v) = terms_of format v
terms_in format (report v) = report_terms

abbrev pub expired_under : (format : ℕ) → Option TablesValue → Option ApduValue → (arrival moment : ℕ)
    → Bool
expired_under format None v arrival moment = false
expired_under format (Some t) None arrival moment = false
expired_under format (Some t) (Some v) arrival moment =
    situations.is_expired (situation t arrival moment) (terms_in format v)

-- the APDU has waited for its hold time under these tables, or in format 2 until its latest delivery time
unfoldable pub is_expired : (format : ℕ) (text octets : List ℕ) (arrival moment : ℕ) → Bool
is_expired format text octets arrival moment =
    expired_under format (tables_value text) (value_of octets) arrival moment

-- ---- what is made. Where an APDU's identifier has the number of its item, that number is an argument.

-- how an activity failed for its recipients
pub data Failure : Type 0 where
  too_long : Failure  -- the peer found its octets too many
  violated : Failure  -- the peer found another fault in them
  denied : Failure  -- the peer knew nothing of it in its end phase
  expired : Failure  -- it was given up

abbrev pub reason_of : Failure → ℕ
reason_of too_long = UNABLE_TO_TRANSFER
reason_of violated = UNABLE_TO_TRANSFER
reason_of denied = TRANSFER_FAILURE
reason_of expired = TRANSFER_FAILURE

abbrev pub diagnostic_of : Failure → Option ℕ
diagnostic_of too_long = Some CONTENT_TOO_LONG
diagnostic_of violated = Some PROTOCOL_VIOLATION
diagnostic_of denied = None
diagnostic_of expired = Some MAXIMUM_TIME_EXPIRED

-- a report on a recipient of a message or probe
abbrev pub report_on : (EnvelopeFields → RecipientFields → Option ReportFields) → ℕ → ApduValue
    → Option ApduValue
report_on make r v =
    option_map report
    (option_and_then (λ (e : EnvelopeFields). option_and_then (make e) (numbered e.recipients r)) (envelope_in v))

-- the delivery report of a message or probe, where it is asked for and the walk gives a destination
unfoldable pub delivery_report : (text : List ℕ) (number : ℕ) (item : ItemValue) (r moment : ℕ)
    → Option ApduValue
delivery_report text number item r moment =
    read_both (tables_value text) (value_of item.octets)
    (λ t v. report_on (λ e x. reports.delivery_report t number item.arrival e x moment) r v)

-- the non-delivery report of a message or probe, where the walk gives a destination
unfoldable pub non_delivery_report :
    (text : List ℕ) (number : ℕ) (item : ItemValue) (r reason : ℕ) (diagnostic : Option ℕ) → Option ApduValue
non_delivery_report text number item r reason diagnostic =
    read_both (tables_value text) (value_of item.octets)
    (λ t v. report_on (λ e x. reports.non_delivery_report t number item.arrival e x reason diagnostic) r v)

-- behind so many items the report of a list that keeps reports
abbrev pub with_list_report :
    TablesValue → ℕ → ℕ → MessageValue → RecipientFields → MailList → ℕ → List ApduValue
    → List ApduValue
with_list_report t number arrival v x l moment copies =
    copies
    ++ option_to_list
    (option_map report (reports.expansion_report t (number + length copies) arrival v.envelope x l moment))

abbrev pub expanded_to : TablesValue → ℕ → ℕ → MessageValue → RecipientFields → Option MailList → ℕ
    → List ApduValue
expanded_to t number arrival v x None moment = []
expanded_to t number arrival v x (Some l) moment =
    with_list_report t number arrival v x l moment
    (option_to_list (option_map message (members_copy (situation t arrival moment) l v x)))

abbrev pub expanded_for : TablesValue → ℕ → ℕ → MessageValue → Option RecipientFields → ℕ
    → List ApduValue
expanded_for t number arrival v None moment = []
expanded_for t number arrival v (Some x) moment =
    expanded_to t number arrival v x (list_at t (best_hop t x.name)) moment

abbrev pub expansion_under : Option TablesValue → ℕ → ℕ → Option ApduValue → (r moment : ℕ)
    → List ApduValue
expansion_under None number arrival v r moment = []
expansion_under (Some t) number arrival None r moment = []
expansion_under (Some t) number arrival (Some (message v)) r moment =
    expanded_for t number arrival v (numbered v.envelope.recipients r) moment
expansion_under (Some t) number arrival (Some (probe v)) r moment = []
expansion_under (Some t) number arrival (Some (report v)) r moment = []

-- the members' copy, where there is one, and then the report of the list, where there is one
unfoldable pub expansion : (text : List ℕ) (number : ℕ) (item : ItemValue) (r moment : ℕ) → List ApduValue
expansion text number item r moment =
    expansion_under (tables_value text) number item.arrival (value_of item.octets) r moment

abbrev pub is_expanded : Option Status → Bool
is_expanded None = false
is_expanded (Some Pending) = false
is_expanded (Some (Delivered moment)) = false
is_expanded (Some (Expanded moment)) = true
is_expanded (Some (Sent moment peer)) = false
is_expanded (Some (Reported moment reason diagnostic)) = false
is_expanded (Some (Affirmed moment)) = false
is_expanded (Some (Discarded moment)) = false
is_expanded (Some (Passed moment)) = false

abbrev pub accepted_as : List (Option Status) → Option ApduValue → List Accepted
accepted_as statuses None = []
accepted_as statuses (Some (message v)) = record { envelope = v.envelope; expanded = map is_expanded statuses } ∷ []
accepted_as statuses (Some (probe v)) = []
accepted_as statuses (Some (report v)) = []

abbrev pub accepted_of : ItemValue → List Accepted
accepted_of item = accepted_as item.statuses (value_of item.octets)

-- the messages among the items, in their order, and which of their recipients were expanded
unfoldable pub accepted_in : List ItemValue → List Accepted
accepted_in items = flat_map accepted_of items

abbrev pub is_own : Origin → Bool
is_own Origins.Submitted = false
is_own Origins.Lane = false
is_own Origins.Own = true

-- at no moment of its own: what is made is the same at each
abbrev pub passed_under : List ItemValue → Origin → (arrival : ℕ) → TablesValue → ApduValue
    → Option ApduValue
passed_under items origin arrival t (message v) = None
passed_under items origin arrival t (probe v) = None
passed_under items origin arrival t (report v) =
    option_map (λ (n : Attributes). report (walks.passed_back (situation t arrival 0) v n))
    (passed_to t (is_own origin) v (accepted_in items))

-- the report passed back to the poster of a list, where the walk of an expanded item gives a name
unfoldable pub passed_back : (text : List ℕ) (items : List ItemValue) (item : ItemValue) → Option ApduValue
passed_back text items item =
    read_both (tables_value text) (value_of item.octets) (passed_under items item.origin item.arrival)

abbrev pub copy_under : TablesValue → ApduValue → (arrival : ℕ) (rs : List ℕ) (moment : ℕ) → List ℕ
copy_under t (message v) arrival rs moment = outgoing_message (situation t arrival moment) v rs
copy_under t (probe v) arrival rs moment = outgoing_probe (situation t arrival moment) v rs
copy_under t (report v) arrival rs moment = outgoing_report (situation t arrival moment) v

-- the octets of the outgoing copy for these recipients
unfoldable pub outgoing_copy : (text octets : List ℕ) (arrival : ℕ) (rs : List ℕ) (moment : ℕ)
    → Option (List ℕ)
outgoing_copy text octets arrival rs moment =
    read_both (tables_value text) (value_of octets) (λ t v. Some (copy_under t v arrival rs moment))
