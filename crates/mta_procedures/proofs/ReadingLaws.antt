-- What is made of items that were read is read as what was meant.
use Rattle.std.proofs.Common.{◌≡◌, ℕ, zero, suc, ◌+◌, ◌≤◌, Bool, true, false, List, [], ◌∷◌, length, Option, Some, None}
use Rattle.std.proofs.Common.{Ok, refl, sym, ◌∙◌, ap, subst, arith, map}
use Rattle.std.specs.Prelude.{IfSome, slice_get, reverse, if◌then◌else◌}
use Rattle.std.specs.Option.{option_map}
use Rattle.mta_names.specs.declared.attributes.Attributes.{Attributes}
use Rattle.mta_names.specs.Laws.{KeepsName}
use Rattle.mta_names.specs.Values.{Each, IsName}
use Rattle.mta_names.proofs.Kept.{name_above}
use Rattle.mta_names.proofs.Rows.{each_both}
use Rattle.mta_fields.specs.declared.expansion.ExpansionFields.{ExpansionFields}
use Rattle.mta_fields.specs.Laws.{IsWholeExpansion, IsWholeTrace, KeepsExpansion, KeepsTrace}
use Rattle.mta_envelope_extensions.specs.declared.value.Topic.TheVariants.{ExpansionHistory}
use Rattle.mta_envelope_extensions.specs.Told.{values_of}
use Rattle.mta_envelope_recipient.specs.declared.recipient.RecipientFields.{RecipientFields}
use Rattle.mta_envelope_recipient.specs.Laws.{IsWholeRecipient, KeepsRecipient}
use Rattle.mta_envelope.specs.declared.envelope.EnvelopeFields.{EnvelopeFields}
use Rattle.mta_envelope.specs.Contents.{content_as}
use Rattle.mta_envelope.specs.Laws.{IsWholeEnvelope, KeepsEnvelope}
use Rattle.mta_envelope.specs.Messages.{MessageValue, message_as}
use Rattle.mta_report_recipient.specs.declared.outcome.Outcome.{Outcome}
use Rattle.mta_report.specs.declared.fields.ReportFields.{ReportFields}
use Rattle.mta_report.specs.Laws.{IsWholeReport, KeepsReport}
use Rattle.mta_report.specs.Reports.{canonical_report}
use Rattle.mta_apdu.specs.Apdus.{ApduValue, message, probe, report, apdu_of, stored_of, SpellsStored}
use Rattle.mta_apdu.proofs.ApduAgain.{apdus_again, stored_again, stored_kept}
use Rattle.mta_tables.specs.declared.entry.MailList.{MailList}
use Rattle.mta_tables.specs.Tables.{TablesValue}
use Rattle.mta_tables.specs.Hops.{list_named}
use Rattle.mta_procedures.specs.Copies.{outgoing_envelope, outgoing_fields, outgoing_message, outgoing_probe}
use Rattle.mta_procedures.specs.Copies.{outgoing_report}
use Rattle.mta_procedures.specs.Histories.{name_of, lists_behind}
use Rattle.mta_procedures.specs.Laws.{IsWritable, IsReportable}
use Rattle.mta_procedures.specs.Members.{members_copy, members_envelope, has_no_copy, message_octets}
use Rattle.mta_procedures.specs.Readings.{WasRead, KeptEnvelopesWereRead, MessageCopiesAreRead, ProbeCopiesAreRead}
use Rattle.mta_procedures.specs.Readings.{ReportCopiesAreRead, IsReported, MadeReportsAreRead, PassedReportsAreRead}
use Rattle.mta_procedures.specs.Readings.{MembersCopiesAreRead}
use Rattle.mta_procedures.specs.Reports.{report_to, report_of}
use Rattle.mta_procedures.specs.Traces.{own_trace}
use Rattle.mta_procedures.specs.Walks.{walk, walked_to, report_walk, passed_back}
use Rattle.mta_procedures.proofs.ExpandedLaws.{AreKept, kept_before, members_whole}
use Rattle.mta_procedures.proofs.ReportLaws.{each_reversed, made_report}
use Rattle.mta_procedures.proofs.WholeLaws.{copies_whole, each_behind, one_more, own_whole, report_copies_whole}

-- ---- items that were read

pub envelopes_were_read : KeptEnvelopesWereRead
envelopes_were_read bytes (message m) h = let k = stored_kept bytes (message m) h in
    record { whole = k.1.0; kept = k.0 }
envelopes_were_read bytes (probe e) h = let k = stored_kept bytes (probe e) h in record { whole = k.1.0; kept = k.0 }
envelopes_were_read bytes (report p) h = tt

-- ---- copies that go to a peer

pub message_copies_read : MessageCopiesAreRead
unfolding outgoing_message
message_copies_read s bytes m chosen w h short few =
    let k = stored_kept bytes (message m) h in
    let c = copies_whole s m.envelope chosen w short k.1.0 k.0 in
    apdus_again (message (message_as (outgoing_envelope s m.envelope chosen) m.content)) (c.0, k.1.1) c.1 few

pub probe_copies_read : ProbeCopiesAreRead
unfolding outgoing_probe
probe_copies_read s bytes e chosen w h short few =
    let k = stored_kept bytes (probe e) h in
    let c = copies_whole s e chosen w short k.1.0 k.0 in
    apdus_again (probe (outgoing_envelope s e chosen))
    (c.0, record { no_priority = k.1.1.no_priority; no_deferral = k.1.1.no_deferral }) c.1 few

pub report_copies_read : ReportCopiesAreRead
unfolding outgoing_report
report_copies_read s bytes p w h short few =
    let k = stored_kept bytes (report p) h in
    let c = report_copies_whole s p w short k.1 k.0 in
    apdus_again (report (outgoing_fields s p)) c.0 c.1 few

-- ---- destinations

each_at : {X : Type 0} (P : X → Type 0) (xs : List X) (i : ℕ) (x : X) → Each P xs → slice_get xs i ≡ Some x → P x
each_at P [] i x h e = absurd cc
each_at P (y ∷ ys) zero x h e = let same : y ≡ x = cc in subst P same h.0
each_at P (y ∷ ys) (suc i) x h e = each_at P ys i x h.1 e

-- a name that may be written where a report has its destination
pub record IsKeptName (n : Attributes) : Type 0 where
  pub name : IsName n
  pub kept : KeepsName 3 n

kept_names : (xs : List ExpansionFields) → Each IsWholeExpansion xs → Each (KeepsExpansion 7) xs
    → Each IsKeptName (map name_of xs)
kept_names [] h k = tt
kept_names (x ∷ xs) h k = (
  record { name = h.0.name; kept = name_above 8 3 x.name (omega arith) k.0 },
  kept_names xs h.1 k.1,
)

kept_or_passed : (back : Bool) (further : Option Attributes) → IfSome further IsKeptName
    → IfSome (if back then further else None) IsKeptName
kept_or_passed true further h = h
kept_or_passed false further h = tt

walked_kept : (n : Attributes) (l : Option MailList) (further : Option Attributes) → IsKeptName n
    → IfSome further IsKeptName → IfSome (walked_to n l further) IsKeptName
walked_kept n None further name h = name
walked_kept n (Some l) further name h = kept_or_passed l.back further h

walk_kept : (t : TablesValue) (originator : Attributes) (ns : List Attributes) → IsKeptName originator
    → Each IsKeptName ns → IfSome (walk t originator ns) IsKeptName
walk_kept t originator [] o h = o
walk_kept t originator (n ∷ ns) o h =
    walked_kept n (list_named t n) (walk t originator ns) h.0 (walk_kept t originator ns o h.1)

-- the history of an envelope that was read
pub history_kept : (e : EnvelopeFields) → WasRead e → AreKept 7 e.history
history_kept e h = kept_before (values_of ExpansionHistory e.extensions) e.history h.kept.told.history

-- where its reports go is a name that may be written there
pub destination_kept : (t : TablesValue) (e : EnvelopeFields) → WasRead e → IfSome (report_walk t e) IsKeptName
unfolding report_walk
destination_kept t e h =
    let k = history_kept e h in
    walk_kept t e.originator (lists_behind e) (record { name = h.whole.originator; kept = h.kept.originator })
    (each_reversed IsKeptName (map name_of e.history) (kept_names e.history k.expansions k.kept))

this_one : {X : Type 0} (P : X → Type 0) (o : Option X) (x : X) → IfSome o P → o ≡ Some x → P x
this_one P None x h e = absurd cc
this_one P (Some y) x h e = let same : y ≡ x = cc in subst P same h

-- ---- reports that are made

made_kept : (t : TablesValue) (number arrival : ℕ) (e : EnvelopeFields) (r : RecipientFields) (outcome : Outcome)
    (d : Attributes) → KeepsRecipient 4 r → KeepsName 3 d → KeepsReport 1 (report_to t number arrival e r outcome d)
made_kept t number arrival e r outcome d k name = record {
  destination = name;
  trace = tt;
  extensions = tt;
  subject_trace = tt;
  eits = tt;
  returned = tt;
  additional = tt;
  content_extensions = tt;
  recipients = (record { name = k.name; converted = tt; intended = tt; supplementary = tt; extensions = tt }, tt);
}

option_made : {X Y : Type 0} (o : Option X) (f : X → Y) (y : Y) (P : X → Type 0) (Q : Y → Type 0) → IfSome o P
    → ((x : X) → P x → Q (f x)) → option_map f o ≡ Some y → Q y
option_made None f y P Q h g e = absurd cc
option_made (Some x) f y P Q h g e = let same : f x ≡ y = cc in subst Q same (g x h)

record IsKeptReport (p : ReportFields) : Type 0 where
  whole : IsWholeReport p
  kept : KeepsReport 1 p

reportable : (t : TablesValue) (number arrival : ℕ) (e : EnvelopeFields) (r : RecipientFields) (outcome : Outcome)
    → IsReported t number arrival e r outcome → IsReportable t number arrival e r outcome
reportable t number arrival e r outcome h = record {
  domain = h.domain;
  small = h.small;
  moment = h.moment;
  envelope = h.envelope.whole;
  history = (history_kept e h.envelope).expansions;
  recipient = each_at IsWholeRecipient e.recipients h.place r h.envelope.whole.recipients h.recipient;
  outcome_fits = h.outcome_fits;
}

pub made_reports_read : MadeReportsAreRead
unfolding report_of
made_reports_read t number arrival e r outcome p h made few =
    let recipient = each_at (KeepsRecipient 4) e.recipients h.place r h.envelope.kept.recipients h.recipient in
    let able = reportable t number arrival e r outcome h in
    let k : IsKeptReport p = option_made (report_walk t e)
    (report_to t number arrival e r outcome) p IsKeptName IsKeptReport (destination_kept t e h.envelope)
    (λ d name. record {
      whole = made_report t number arrival e r outcome d able name.name;
      kept =
          made_kept t number arrival e r outcome d recipient name.kept;
    }) made in
    stored_again (report p) k.whole k.kept few

pub passed_reports_read : PassedReportsAreRead
passed_reports_read s bytes p e n writable h short read walked few =
    let k = stored_kept bytes (report p) h in
    let name = this_one IsKeptName (report_walk s.tables e) n (destination_kept s.tables e read) walked in
    let w = k.1 in
    let x = own_trace s None true in
    stored_again (report (passed_back s p n))
    (record {
      id = w.id;
      destination = name.name;
      trace = each_behind IsWholeTrace p.trace x w.trace (own_whole s None true writable tt);
      extensions = w.extensions;
      subject = w.subject;
      content_extensions = w.content_extensions;
      recipients = w.recipients;
      report = record {
        trace = one_more p.trace x short;
        subject_trace = w.report.subject_trace;
        eits = w.report.eits;
        content_kind = w.report.content_kind;
        content_id = w.report.content_id;
        returned = w.report.returned;
        additional = w.report.additional;
        recipients = w.report.recipients;
      };
    })
    (record {
      destination = name.kept;
      trace = each_behind (KeepsTrace 4) p.trace x k.0.trace tt;
      extensions = k.0.extensions;
      subject_trace = k.0.subject_trace;
      eits = k.0.eits;
      returned = k.0.returned;
      additional = k.0.additional;
      content_extensions = k.0.content_extensions;
      recipients = k.0.recipients;
    })
    few

-- ---- members' copies

some_if : {X : Type 0} (b : Bool) (x y : X) → (if b then None else Some x) ≡ Some y → x ≡ y
some_if true x y e = absurd cc
some_if false x y e = cc

pub members_copies_read : MembersCopiesAreRead
unfolding members_copy
members_copies_read s bytes l m copy r h x made few =
    let k = stored_kept bytes (message m) h in
    let w = members_whole s l m.envelope r x k.1.0 k.0 in
    let v = message_as (members_envelope s l m.envelope r) m.content in
    let same : v ≡ copy = some_if (has_no_copy l m.envelope) v copy made in
    let P : MessageValue → Type 0 = λ c. length (message_octets c) ≤ 4294967295
    → stored_of (message_octets c) ≡ Ok (message (message_as c.envelope (content_as true c.content.octets))) in
    subst P same (λ small. stored_again (message v) (w.0, k.1.1) w.1 small) few
