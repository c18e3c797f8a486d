-- Reports that are passed back: each is written so that it is read again, since it came without a loop.
use Rattle.std.proofs.Common.{◌≡◌, ℕ, ◌<◌, ◌≤◌, Bool, true, false, cond, List, [], ◌∷◌, length, Option, Some}
use Rattle.std.proofs.Common.{None, refl, arith}
use Rattle.std.specs.Prelude.{IfSome, option_and_then, if◌then◌else◌}
use Rattle.std.specs.List.{AllByRecursion, find, flat_map}
use Rattle.std.specs.Option.{option_map}
use Rattle.std.proofs.lemmas.Option.{same_Some}
use Rattle.mta_ber.specs.Times.{last_moment}
use Rattle.mta_names.specs.declared.attributes.Attributes.{Attributes}
use Rattle.mta_fields.specs.Laws.{IsWholeTrace, KeepsTrace}
use Rattle.mta_report.specs.declared.fields.ReportFields.{ReportFields}
use Rattle.mta_apdu.specs.Apdus.{ApduValue, message, probe, report}
use Rattle.mta_tables.specs.declared.entry.MailList.{MailList}
use Rattle.mta_tables.specs.declared.hop.Hop.{Hop}
use Rattle.mta_tables.specs.Hops.{best_hop, list_named}
use Rattle.mta_tables.specs.Tables.{TablesValue}
use Rattle.mta_procedures.specs.declared.case.Case.{Case}
use Rattle.mta_procedures.specs.declared.case.Case.TheVariants.{Looped, ToList}
use Rattle.mta_procedures.specs.declared.verdict.Verdict.TheVariants as Verdicts
use Rattle.mta_procedures.specs.Facts.{Facts, facts_of_report}
use Rattle.mta_procedures.specs.Laws.{IsWritable}
use Rattle.mta_procedures.specs.Readings.{WasRead, EnvelopesWereRead}
use Rattle.mta_procedures.specs.Situations.{Situation, situation}
use Rattle.mta_procedures.specs.Traces.{longest_trace, own_trace}
use Rattle.mta_procedures.specs.Verdicts.{first_case, report_column}
use Rattle.mta_procedures.specs.Verdicts.{verdict_of_report}
use Rattle.mta_procedures.specs.Walks.{Accepted, behind_list, is_subject_of, passed_to, walk_of}
use Rattle.mta_procedures.specs.Walks as walks
use Rattle.mta_procedures.proofs.RelayLaws.{not_looped, short_trace}
use Rattle.mta_procedures.proofs.WholeLaws.{each_behind, one_more, own_whole}
use Rattle.mta_records.specs.declared.state.Origin.{Origin}
use Rattle.mta_records.specs.declared.state.Status.{Status}
use Rattle.mta_machine.specs.Apdu.{value_of}
use Rattle.mta_machine.specs.Items.{ItemValue, numbered}
use Rattle.mta_machine.specs.Rules.{accepted_as, accepted_in, accepted_of, is_own, passed_back, passed_under, read_both}
use Rattle.mta_machine.specs.Rules.{tables_value, verdict_of, verdict_under}
use Rattle.mta_histories.specs.Items.{IsWritten}
use Rattle.mta_histories.specs.Sound.{IsSoundItem}
use Rattle.mta_histories.proofs.SoundItems.{all-append}
use Rattle.mta_procedures.proofs.ReadingLaws.{IsKeptName, destination_kept}
use Rattle.mta_sound_laws.proofs.Domains.{tables-domain}
use Rattle.mta_sound_laws.proofs.Read.{envelope-read, item-written, tables-read}

-- ---- room for an element of the trace

-- what is passed back has come to a list
to-list : (hop : Hop) (back : Bool) (c : Case) → report_column hop back c ≡ Verdicts.Back → c ≡ ToList
to-list hop back ToList e = refl
to-list hop back Looped e = absurd cc
to-list hop back any2 e = absurd cc

-- so it has no loop, and its trace is not full
report_has_room : (s : Situation) (p : ReportFields) (back : Bool) → verdict_of_report s p back ≡ Verdicts.Back
    → length p.trace < longest_trace
unfolding verdict_of_report
report_has_room s p back e =
    let f : Facts = facts_of_report s p in
    let listed : first_case f ≡ ToList = to-list (best_hop s.tables p.destination) back (first_case f) e in
    short_trace s p.trace (not_looped f ToList listed refl)

-- the trace of a report has room for an element
abbrev HasRoom : ApduValue → Type 0
HasRoom (message m) = Unit {0}
HasRoom (probe e) = Unit {0}
HasRoom (report p) = length p.trace < longest_trace

-- also where it is looked at for its one recipient
pub by_report : (s : Situation) (p : ReportFields) (o : Option Attributes)
    → option_map (λ (n : Attributes). verdict_of_report s p true) o ≡ Some Verdicts.Back
    → length p.trace < longest_trace
by_report s p None e = absurd cc
by_report s p (Some n) e = report_has_room s p true (same_Some (verdict_of_report s p true) Verdicts.Back e)

under-room : (format : ℕ) (t : TablesValue) (v : ApduValue) (arrival r moment : ℕ)
    → verdict_under format t v arrival r moment ≡ Some Verdicts.Back → HasRoom v
under-room format t (message m) arrival r moment e = tt
under-room format t (probe v) arrival r moment e = tt
under-room format t (report v) arrival r moment e =
    by_report (situation t arrival moment) v (numbered (v.destination ∷ []) r) e

-- ---- to whom it goes

-- the envelopes of messages that were accepted were read
abbrev AreReadEnvelopes : List Accepted → Type 0
AreReadEnvelopes taken = AllByRecursion (λ a. WasRead a.envelope) taken

accepted-taken-read : (statuses : List (Option Status)) (o : Option ApduValue)
    → ((v : ApduValue) → o ≡ Some v → EnvelopesWereRead v) → AreReadEnvelopes (accepted_as statuses o)
accepted-taken-read statuses None h = tt
accepted-taken-read statuses (Some (message m)) h = (h (message m) refl, tt)
accepted-taken-read statuses (Some (probe e)) h = tt
accepted-taken-read statuses (Some (report p)) h = tt

items-read : (n : ℕ) (items : List ItemValue) → AllByRecursion (IsSoundItem n) items
    → AreReadEnvelopes (flat_map accepted_of items)
items-read n [] sound = tt
items-read n (item ∷ items) sound =
    all-append (λ (a : Accepted). WasRead a.envelope) (accepted_of item) (flat_map accepted_of items)
    (accepted-taken-read item.statuses (value_of item.octets)
    (λ v is. envelope-read v (item-written n item v sound.0 is)))
    (items-read n items sound.1)

accepted-read : (n : ℕ) (items : List ItemValue) → AllByRecursion (IsSoundItem n) items
    → AreReadEnvelopes (accepted_in items)
unfolding accepted_in
accepted-read n items sound = items-read n items sound

found-read : (test : Accepted → Bool) (taken : List Accepted) → AreReadEnvelopes taken
    → IfSome (find test taken) (λ a. WasRead a.envelope)
found-read test [] h = tt
found-read test (a ∷ taken) h = by_test (test a) (found-read test taken h.1)
  where
    by_test : (b : Bool) → IfSome (find test taken) (λ a. WasRead a.envelope)
        → IfSome (cond b (Some a) (find test taken)) (λ a. WasRead a.envelope)
    by_test true rest = h.0
    by_test false rest = rest

walked-name : (t : TablesValue) (o : Option Accepted) → IfSome o (λ a. WasRead a.envelope)
    → IfSome (option_and_then (walk_of t) o) IsKeptName
walked-name t None h = tt
walked-name t (Some a) h = destination_kept t a.envelope h

behind-name : (t : TablesValue) (p : ReportFields) (taken : List Accepted) (l : MailList) → AreReadEnvelopes taken
    → IfSome (behind_list t p taken l) IsKeptName
behind-name t p taken l h = by_policy l.back
  where
    by_policy : (b : Bool)
        → IfSome (if b then option_and_then (walk_of t) (find (is_subject_of p l) taken) else None) IsKeptName
    by_policy true = walked-name t (find (is_subject_of p l) taken) (found-read (is_subject_of p l) taken h)
    by_policy false = tt

list-name : (t : TablesValue) (p : ReportFields) (taken : List Accepted) (o : Option MailList) → AreReadEnvelopes taken
    → IfSome (option_and_then (behind_list t p taken) o) IsKeptName
list-name t p taken None h = tt
list-name t p taken (Some l) h = behind-name t p taken l h

passed-name : (t : TablesValue) (own : Bool) (p : ReportFields) (taken : List Accepted) → AreReadEnvelopes taken
    → IfSome (passed_to t own p taken) IsKeptName
unfolding passed_to
passed-name t true p taken h = tt
passed-name t false p taken h = list-name t p taken (list_named t p.destination) h

-- ---- the report

report-passed : (s : Situation) (p : ReportFields) (n : Attributes) → IsWritable s → length p.trace < longest_trace
    → IsWritten (report p) → IsKeptName n → IsWritten (report (walks.passed_back s p n))
report-passed s p n writable short written name =
    let w = written.0 in
    let k = written.1 in
    let x = own_trace s None true in (
      record {
        id = w.id;
        destination = name.name;
        trace = each_behind IsWholeTrace p.trace x w.trace (own_whole s None true writable tt);
        extensions = w.extensions;
        subject = w.subject;
        content_extensions = w.content_extensions;
        recipients = w.recipients;
        report = record {
          trace = one_more p.trace x short;
          subject_trace = w.report.subject_trace;
          eits = w.report.eits;
          content_kind = w.report.content_kind;
          content_id = w.report.content_id;
          returned = w.report.returned;
          additional = w.report.additional;
          recipients = w.report.recipients;
        };
      },
      record {
        destination = name.kept;
        trace = each_behind (KeepsTrace 4) p.trace x k.trace tt;
        extensions = k.extensions;
        subject_trace = k.subject_trace;
        eits = k.eits;
        returned = k.returned;
        additional = k.additional;
        content_extensions = k.content_extensions;
        recipients = k.recipients;
      },
    )

made-passed : (s : Situation) (p : ReportFields) (o : Option Attributes) → IsWritable s
    → length p.trace < longest_trace → IsWritten (report p) → IfSome o IsKeptName
    → IfSome (option_map (λ (n : Attributes). report (walks.passed_back s p n)) o) IsWritten
made-passed s p None writable short written name = tt
made-passed s p (Some n) writable short written name = report-passed s p n writable short written name

under-passed : (items : List ItemValue) (origin : Origin) (arrival n : ℕ) (t : TablesValue) (v : ApduValue)
    → IsWritable (situation t arrival 0) → HasRoom v → IsWritten v → AllByRecursion (IsSoundItem n) items
    → IfSome (passed_under items origin arrival t v) IsWritten
under-passed items origin arrival n t (message m) writable room written sound = tt
under-passed items origin arrival n t (probe e) writable room written sound = tt
under-passed items origin arrival n t (report p) writable room written sound =
    made-passed (situation t arrival 0) p (passed_to t (is_own origin) p (accepted_in items)) writable room written
    (passed-name t (is_own origin) p (accepted_in items) (accepted-read n items sound))

both-passed : (format : ℕ) (items : List ItemValue) (item : ItemValue) (r moment : ℕ) (to : Option TablesValue)
    (vo : Option ApduValue) → AllByRecursion (IsSoundItem moment) items
    → ((t : TablesValue) → to ≡ Some t → IsWritable (situation t item.arrival 0))
    → ((v : ApduValue) → vo ≡ Some v → IsWritten v)
    → read_both to vo (λ t v. verdict_under format t v item.arrival r moment) ≡ Some Verdicts.Back
    → IfSome (read_both to vo (passed_under items item.origin item.arrival)) IsWritten
both-passed format items item r moment None vo sound writable written e = tt
both-passed format items item r moment (Some t) None sound writable written e = tt
both-passed format items item r moment (Some t) (Some v) sound writable written e =
    under-passed items item.origin item.arrival moment t v (writable t refl)
    (under-room format t v item.arrival r moment e) (written v refl) sound

pub passed-report-written : (format : ℕ) (text : List ℕ) (items : List ItemValue) (item : ItemValue) (r moment : ℕ)
    → AllByRecursion (IsSoundItem moment) items → IsSoundItem moment item → moment ≤ last_moment
    → verdict_of format text item.octets item.arrival r moment ≡ Some Verdicts.Back
    → IfSome (passed_back text items item) IsWritten
unfolding passed_back verdict_of
passed-report-written format text items item r moment all sound timely e =
    both-passed format items item r moment (tables_value text) (value_of item.octets) all
    (λ t told. record {
      domain = tables-domain text t (tables-read text t told);
      arrival = omega (arith, sound.arrived, timely);
      moment = omega arith;
    })
    (λ v is. item-written moment item v sound is) e
