-- Reports that are made on the recipients of messages and probes: each is written so that it is read again.
use Rattle.std.proofs.Common.{◌≡◌, ℕ, zero, suc, ◌≤◌, ◌<◌, ◌^◌, Bool, true, false, List, [], ◌∷◌, Option, Some}
use Rattle.std.proofs.Common.{None, refl, arith, subst}
use Rattle.std.specs.Prelude.{IfSome, slice_get, option_and_then, if◌then◌else◌}
use Rattle.std.specs.Option.{option_map}
use Rattle.mta_ber.specs.Times.{last_moment}
use Rattle.mta_names.specs.Bounded.{IsCode}
use Rattle.mta_names.specs.declared.attributes.Attributes.{Attributes}
use Rattle.mta_names.specs.Laws.{KeepsName}
use Rattle.mta_names.specs.Values.{Each}
use Rattle.mta_fields.specs.Domains.{IsDomain}
use Rattle.mta_envelope_recipient.specs.declared.recipient.RecipientFields.{RecipientFields}
use Rattle.mta_envelope_recipient.specs.Laws.{IsWholeRecipient, KeepsRecipient}
use Rattle.mta_envelope.specs.declared.envelope.EnvelopeFields.{EnvelopeFields}
use Rattle.mta_report_recipient.specs.declared.outcome.Outcome.{Outcome}
use Rattle.mta_report_recipient.specs.declared.outcome.Outcome.TheVariants.{Delivery, NonDelivery}
use Rattle.mta_report_recipient.specs.Values.{IsOutcome}
use Rattle.mta_report.specs.declared.fields.ReportFields.{ReportFields}
use Rattle.mta_report.specs.Laws.{KeepsReport}
use Rattle.mta_apdu.specs.Apdus.{ApduValue, message, probe, report}
use Rattle.mta_tables.specs.declared.entry.MailList.{MailList}
use Rattle.mta_tables.specs.declared.hop.Hop.{Hop}
use Rattle.mta_tables.specs.Hops.{best_hop}
use Rattle.mta_tables.specs.Tables.{TablesValue}
use Rattle.mta_procedures.specs.Bits.{asks_report}
use Rattle.mta_procedures.specs.Laws.{IsReportable}
use Rattle.mta_procedures.specs.Readings.{WasRead, EnvelopesWereRead}
use Rattle.mta_procedures.specs.Reports as reports
use Rattle.mta_procedures.specs.Reports.{report_to, report_of, user_of}
use Rattle.mta_procedures.specs.Verdicts.{leads_to_list}
use Rattle.mta_procedures.specs.Walks.{report_walk}
use Rattle.mta_procedures.proofs.ReportLaws.{made_report}
use Rattle.mta_machine.specs.Apdu.{value_of}
use Rattle.mta_machine.specs.Items.{ItemValue, numbered}
use Rattle.mta_machine.specs.Rules.{Failure, too_long, violated, denied, expired, reason_of, diagnostic_of}
use Rattle.mta_machine.specs.Rules.{read_both, report_on, tables_value, delivery_report, non_delivery_report}
use Rattle.mta_histories.specs.Items.{IsWritten}
use Rattle.mta_histories.specs.Sound.{IsSoundItem}
use Rattle.mta_procedures.proofs.ReadingLaws.{IsKeptName, destination_kept, history_kept}
use Rattle.mta_sound_laws.proofs.Domains.{tables-domain}
use Rattle.mta_sound_laws.proofs.Read.{envelope-read, item-written, tables-read}

-- ---- one report

abbrev pub IsWrittenReport : ReportFields → Type 0
IsWrittenReport p = IsWritten (report p)

-- what a report is made of, with the number of its recipient among those of the envelope
pub record IsMadeOf (t : TablesValue) (number arrival : ℕ) (e : EnvelopeFields) (r : ℕ) (x : RecipientFields)
    (outcome : Outcome) : Type 0 where
  pub domain : IsDomain t.domain
  pub small : number < 2 ^ 32
  pub moment : arrival ≤ last_moment
  pub outcome_fits : IsOutcome outcome
  pub envelope : WasRead e
  pub recipient : numbered e.recipients r ≡ Some x

each-at : {X : Type 0} (P : X → Type 0) (xs : List X) (i : ℕ) (x : X) → Each P xs → slice_get xs i ≡ Some x → P x
each-at P [] i x h e = absurd cc
each-at P (y ∷ ys) zero x h e = let same : y ≡ x = cc in subst P same h.0
each-at P (y ∷ ys) (suc i) x h e = each-at P ys i x h.1 e

pub each-numbered : {X : Type 0} (P : X → Type 0) (xs : List X) (n : ℕ) (x : X) → Each P xs → numbered xs n ≡ Some x
    → P x
each-numbered P xs zero x h e = absurd cc
each-numbered P xs (suc i) x h e = each-at P xs i x h e

made-kept : (t : TablesValue) (number arrival : ℕ) (e : EnvelopeFields) (x : RecipientFields) (outcome : Outcome)
    (d : Attributes) → KeepsRecipient 4 x → KeepsName 3 d → KeepsReport 1 (report_to t number arrival e x outcome d)
made-kept t number arrival e x outcome d k name = record {
  destination = name;
  trace = tt;
  extensions = tt;
  subject_trace = tt;
  eits = tt;
  returned = tt;
  additional = tt;
  content_extensions = tt;
  recipients = (record { name = k.name; converted = tt; intended = tt; supplementary = tt; extensions = tt }, tt);
}

made-if : {X Y : Type 0} (P : X → Type 0) (Q : Y → Type 0) (f : X → Y) (o : Option X) → IfSome o P
    → ((x : X) → P x → Q (f x)) → IfSome (option_map f o) Q
made-if P Q f None h g = tt
made-if P Q f (Some x) h g = g x h

report-written : (t : TablesValue) (number arrival : ℕ) (e : EnvelopeFields) (r : ℕ) (x : RecipientFields)
    (outcome : Outcome) → IsMadeOf t number arrival e r x outcome
    → IfSome (report_of t number arrival e x outcome) IsWrittenReport
unfolding report_of
report-written t number arrival e r x outcome h =
    let kept = each-numbered (KeepsRecipient 4) e.recipients r x h.envelope.kept.recipients h.recipient in
    let able : IsReportable t number arrival e x outcome = record {
      domain = h.domain;
      small = h.small;
      moment = h.moment;
      envelope = h.envelope.whole;
      history = (history_kept e h.envelope).expansions;
      recipient = each-numbered IsWholeRecipient e.recipients r x h.envelope.whole.recipients h.recipient;
      outcome_fits = h.outcome_fits;
    } in
    made-if IsKeptName IsWrittenReport (report_to t number arrival e x outcome) (report_walk t e)
    (destination_kept t e h.envelope)
    (λ d name. (
      made_report t number arrival e x outcome d able name.name,
      made-kept t number arrival e x outcome d kept name.kept,
    ))

-- ---- a report where one is asked

some-if : {X : Type 0} (P : X → Type 0) (b : Bool) (o : Option X) → IfSome o P → IfSome (if b then o else None) P
some-if P true o h = h
some-if P false o h = tt

user-code : (hop : Hop) → IsCode (user_of hop)
user-code hop = by_kind (leads_to_list hop)
  where
    by_kind : (b : Bool) → IsCode (if b then 3 else 0)
    by_kind true = omega arith
    by_kind false = omega arith

pub delivery-written : (t : TablesValue) (number arrival : ℕ) (e : EnvelopeFields) (r : ℕ) (x : RecipientFields)
    (moment : ℕ) → IsDomain t.domain → number < 2 ^ 32 → arrival ≤ last_moment → moment ≤ last_moment → WasRead e
    → numbered e.recipients r ≡ Some x
    → IfSome (reports.delivery_report t number arrival e x moment) IsWrittenReport
delivery-written t number arrival e r x moment domain small arrived timely read at =
    some-if IsWrittenReport (asks_report x)
    (report_of t number arrival e x (Delivery moment (user_of (best_hop t x.name))))
    (report-written t number arrival e r x (Delivery moment (user_of (best_hop t x.name))) (record {
      domain = domain;
      small = small;
      moment = arrived;
      outcome_fits = (timely, user-code (best_hop t x.name));
      envelope = read;
      recipient = at;
    }))

pub list-report-written : (t : TablesValue) (number arrival : ℕ) (e : EnvelopeFields) (r : ℕ) (x : RecipientFields)
    (l : MailList) (moment : ℕ) → IsDomain t.domain → number < 2 ^ 32 → arrival ≤ last_moment → moment ≤ last_moment
    → WasRead e → numbered e.recipients r ≡ Some x
    → IfSome (reports.expansion_report t number arrival e x l moment) IsWrittenReport
list-report-written t number arrival e r x l moment domain small arrived timely read at =
    some-if IsWrittenReport _ (report_of t number arrival e x (Delivery moment 3))
    (report-written t number arrival e r x (Delivery moment 3) (record {
      domain = domain;
      small = small;
      moment = arrived;
      outcome_fits = (timely, omega arith);
      envelope = read;
      recipient = at;
    }))

-- a reason, and a diagnostic where there is one, that may be written
abbrev pub AreToldCodes : ℕ → Option ℕ → Type 0
AreToldCodes reason diagnostic = IsCode reason × IfSome diagnostic IsCode

pub failure-codes : (failure : Failure) → AreToldCodes (reason_of failure) (diagnostic_of failure)
failure-codes too_long = (omega arith, omega arith)
failure-codes violated = (omega arith, omega arith)
failure-codes denied = (omega arith, tt)
failure-codes expired = (omega arith, omega arith)

non-delivery-written : (t : TablesValue) (number arrival : ℕ) (e : EnvelopeFields) (r : ℕ) (x : RecipientFields)
    (reason : ℕ) (diagnostic : Option ℕ) → IsDomain t.domain → number < 2 ^ 32 → arrival ≤ last_moment
    → AreToldCodes reason diagnostic → WasRead e → numbered e.recipients r ≡ Some x
    → IfSome (reports.non_delivery_report t number arrival e x reason diagnostic) IsWrittenReport
non-delivery-written t number arrival e r x reason diagnostic domain small arrived codes read at =
    report-written t number arrival e r x (NonDelivery reason diagnostic) (record {
      domain = domain;
      small = small;
      moment = arrived;
      outcome_fits = codes;
      envelope = read;
      recipient = at;
    })

-- ---- on a recipient of a message or probe

pub written-if : (o : Option ReportFields) → IfSome o IsWrittenReport → IfSome (option_map report o) IsWritten
written-if None h = tt
written-if (Some p) h = h

on-recipient : (make : RecipientFields → Option ReportFields) (o : Option RecipientFields)
    → ((x : RecipientFields) → o ≡ Some x → IfSome (make x) IsWrittenReport)
    → IfSome (option_map report (option_and_then make o)) IsWritten
on-recipient make None h = tt
on-recipient make (Some x) h = written-if (make x) (h x refl)

on-written : (make : EnvelopeFields → RecipientFields → Option ReportFields) (r : ℕ) (v : ApduValue)
    → EnvelopesWereRead v
    → ((e : EnvelopeFields) (x : RecipientFields) → WasRead e → numbered e.recipients r ≡ Some x
    → IfSome (make e x) IsWrittenReport)
    → IfSome (report_on make r v) IsWritten
on-written make r (message m) read h =
    on-recipient (make m.envelope) (numbered m.envelope.recipients r) (λ x at. h m.envelope x read at)
on-written make r (probe e) read h = on-recipient (make e) (numbered e.recipients r) (λ x at. h e x read at)
on-written make r (report p) read h = tt

-- what tables and an APDU give that are read
pub both-written : {A : Type 0} (P : A → Type 0) (to : Option TablesValue) (vo : Option ApduValue)
    (give : TablesValue → ApduValue → Option A)
    → ((t : TablesValue) (v : ApduValue) → to ≡ Some t → vo ≡ Some v → IfSome (give t v) P)
    → IfSome (read_both to vo give) P
both-written P None vo give h = tt
both-written P (Some t) None give h = tt
both-written P (Some t) (Some v) give h = h t v refl refl

pub delivery-report-written : (text : List ℕ) (number : ℕ) (item : ItemValue) (r moment : ℕ)
    → IsSoundItem moment item → moment ≤ last_moment → number < 2 ^ 32
    → IfSome (delivery_report text number item r moment) IsWritten
unfolding delivery_report
delivery-report-written text number item r moment sound timely small =
    both-written IsWritten (tables_value text) (value_of item.octets) _
    (λ t v told is. on-written (λ e x. reports.delivery_report t number item.arrival e x moment) r v
    (envelope-read v (item-written moment item v sound is))
    (λ e x read at. delivery-written t number item.arrival e r x moment
    (tables-domain text t (tables-read text t told)) small (omega (arith, sound.arrived, timely)) timely read at))

pub non-delivery-report-written : (text : List ℕ) (number : ℕ) (item : ItemValue) (r reason : ℕ)
    (diagnostic : Option ℕ) (moment : ℕ) → IsSoundItem moment item → moment ≤ last_moment → number < 2 ^ 32
    → AreToldCodes reason diagnostic
    → IfSome (non_delivery_report text number item r reason diagnostic) IsWritten
unfolding non_delivery_report
non-delivery-report-written text number item r reason diagnostic moment sound timely small codes =
    both-written IsWritten (tables_value text) (value_of item.octets) _
    (λ t v told is. on-written (λ e x. reports.non_delivery_report t number item.arrival e x reason diagnostic) r v
    (envelope-read v (item-written moment item v sound is))
    (λ e x read at. non-delivery-written t number item.arrival e r x reason diagnostic
    (tables-domain text t (tables-read text t told)) small (omega (arith, sound.arrived, timely)) codes read at))
