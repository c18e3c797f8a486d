-- The report on a recipient whose activity failed.
use Rattle.std.proofs.Common.{◌≡◌, ◌≤◌, ◌<◌, ◌+◌, ◌^◌, ℕ, Bool, true, false, cond, List, [], length}
use Rattle.std.proofs.Common.{Option, Some, None, is_some, option_map, option_to_list, refl, sym, ap, ◌∙◌}
use Rattle.std.proofs.Common.{arith, inl, inr}
use Rattle.std.specs.Prelude.{◌⊎◌}
use Rattle.mta_envelope_recipient.specs.declared.recipient.RecipientFields.{RecipientFields}
use Rattle.mta_envelope.specs.declared.envelope.EnvelopeFields.{EnvelopeFields}
use Rattle.mta_report.specs.declared.fields.ReportFields.{ReportFields}
use Rattle.mta_apdu.specs.Apdus.{ApduValue, message, probe, report}
use Rattle.mta_tables.specs.Tables.{TablesValue}
use Rattle.mta_procedures.specs.Reports as reports
use Rattle.mta_records.specs.declared.state.Status.{Status}
use Rattle.mta_machine.specs.Apdu.{is_report, value_of}
use Rattle.mta_machine.specs.Items.{ItemValue}
use Rattle.mta_machine.specs.Rules.{Failure, non_delivery_report, read_both, report_on}
use Rattle.mta_machine.specs.Rules.{tables_value}
use Rattle.mta_machine.specs.Machine.{failed, own_item, status_after, unless_report}
use Rattle.mta_replay.specs.Failures.{Fails, report_of}

-- on a recipient of a report no report is made
no_report : (make : TablesValue → EnvelopeFields → RecipientFields → Option ReportFields) (r : ℕ)
    (t : Option TablesValue) (v : Option ApduValue)
    → cond (is_report v) [] (option_to_list (read_both t v (λ t v. report_on (make t) r v)))
    ≡ option_to_list (read_both t v (λ t v. report_on (make t) r v))
no_report make r t None = refl
no_report make r t (Some (message m)) = refl
no_report make r t (Some (probe p)) = refl
no_report make r None (Some (report x)) = refl
no_report make r (Some t) (Some (report x)) = refl

pub reported_anyway : (text : List ℕ) (number : ℕ) (item : ItemValue) (r reason : ℕ) (diagnostic : Option ℕ)
    → unless_report item (non_delivery_report text number item r reason diagnostic)
    ≡ option_to_list (non_delivery_report text number item r reason diagnostic)
unfolding non_delivery_report
reported_anyway text number item r reason diagnostic =
    no_report (λ t e x. reports.non_delivery_report t number item.arrival e x reason diagnostic) r
    (tables_value text) (value_of item.octets)

-- a report does not rest on what became of the recipients of its item
pub same_report : (text : List ℕ) (number : ℕ) (item : ItemValue) (ss : List (Option Status)) (r reason : ℕ)
    (diagnostic : Option ℕ)
    → non_delivery_report text number (record item { statuses = ss }) r reason diagnostic
    ≡ non_delivery_report text number item r reason diagnostic
unfolding non_delivery_report
same_report text number item ss r reason diagnostic = refl

-- ---- the discharge

listed : {A B : Type 0} (f : A → B) (o : Option A) (n : ℕ) → is_some (option_map f o) ≡ true
    → n + length (option_to_list o) ≡ n + 1
listed f None n e = absurd cc
listed f (Some x) n e = refl

few : {A : Type 0} (o : Option A) (n : ℕ) → (n + 1 < 2 ^ 32) ⊎ (is_some o ≡ false) → n < 2 ^ 32
    → n + length (option_to_list o) < 2 ^ 32
few None n fits small = omega (arith, small)
few (Some x) n (inl fits) small = omega (arith, fits)
few (Some x) n (inr none) small = absurd cc

module _ (text : List ℕ) (count : ℕ) (item : ItemValue) (r : ℕ) (failure : Failure) (moment : ℕ)
    (made : Option ItemValue) (made_is : made ≡ option_map (own_item moment) (report_of text count item r failure))
  where
    pub number_too_great : is_some made ≡ true → 2 ^ 32 ≤ count + 1
        → Fails text count item r failure moment None
    number_too_great there most =
        let one = listed (own_item moment) (report_of text count item r failure) count
        (sym (ap (λ (o : Option ItemValue). is_some o) made_is) ∙ there) in
        omega (arith, one, most)

    pub failed_so : (b : Bool) (status : Status) → b ≡ is_report (value_of item.octets)
        → status ≡ status_after b (failed failure) moment → (count + 1 < 2 ^ 32) ⊎ (is_some made ≡ false)
        → count < 2 ^ 32
        → Fails text count item r failure moment (Some (record { recipient = r; status = status; made = made }))
    failed_so b status kind status_is fits small = record {
      recipient = refl;
      status = status_is ∙ ap (λ (c : Bool). status_after c (failed failure) moment) kind;
      made = made_is;
      numbers = few made count fits small;
    }

pub ruleset failed_laws = (number_too_great, failed_so)
