-- The items that a discharge makes.
use Rattle.std.proofs.Common.{◌≡◌, ◌+◌, ℕ, cond, List, [], map, length}
use Rattle.std.proofs.Common.{Option, Some, None, refl, sym, ap, ◌∙◌}
use Rattle.std.specs.Prelude.{option_map, option_to_list}
use Rattle.mta_envelope_recipient.specs.declared.recipient.RecipientFields.{RecipientFields}
use Rattle.mta_envelope.specs.declared.envelope.EnvelopeFields.{EnvelopeFields}
use Rattle.mta_report.specs.declared.fields.ReportFields.{ReportFields}
use Rattle.mta_apdu.specs.Apdus.{ApduValue, message, probe, report}
use Rattle.mta_tables.specs.Tables.{TablesValue}
use Rattle.mta_procedures.specs.Reports as reports
use Rattle.mta_machine.specs.Apdu.{value_of, is_report}
use Rattle.mta_machine.specs.Items.{ItemValue, Machine}
use Rattle.mta_machine.specs.Machine.{own_item, unless_report, made_by, delivered, not_delivered}
use Rattle.mta_machine.specs.Rules.{tables_value, read_both, report_on, delivery_report, non_delivery_report}
use Rattle.mta_state.specs.declared.parts.Made.{Made}
use Rattle.mta_state.specs.Parts.{made_items}

abbrev pub alone : Option ItemValue → Made
alone first = record { first = first; second = None }

-- an item that is made alone, or none
pub made_alone : (first : Option ItemValue) (moment : ℕ) (v : Option ApduValue)
    → first ≡ option_map (own_item moment) v → made_items (alone first) ≡ map (own_item moment) (option_to_list v)
made_alone first moment v is = ap (λ (o : Option ItemValue). made_items (alone o)) is ∙ by_value v
  where
    by_value : (o : Option ApduValue)
        → made_items (alone (option_map (own_item moment) o)) ≡ map (own_item moment) (option_to_list o)
    by_value None = refl
    by_value (Some x) = refl

-- on a recipient of a report no report is made
abbrev On : Type 0
On = TablesValue → EnvelopeFields → RecipientFields → Option ReportFields

no-report-on : (make : On) (r : ℕ) (t : Option TablesValue) (v : Option ApduValue)
    → cond (is_report v) [] (option_to_list (read_both t v (λ t v. report_on (make t) r v)))
    ≡ option_to_list (read_both t v (λ t v. report_on (make t) r v))
no-report-on make r t None = refl
no-report-on make r t (Some (message m)) = refl
no-report-on make r t (Some (probe p)) = refl
no-report-on make r None (Some (report x)) = refl
no-report-on make r (Some t) (Some (report x)) = refl

delivery-anyway : (text : List ℕ) (number : ℕ) (item : ItemValue) (r moment : ℕ)
    → unless_report item (delivery_report text number item r moment)
    ≡ option_to_list (delivery_report text number item r moment)
unfolding delivery_report
delivery-anyway text number item r moment =
    no-report-on (λ t e x. reports.delivery_report t number item.arrival e x moment) r (tables_value text)
    (value_of item.octets)

failure-anyway : (text : List ℕ) (number : ℕ) (item : ItemValue) (r reason : ℕ) (diagnostic : Option ℕ)
    → unless_report item (non_delivery_report text number item r reason diagnostic)
    ≡ option_to_list (non_delivery_report text number item r reason diagnostic)
unfolding non_delivery_report
failure-anyway text number item r reason diagnostic =
    no-report-on (λ t e x. reports.non_delivery_report t number item.arrival e x reason diagnostic) r
    (tables_value text) (value_of item.octets)

module _ (m : Machine) (text : List ℕ) (item : ItemValue) (r moment : ℕ) (first : Option ItemValue) (number : ℕ)
    (number_is : number ≡ length m.items + 1)
  where
    abbrev made_of : List ApduValue → List ItemValue
    made_of vs = map (own_item moment) vs

    pub delivery_is : first ≡ option_map (own_item moment) (delivery_report text number item r moment)
        → made_items (alone first) ≡ map (own_item moment) (made_by m item text r delivered moment)
    delivery_is is =
        made_alone first moment (delivery_report text number item r moment) is
        ∙ (ap made_of (sym (delivery-anyway text number item r moment))
        ∙ ap (λ (n : ℕ). made_of (unless_report item (delivery_report text n item r moment))) number_is)

    pub failure_is : (reason diagnostic : ℕ)
        → first
        ≡ option_map (own_item moment) (non_delivery_report text number item r reason (Some diagnostic))
        → made_items (alone first)
        ≡ map (own_item moment) (made_by m item text r (not_delivered reason diagnostic) moment)
    failure_is reason diagnostic is =
        made_alone first moment (non_delivery_report text number item r reason (Some diagnostic)) is
        ∙ (ap made_of (sym (failure-anyway text number item r reason (Some diagnostic)))
        ∙ ap (λ (n : ℕ). made_of (unless_report item (non_delivery_report text n item r reason (Some diagnostic))))
        number_is)
