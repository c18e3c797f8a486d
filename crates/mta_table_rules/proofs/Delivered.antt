-- Where recipients of what was read are delivered to.
use Rattle.std.proofs.Common.{◌≡◌, ℕ, Option, Some, None, sym, ap, subst, ◌∙◌}
use Rattle.std.specs.Option.{option_map}
use Rattle.mta_apdu.specs.Apdus.{ApduValue}
use Rattle.mta_tables.specs.Tables.{TablesValue}
use Rattle.mta_procedures.specs.declared.verdict.Verdict.{Verdict}
use Rattle.mta_procedures.specs.Reports as reports
use Rattle.mta_machine.specs.Apdu.{value_of}
use Rattle.mta_machine.specs.Items.{ItemValue}
use Rattle.mta_machine.specs.Machine.{own_item}
use Rattle.mta_machine.specs.Rules.{delivery_report, report_on, tables_value, verdict_of, verdict_under}
use Rattle.mta_state.specs.declared.delivery.Delivery.{Delivery}
use Rattle.mta_state.specs.Asked.{Delivers, IsDeliveryOf}
use Rattle.mta_table_rules.proofs.Read.{delivery_is, no_verdict, verdict_is}

-- the delivery under the APDU that was read is that of the item
pub told_of : (format : ℕ) (t : TablesValue) (number arrival : ℕ) (item : ItemValue) (v : ApduValue) (r moment : ℕ)
    (told : Option Delivery) → arrival ≡ item.arrival → tables_value t.text ≡ Some t
    → value_of item.octets ≡ Some v
    → Delivers (verdict_under format t v arrival r moment) (option_map (own_item moment)
    (report_on (λ e x. reports.delivery_report t number arrival e x moment) r v)) told
    → IsDeliveryOf format t.text number item r moment told
told_of format t number arrival item v r moment told a e h is =
    let verdict : verdict_under format t v arrival r moment
    ≡ verdict_of format t.text item.octets item.arrival r moment =
    ap (λ (n : ℕ). verdict_under format t v n r moment) a
    ∙ sym (verdict_is format t item.octets v item.arrival r moment e h) in
    let made : report_on (λ e x. reports.delivery_report t number arrival e x moment) r v
    ≡ delivery_report t.text number item r moment =
    ap (λ n. report_on (λ e x. reports.delivery_report t number n e x moment) r v) a
    ∙ sym (delivery_is t number item v r moment e h) in
    subst
    (λ (o : Option Verdict).
    Delivers o (option_map (own_item moment) (delivery_report t.text number item r moment)) told) verdict
    (subst
    (λ (o : Option ApduValue).
    Delivers (verdict_under format t v arrival r moment) (option_map (own_item moment) o) told) made is)

-- nobody is delivered to of octets that spell no APDU
pub none_told : (format : ℕ) (t : TablesValue) (number : ℕ) (item : ItemValue) (r moment : ℕ)
    → tables_value t.text ≡ Some t → value_of item.octets ≡ None
    → IsDeliveryOf format t.text number item r moment None
none_told format t number item r moment e h place is =
    let none = no_verdict format t item.octets item.arrival r moment e h in absurd cc
