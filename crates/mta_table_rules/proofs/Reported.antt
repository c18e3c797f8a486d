-- Reports on the recipients of what was read.
use Rattle.std.proofs.Common.{◌≡◌, ℕ, Option, Some, None, sym, ap, ◌∙◌}
use Rattle.std.specs.Prelude.{option_and_then}
use Rattle.std.specs.Option.{option_map}
use Rattle.mta_envelope_recipient.specs.declared.recipient.RecipientFields.{RecipientFields}
use Rattle.mta_envelope.specs.declared.envelope.EnvelopeFields.{EnvelopeFields}
use Rattle.mta_report.specs.declared.fields.ReportFields.{ReportFields}
use Rattle.mta_apdu.specs.Apdus.{ApduValue, report}
use Rattle.mta_tables.specs.Tables.{TablesValue}
use Rattle.mta_procedures.specs.Reports as reports
use Rattle.mta_machine.specs.Apdu.{value_of}
use Rattle.mta_machine.specs.Items.{ItemValue, numbered}
use Rattle.mta_machine.specs.Machine.{own_item}
use Rattle.mta_machine.specs.Rules.{delivery_report, envelope_in, non_delivery_report, report_on, tables_value}
use Rattle.mta_table_rules.proofs.Read.{delivery_is, no_delivery, no_non_delivery, non_delivery_is}

-- what makes a report of an envelope and a recipient
abbrev pub Makes : Type 0
Makes = EnvelopeFields → RecipientFields → Option ReportFields

abbrev reported : Makes → ℕ → Option EnvelopeFields → Option ApduValue
reported make r o =
    option_map report (option_and_then (λ (e : EnvelopeFields). option_and_then (make e) (numbered e.recipients r)) o)

pub no_envelope : (make : Makes) (r : ℕ) (v : ApduValue) → None ≡ envelope_in v → None ≡ report_on make r v
no_envelope make r v h = ap (λ (o : Option EnvelopeFields). reported make r o) h

pub no_recipient : (make : Makes) (r : ℕ) (v : ApduValue) (e : EnvelopeFields) → Some e ≡ envelope_in v
    → None ≡ numbered e.recipients r → None ≡ report_on make r v
no_recipient make r v e h k =
    ap (λ (o : Option RecipientFields). option_map report (option_and_then (make e) o)) k
    ∙ ap (λ (o : Option EnvelopeFields). reported make r o) h

pub one_reported : (make : Makes) (r : ℕ) (v : ApduValue) (e : EnvelopeFields) (x : RecipientFields)
    (made : Option ReportFields) → Some e ≡ envelope_in v → Some x ≡ numbered e.recipients r → made ≡ make e x
    → option_map report made ≡ report_on make r v
one_reported make r v e x made h k is =
    ap (λ (o : Option ReportFields). option_map report o) is
    ∙ ap (λ (o : Option RecipientFields). option_map report (option_and_then (make e) o)) k
    ∙ ap (λ (o : Option EnvelopeFields). reported make r o) h

-- ---- items

-- the item of what was made, of an item that arrived at a moment
pub delivered : (t : TablesValue) (number arrival : ℕ) (item : ItemValue) (v : ApduValue) (r moment : ℕ)
    (made : Option ReportFields) (result : Option ItemValue) → arrival ≡ item.arrival
    → tables_value t.text ≡ Some t → value_of item.octets ≡ Some v
    → option_map report made ≡ report_on (λ e x. reports.delivery_report t number arrival e x moment) r v
    → result ≡ option_map (own_item moment) (option_map report made)
    → result ≡ option_map (own_item moment) (delivery_report t.text number item r moment)
delivered t number arrival item v r moment made result a e h is k =
    k ∙ ap (λ (o : Option ApduValue). option_map (own_item moment) o)
    (is ∙ ap (λ n. report_on (λ e x. reports.delivery_report t number n e x moment) r v) a
    ∙ sym (delivery_is t number item v r moment e h))

pub none_delivered : (t : TablesValue) (number : ℕ) (item : ItemValue) (r moment : ℕ)
    → tables_value t.text ≡ Some t → value_of item.octets ≡ None
    → None ≡ option_map (own_item moment) (delivery_report t.text number item r moment)
none_delivered t number item r moment e h =
    ap (λ (o : Option ApduValue). option_map (own_item moment) o) (sym (no_delivery t number item r moment e h))

pub not_delivered : (t : TablesValue) (number arrival : ℕ) (item : ItemValue) (v : ApduValue) (r reason : ℕ)
    (diagnostic : Option ℕ) (moment : ℕ) (made : Option ReportFields) (result : Option ItemValue)
    → arrival ≡ item.arrival → tables_value t.text ≡ Some t → value_of item.octets ≡ Some v
    → option_map report made
    ≡ report_on (λ e x. reports.non_delivery_report t number arrival e x reason diagnostic) r v
    → result ≡ option_map (own_item moment) (option_map report made)
    → result ≡ option_map (own_item moment) (non_delivery_report t.text number item r reason diagnostic)
not_delivered t number arrival item v r reason diagnostic moment made result a e h is k =
    k ∙ ap (λ (o : Option ApduValue). option_map (own_item moment) o)
    (is ∙ ap (λ n. report_on (λ e x. reports.non_delivery_report t number n e x reason diagnostic) r v) a
    ∙ sym (non_delivery_is t number item v r reason diagnostic e h))

pub none_not_delivered : (t : TablesValue) (number : ℕ) (item : ItemValue) (r reason : ℕ) (diagnostic : Option ℕ)
    (moment : ℕ) → tables_value t.text ≡ Some t → value_of item.octets ≡ None
    → None ≡ option_map (own_item moment) (non_delivery_report t.text number item r reason diagnostic)
none_not_delivered t number item r reason diagnostic moment e h =
    ap (λ (o : Option ApduValue). option_map (own_item moment) o)
    (sym (no_non_delivery t number item r reason diagnostic e h))
