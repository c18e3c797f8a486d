use Rattle.std.proofs.Common.{None, Option, Some}
use Rattle.std.specs.Option.{option_map}
use Rattle.mta_apdu.specs.Apdus.{ApduValue, apdu_value}
use Rattle.mta_procedures.specs.Reports as reports
use Rattle.mta_machine.specs.Machine.{own_item}
use Rattle.mta_machine.specs.Rules.{report_on, verdict_under}
use Rattle.mta_state.specs.declared.delivery.Delivery.{Delivery}
use Rattle.mta_state.specs.Asked.{Delivers, IsDeliveryOf}
use Rattle.mta_table_rules.proofs.Delivered.{none_told, told_of}
use Rattle.mta_state.proofs.Decodings.{counted_is, reading_is}
use Rattle.mta_table_rules.proofs.Read.{if_ok_so}
use Rattle.mta_table_rules.proofs.deliveries.delivery.Goals as goal

pub returns-in_default : goal.returns-in_default
returns-in_default c =
    none_told c.args.format c.args.tables.now c.args.number c.args.item.now c.args.recipient c.args.moment
    c.text_reads.ensures
    (reading_is c.args.item.now.octets c.args.reading.now None c.requires.reading c.in_default.is)

pub returns : goal.returns
returns c =
    let t = c.args.tables.now in
    let item = c.args.item.now in
    let arrival = c.arrival-arrival.result in
    let r = c.args.recipient in
    let moment = c.args.moment in
    let v : ApduValue = apdu_value c.in-Some.apdu in
    let read = reading_is item.octets c.args.reading.now (Some c.in-Some.apdu) c.requires.reading c.in-Some.is in
    let made = report_on (λ e x. reports.delivery_report t c.args.number arrival e x moment) r v in
    if_ok_so c.delivery_under.result
    (Delivers (verdict_under c.args.format t v arrival r moment) (option_map (own_item moment) made))
    (IsDeliveryOf c.args.format t.text c.args.number item r moment)
    (λ (d : Option Delivery) is.
    told_of c.args.format t c.args.number arrival item v r moment d c.arrival-arrival.ensures c.text_reads.ensures read
    is)
    c.delivery_under.ensures

pub delivery_under-requires-clause-back : goal.delivery_under-requires-clause-back
delivery_under-requires-clause-back c =
    counted_is c.args.item.now.octets c.args.reading.now c.in-Some.apdu c.requires.reading c.in-Some.is
