use Rattle.std.proofs.Common.{◌≡◌, None, Some}
use Rattle.std.specs.Option.{option_map}
use Rattle.mta_apdu.specs.Apdus.{ApduValue, apdu_value, report}
use Rattle.mta_machine.specs.Machine.{own_item}
use Rattle.mta_machine.specs.Rules.{non_delivery_report}
use Rattle.mta_state.proofs.Decodings.{reading_is}
use Rattle.mta_table_rules.proofs.Read.{if_ok_so}
use Rattle.mta_table_rules.proofs.Reported.{none_not_delivered, not_delivered}
use Rattle.mta_table_rules.proofs.reports.non_delivery_item.Goals as goal

pub returns-in_default : goal.returns-in_default
returns-in_default c =
    none_not_delivered c.args.tables.now c.args.number c.args.item.now c.args.recipient c.args.reason
    c.args.diagnostic c.args.moment
    c.text_reads.ensures
    (reading_is c.args.item.now.octets c.args.reading.now None c.requires.reading c.in_default.is)

pub returns : goal.returns
returns c =
    let t = c.args.tables.now in
    let item = c.args.item.now in
    let v : ApduValue = apdu_value c.in-Some.apdu in
    let read = reading_is item.octets c.args.reading.now (Some c.in-Some.apdu) c.requires.reading c.in-Some.is in
    if_ok_so c.report_item.result
    (λ i. i ≡ option_map (own_item c.args.moment) (option_map report c.in_ok-made.made))
    (λ i. i ≡ option_map (own_item c.args.moment)
    (non_delivery_report t.text c.args.number item c.args.recipient c.args.reason c.args.diagnostic))
    (λ i e. not_delivered t c.args.number c.arrival-arrival.result item v c.args.recipient c.args.reason
    c.args.diagnostic c.args.moment
    c.in_ok-made.made i c.arrival-arrival.ensures c.text_reads.ensures read c.in_ok-made.ensures e)
    c.report_item.ensures
