use Rattle.std.proofs.Common.{◌≡◌, ℕ, Option, Some, None, sym, ap, subst, ◌∙◌}
use Rattle.std.specs.Option.{option_map}
use Rattle.mta_apdu.specs.Apdus.{ApduValue, apdu_value, report}
use Rattle.mta_records.specs.declared.state.Origin.{Origin}
use Rattle.mta_machine.specs.Machine.{own_item}
use Rattle.mta_machine.specs.Rules.{passed_back, passed_under}
use Rattle.mta_state.specs.Asked.{Passes}
use Rattle.mta_table_rules.proofs.Passed.{has_room}
use Rattle.mta_state.proofs.Decodings.{reading_is}
use Rattle.mta_table_rules.proofs.Read.{if_ok_so, none_passed, passed_is, verdict_is}
use Rattle.mta_table_rules.proofs.passing.passed_item.Goals as goal

pub returns-in_default : goal.returns-in_default
returns-in_default c =
    ap (λ (o : Option ApduValue). option_map (own_item c.args.moment) o)
    (sym (none_passed c.args.tables.now c.args.items.now c.args.item.now c.text_reads.ensures
    (reading_is c.args.item.now.octets c.args.reading.now None c.requires.reading c.in_default.is)))

pub passed_under-requires-clause-room : goal.passed_under-requires-clause-room
passed_under-requires-clause-room c =
    let t = c.args.tables.now in
    let item = c.args.item.now in
    let v : ApduValue = apdu_value c.in-Some.apdu in
    let same = verdict_is c.requires.passed.0 t item.octets v item.arrival c.args.recipient c.args.moment
    c.text_reads.ensures
    (reading_is item.octets c.args.reading.now (Some c.in-Some.apdu) c.requires.reading c.in-Some.is) in
    has_room c.requires.passed.0 t v item.arrival c.args.recipient c.args.moment
    (subst Passes same c.requires.passed.1)

pub returns : goal.returns
returns c =
    let t = c.args.tables.now in
    let item = c.args.item.now in
    let items = c.args.items.now in
    let v : ApduValue = apdu_value c.in-Some.apdu in
    let same = passed_is t items item v c.text_reads.ensures
    (reading_is item.octets c.args.reading.now (Some c.in-Some.apdu) c.requires.reading c.in-Some.is) in
    if_ok_so c.report_item.result
    (λ i. i ≡ option_map (own_item c.args.moment) (option_map report c.in_ok-made.made))
    (λ i. i ≡ option_map (own_item c.args.moment) (passed_back t.text items item))
    (λ i e. e ∙ ap (λ (o : Option ApduValue). option_map (own_item c.args.moment) o)
    (c.in_ok-made.ensures ∙ ap (λ (o : Origin). passed_under items o c.arrival.result t v) c.origin.ensures
    ∙ ap (λ (n : ℕ). passed_under items item.origin n t v) c.arrival.ensures ∙ sym same))
    c.report_item.ensures
