use Rattle.std.proofs.Common.{◌≡◌, ℕ, Option, Some, None, sym, ap, ◌∙◌}
use Rattle.std.specs.Prelude.{is_some}
use Rattle.mta_apdu.specs.Apdus.{ApduValue, apdu_value}
use Rattle.mta_records.specs.declared.state.Origin.{Origin}
use Rattle.mta_machine.specs.Rules.{passed_back, passed_under}
use Rattle.mta_state.proofs.Decodings.{reading_is}
use Rattle.mta_table_rules.proofs.Read.{if_ok_so, none_passed, passed_is}
use Rattle.mta_table_rules.proofs.passing.passes_back.Goals as goal

pub returns-in_default : goal.returns-in_default
returns-in_default c =
    ap (λ (o : Option ApduValue). is_some o)
    (sym (none_passed c.args.tables.now c.args.items.now c.args.item.now c.text_reads.ensures
    (reading_is c.args.item.now.octets c.args.reading.now None c.requires c.in_default.is)))

pub returns : goal.returns
returns c =
    let t = c.args.tables.now in
    let item = c.args.item.now in
    let items = c.args.items.now in
    let v : ApduValue = apdu_value c.in-Some.apdu in
    let same = passed_is t items item v c.text_reads.ensures
    (reading_is item.octets c.args.reading.now (Some c.in-Some.apdu) c.requires c.in-Some.is) in
    if_ok_so c.passes_under.result
    (λ b. b ≡ is_some (passed_under items c.origin.result c.arrival.result t v))
    (λ b. b ≡ is_some (passed_back t.text items item))
    (λ b e. e ∙ ap (λ (o : Origin). is_some (passed_under items o c.arrival.result t v)) c.origin.ensures
    ∙ ap (λ (n : ℕ). is_some (passed_under items item.origin n t v)) c.arrival.ensures
    ∙ ap (λ (o : Option ApduValue). is_some o) (sym same))
    c.passes_under.ensures
