use Rattle.std.proofs.Common.{◌≡◌, Some, None, sym, ap, subst, ◌∙◌, List, map}
use Rattle.mta_apdu.specs.Apdus.{ApduValue, apdu_value}
use Rattle.mta_state.specs.Parts.{made_items}
use Rattle.mta_machine.specs.Machine.{own_item}
use Rattle.mta_machine.specs.Rules.{expansion, expansion_under, verdict_under}
use Rattle.mta_state.specs.Asked.{Expands}
use Rattle.mta_state.proofs.Decodings.{reading_is}
use Rattle.mta_table_rules.proofs.Read.{expansion_is, if_ok_so, verdict_is}
use Rattle.mta_table_rules.proofs.expansion.expansion_items.Goals as goal

pub returns-in_default : goal.returns-in_default
returns-in_default c =
    let none = expansion_is c.args.tables.now c.args.number c.args.item.now None c.args.recipient c.args.moment
    c.text_reads.ensures
    (reading_is c.args.item.now.octets c.args.reading.now None c.requires.reading c.in_default.is) in
    ap made_items c.nothing.ensures ∙ ap (λ (xs : List ApduValue). map (own_item c.args.moment) xs) (sym none)

pub expanded_in-requires-clause-list : goal.expanded_in-requires-clause-list
expanded_in-requires-clause-list c =
    let t = c.args.tables.now in
    let item = c.args.item.now in
    let v : ApduValue = apdu_value c.in-Some.apdu in
    let format = c.requires.list.0 in
    let same = verdict_is format t item.octets v item.arrival c.args.recipient c.args.moment c.text_reads.ensures
    (reading_is item.octets c.args.reading.now (Some c.in-Some.apdu) c.requires.reading c.in-Some.is) in (
      format,
      subst Expands
          (same ∙ ap (λ n. verdict_under format t v n c.args.recipient c.args.moment) (sym c.arrival-arrival.ensures))
          c.requires.list.1,
    )

pub returns : goal.returns
returns c =
    let t = c.args.tables.now in
    let item = c.args.item.now in
    let v : ApduValue = apdu_value c.in-Some.apdu in
    let same = expansion_is t c.args.number item (Some v) c.args.recipient c.args.moment c.text_reads.ensures
    (reading_is item.octets c.args.reading.now (Some c.in-Some.apdu) c.requires.reading c.in-Some.is) in
    if_ok_so c.expanded_in.result
    (λ made. made_items made ≡ map (own_item c.args.moment)
    (expansion_under (Some t) c.args.number c.arrival-arrival.result (Some v) c.args.recipient c.args.moment))
    (λ made. made_items made ≡ map (own_item c.args.moment)
    (expansion t.text c.args.number item c.args.recipient c.args.moment))
    (λ made e. e
    ∙ ap (λ n. map (own_item c.args.moment)
    (expansion_under (Some t) c.args.number n (Some v) c.args.recipient c.args.moment)) c.arrival-arrival.ensures
    ∙ ap (λ (xs : List ApduValue). map (own_item c.args.moment) xs) (sym same))
    c.expanded_in.ensures
