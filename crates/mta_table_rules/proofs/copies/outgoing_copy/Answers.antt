use Rattle.std.proofs.Common.{◌≡◌, Some, None, sym, ap, subst, ◌∙◌}
use Rattle.std.proofs.lemmas.Option.{none-some}
use Rattle.mta_apdu.specs.Apdus.{ApduValue, apdu_value}
use Rattle.mta_procedures.specs.declared.verdict.Verdict.TheVariants as Verdicts
use Rattle.mta_records.specs.Outgoing.{Carried}
use Rattle.mta_machine.specs.Rules.{copy_under, outgoing_copy}
use Rattle.mta_state.specs.Asked.{Relays}
use Rattle.mta_state.proofs.Decodings.{reading_is}
use Rattle.mta_table_rules.proofs.Copied.{cut_in, relayed}
use Rattle.mta_table_rules.proofs.Read.{copy_is, if_ok_so, no_verdict, verdict_is}
use Rattle.mta_table_rules.proofs.copies.outgoing_copy.Goals as goal

pub unreachable-requires : goal.unreachable-requires
unreachable-requires c =
    let item = c.args.item.now in
    none-some (Verdicts.Relay c.requires.relayed.1.0)
    (sym (no_verdict c.requires.relayed.0 c.args.tables.now item.octets item.arrival c.args.recipient c.args.moment
    c.text_reads.ensures
    (reading_is item.octets c.args.reading.now None c.requires.reading c.in_default.is)) ∙ c.requires.relayed.1.1)

pub copy_under-requires-clause-place : goal.copy_under-requires-clause-place
copy_under-requires-clause-place c =
    cut_in c.args.item.now.octets c.args.reading.now c.in-Some.apdu c.requires.reading c.in-Some.is

pub copy_under-requires-clause-copy : goal.copy_under-requires-clause-copy
copy_under-requires-clause-copy c =
    let item = c.args.item.now in
    let v : ApduValue = apdu_value c.in-Some.apdu in
    let same = verdict_is c.requires.relayed.0 c.args.tables.now item.octets v item.arrival c.args.recipient
    c.args.moment
    c.text_reads.ensures
    (reading_is item.octets c.args.reading.now (Some c.in-Some.apdu) c.requires.reading c.in-Some.is) in
    relayed c.requires.relayed.0 c.args.tables.now v item.arrival c.args.recipient c.args.recipients.now c.args.moment
    (subst Relays same c.requires.relayed.1)

pub returns-clause-copy : goal.returns-clause-copy
returns-clause-copy c =
    let t = c.args.tables.now in
    let item = c.args.item.now in
    let rs = c.args.recipients.now in
    let v : ApduValue = apdu_value c.in-Some.apdu in
    let same = copy_is t item.octets v item.arrival rs c.args.moment c.text_reads.ensures
    (reading_is item.octets c.args.reading.now (Some c.in-Some.apdu) c.requires.reading c.in-Some.is) in
    if_ok_so c.copy_under.result
    (λ (out : Carried). out
    ≡ record { activity = c.args.activity; octets = copy_under t v item.arrival rs c.args.moment })
    (λ (out : Carried). Some out.octets ≡ outgoing_copy t.text item.octets item.arrival rs c.args.moment)
    (λ out e. ap (λ (x : Carried). Some x.octets) e ∙ sym same) c.copy_under.ensures
