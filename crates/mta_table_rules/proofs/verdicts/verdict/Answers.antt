use Rattle.std.proofs.Common.{◌≡◌, ℕ, None, Some, sym, ap, subst, ◌∙◌}
use Rattle.mta_apdu.specs.Apdus.{ApduValue, apdu_value}
use Rattle.mta_machine.specs.Rules.{verdict_of, verdict_under}
use Rattle.mta_state.specs.Asked.{CodesAreCodes}
use Rattle.mta_state.proofs.Decodings.{counted_is, reading_is}
use Rattle.mta_sound_laws.proofs.Codes.{all_coded}
use Rattle.mta_table_rules.proofs.Read.{if_ok_so, no_verdict, verdict_is}
use Rattle.mta_table_rules.proofs.verdicts.verdict.Goals as goal

pub returns-in_default-clause-exact : goal.returns-in_default-clause-exact
returns-in_default-clause-exact c =
    let item = c.args.item.now in
    sym (no_verdict c.args.format c.args.tables.now item.octets item.arrival c.args.recipient c.args.moment
    c.text_reads.ensures (reading_is item.octets c.args.reading.now None c.requires.reading c.in_default.is))

pub returns-clause-exact : goal.returns-clause-exact
returns-clause-exact c =
    let t = c.args.tables.now in
    let item = c.args.item.now in
    let v : ApduValue = apdu_value c.in-Some.apdu in
    let same = verdict_is c.args.format t item.octets v item.arrival c.args.recipient c.args.moment c.text_reads.ensures
    (reading_is item.octets c.args.reading.now (Some c.in-Some.apdu) c.requires.reading c.in-Some.is) in
    if_ok_so c.verdict_under.result
    (λ x. x ≡ verdict_under c.args.format t v c.arrival-arrival.result c.args.recipient c.args.moment)
    (λ x. x ≡ verdict_of c.args.format t.text item.octets item.arrival c.args.recipient c.args.moment)
    (λ x e. e ∙ ap (λ (n : ℕ). verdict_under c.args.format t v n c.args.recipient c.args.moment)
    c.arrival-arrival.ensures
    ∙ sym same) c.verdict_under.ensures

pub returns-clause-codes : goal.returns-clause-codes
returns-clause-codes c =
    let t = c.args.tables.now in
    let item = c.args.item.now in
    let v : ApduValue = apdu_value c.in-Some.apdu in
    let same = verdict_is c.args.format t item.octets v item.arrival c.args.recipient c.args.moment c.text_reads.ensures
    (reading_is item.octets c.args.reading.now (Some c.in-Some.apdu) c.requires.reading c.in-Some.is) in
    if_ok_so c.verdict_under.result
    (λ x. x ≡ verdict_under c.args.format t v c.arrival-arrival.result c.args.recipient c.args.moment) CodesAreCodes
    (λ x e. subst CodesAreCodes
    (same
    ∙ sym (e ∙ ap (λ (n : ℕ). verdict_under c.args.format t v n c.args.recipient c.args.moment)
    c.arrival-arrival.ensures))
    (all_coded c.args.format t.text item.octets item.arrival c.args.recipient c.args.moment))
    c.verdict_under.ensures

pub verdict_under-requires-clause-back : goal.verdict_under-requires-clause-back
verdict_under-requires-clause-back c =
    counted_is c.args.item.now.octets c.args.reading.now c.in-Some.apdu c.requires.reading c.in-Some.is
