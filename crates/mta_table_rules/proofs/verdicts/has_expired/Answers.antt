use Rattle.std.proofs.Common.{ℕ, Some, None, sym, ap, ◌∙◌}
use Rattle.mta_apdu.specs.Apdus.{apdu_value}
use Rattle.mta_machine.specs.Rules.{expired_under}
use Rattle.mta_state.proofs.Decodings.{reading_is}
use Rattle.mta_table_rules.proofs.Read.{expired_is}
use Rattle.mta_table_rules.proofs.verdicts.has_expired.Goals as goal

pub returns-in_default : goal.returns-in_default
returns-in_default c =
    let item = c.args.item.now in
    sym (expired_is c.args.format c.args.tables.now item.octets None item.arrival c.args.moment c.text_reads.ensures
    (reading_is item.octets c.args.reading.now None c.requires.reading c.in_default.is))

pub returns : goal.returns
returns c =
    let item = c.args.item.now in
    let t = c.args.tables.now in
    let v = apdu_value c.in-Some.apdu in
    c.expired_under.ensures
    ∙ ap (λ (n : ℕ). expired_under c.args.format (Some t) (Some v) n c.args.moment) c.arrival-arrival.ensures
    ∙ sym (expired_is c.args.format t item.octets (Some v) item.arrival c.args.moment c.text_reads.ensures
    (reading_is item.octets c.args.reading.now (Some c.in-Some.apdu) c.requires.reading c.in-Some.is))
