use Rattle.std.proofs.Common.{ℕ, Some, None, sym, ap, ◌∙◌}
use Rattle.mta_apdu.specs.Apdus.{apdu_value}
use Rattle.mta_idle_laws.specs.Next.{next_under}
use Rattle.mta_state.proofs.Decodings.{reading_is}
use Rattle.mta_table_rules.proofs.IdleItems.{next_is}
use Rattle.mta_table_rules.proofs.rest.next_change.Goals as goal

pub returns-in_default : goal.returns-in_default
returns-in_default c =
    sym
    (next_is c.args.format c.args.tables.now c.args.item.now.octets None c.args.item.now.arrival c.args.moment
    c.text_reads.ensures
    (reading_is c.args.item.now.octets c.args.reading.now None c.requires.reading c.in_default.is))

pub returns : goal.returns
returns c =
    let t = c.args.tables.now in
    let v = Some (apdu_value c.in-Some.apdu) in
    c.next_under.ensures
    ∙ ap (λ (a : ℕ). next_under c.args.format (Some t) v a c.args.moment) c.arrival.ensures
    ∙ sym
    (next_is c.args.format t c.args.item.now.octets v c.args.item.now.arrival c.args.moment c.text_reads.ensures
    (reading_is c.args.item.now.octets c.args.reading.now (Some c.in-Some.apdu) c.requires.reading c.in-Some.is))
