use Rattle.std.proofs.Common.{Some, None, sym, ◌∙◌}
use Rattle.mta_apdu.specs.Apdus.{apdu_value}
use Rattle.mta_state.proofs.Decodings.{reading_is}
use Rattle.mta_table_rules.proofs.Read.{no_route, route_is}
use Rattle.mta_table_rules.proofs.names.route.Goals as goal

pub returns-in-None : goal.returns-in-None
returns-in-None c =
    sym (no_route c.args.tables.now c.args.item.now.octets c.args.recipient c.text_reads.ensures
    (reading_is c.args.item.now.octets c.args.reading.now None c.requires c.in-None.is))

pub returns-in-Some : goal.returns-in-Some
returns-in-Some c =
    c.route_under.ensures
    ∙ sym (route_is c.args.tables.now c.args.item.now.octets (apdu_value c.in-Some.apdu) c.args.recipient
    c.text_reads.ensures
    (reading_is c.args.item.now.octets c.args.reading.now (Some c.in-Some.apdu) c.requires c.in-Some.is))
