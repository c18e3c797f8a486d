use Rattle.mta_apdu.specs.Apdus.{apdu_value}
use Rattle.mta_table_rules.proofs.Arrivals.{item_is, item_few, item_rest}
use Rattle.mta_table_rules.proofs.submitted.submitted_as.Goals as goal

pub rest_under-requires-clause-few : goal.rest_under-requires-clause-few
rest_under-requires-clause-few c =
    let v = apdu_value c.args.apdu.now in
    let octets = c.args.octets.value in
    item_few octets c.args.moment v c.new-item.result c.requires.spelled
    (item_is octets c.args.moment v c.in_ok-statuses.statuses c.new-item.result c.requires.spelled
    c.in_ok-statuses.ensures c.new-item.ensures)

pub returns-clause-item : goal.returns-clause-item
returns-clause-item c =
    item_is c.args.octets.value c.args.moment (apdu_value c.args.apdu.now) c.in_ok-statuses.statuses
    c.new-item.result c.requires.spelled c.in_ok-statuses.ensures c.new-item.ensures

pub returns-clause-rest : goal.returns-clause-rest
returns-clause-rest c =
    let v = apdu_value c.args.apdu.now in
    let octets = c.args.octets.value in
    item_rest c.args.format c.args.tables.now octets c.args.moment v c.new-item.result c.in_ok-rest.rest
    c.text_reads.ensures
    c.requires.spelled
    (item_is octets c.args.moment v c.in_ok-statuses.statuses c.new-item.result c.requires.spelled
    c.in_ok-statuses.ensures c.new-item.ensures)
    c.in_ok-rest.ensures
