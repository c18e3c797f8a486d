use Rattle.mta_envelope.specs.Messages.{message_value}
use Rattle.mta_table_rules.proofs.Expanded.{made_is}
use Rattle.mta_table_rules.proofs.expansion.expanded_to.Goals as goal

pub returns : goal.returns
returns c =
    made_is c.args.tables.now c.args.number c.args.arrival (message_value c.args.message.now) c.args.who.now
    c.args.list.now c.args.moment c.number_behind-behind.result c.in_ok-first.first c.in_ok-second.second
    c.in_ok-report.report c.in_ok-first.ensures c.number_behind-behind.ensures c.in_ok-report.ensures
    c.in_ok-second.ensures
