use Rattle.mta_envelope.specs.Messages.{message_value}
use Rattle.mta_procedures.specs.Situations.{situation}
use Rattle.mta_rules.proofs.Columns.{message_verdict}
use Rattle.mta_rules.proofs.verdict.verdict_on_message.Goals as goal

pub returns : goal.returns
returns c =
    message_verdict c.args.format (situation c.args.tables.now c.args.arrival c.args.moment)
    (message_value c.args.message.now)
    c.args.recipient.now c.args.members_length c.fields-envelope.result.now c.route-hop.result
    c.message_length-copy.result c.deferral_or_zero.result c.case_of-case.result c.for_message.result
    c.fields-envelope.ensures.exact c.route-hop.ensures.exact c.message_length-copy.ensures
    c.deferral_or_zero.ensures c.case_of-case.ensures c.for_message.ensures
