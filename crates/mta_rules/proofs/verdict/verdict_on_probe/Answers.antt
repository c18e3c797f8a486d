use Rattle.mta_procedures.specs.Situations.{situation}
use Rattle.mta_rules.proofs.Columns.{probe_verdict}
use Rattle.mta_rules.proofs.verdict.verdict_on_probe.Goals as goal

pub returns : goal.returns
returns c =
    probe_verdict c.args.format (situation c.args.tables.now c.args.arrival c.args.moment) c.args.probe.now.envelope
    c.args.recipient.now c.fields-envelope.result.now c.route-hop.result c.probe_length-copy.result
    c.case_of-case.result c.for_probe.result c.fields-envelope.ensures.exact c.route-hop.ensures.exact
    c.probe_length-copy.ensures c.case_of-case.ensures c.for_probe.ensures
