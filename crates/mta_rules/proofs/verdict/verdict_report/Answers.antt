use Rattle.std.specs.Prelude.{is_some}
use Rattle.mta_procedures.specs.Situations.{situation}
use Rattle.mta_rules.proofs.Columns.{report_verdict}
use Rattle.mta_rules.proofs.verdict.verdict_report.Goals as goal

pub returns : goal.returns
returns c =
    report_verdict (situation c.args.tables.now c.args.arrival c.args.moment) c.args.report.now
    c.fields-fields.result.now c.route-hop.result c.report_length-copy.result c.case_of_report-case.result
    c.is_some.result (is_some c.args.back) c.for_report.result c.fields-fields.ensures.exact
    c.route-hop.ensures.exact c.report_length-copy.ensures c.case_of_report-case.ensures c.is_some.ensures
    c.for_report.ensures
