use Rattle.mta_rules.proofs.Made.{report_none, report_some}
use Rattle.mta_rules.proofs.report.report_on.Goals as goal

pub returns-in-None : goal.returns-in-None
returns-in-None c =
    report_none c.args.tables.now c.args.number c.args.arrival c.args.subject.now c.fields.result.now
    c.args.recipient.now c.args.outcome c.in-None.ensures c.fields.ensures.exact

pub returns-in_ok-report-in-Some : goal.returns-in_ok-report-in-Some
returns-in_ok-report-in-Some c =
    report_some c.args.tables.now c.args.number c.args.arrival c.args.subject.now c.fields.result.now
    c.args.recipient.now c.args.outcome c.domain-domain.result.now c.in-Some.name.now c.in_ok-report-in-Some.report
    c.in-Some.ensures c.fields.ensures.exact c.domain-domain.ensures c.in_ok-report-in-Some.ensures
