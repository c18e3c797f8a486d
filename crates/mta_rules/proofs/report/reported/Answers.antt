use Rattle.std.proofs.Common.{sym, subst, ◌∙◌}
use Rattle.mta_report_recipient.specs.Values.{IsReported}
use Rattle.mta_rules.proofs.Made.{reported_is_one, reported_so}
use Rattle.mta_rules.proofs.report.reported.Goals as goal

pub from_fields-requires : goal.from_fields-requires
from_fields-requires c =
    let so = reported_so c.args.arrival c.args.recipient.now c.args.outcome _ _ _ c.in_ok-name.ensures
    c.indicators_of.ensures.exact c.new.ensures in
    subst IsReported (sym so)
    (reported_is_one c.args.arrival c.args.recipient.now c.args.outcome c.requires.recipient c.requires.arrival
    c.requires.outcome)

pub returns : goal.returns
returns c =
    let so = reported_so c.args.arrival c.args.recipient.now c.args.outcome _ _ _ c.in_ok-name.ensures
    c.indicators_of.ensures.exact c.new.ensures in
    c.from_fields.ensures ∙ so
