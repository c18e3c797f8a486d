use Rattle.mta_procedures.specs.Situations.{situation}
use Rattle.mta_rules.proofs.Lengths.{not_deferred, behind_arrival, before_arrival}
use Rattle.mta_rules.proofs.length.supplied_length.Goals as goal

pub returns-in-None : goal.returns-in-None
returns-in-None c =
    not_deferred (situation c.args.tables.now c.args.arrival c.args.moment) c.args.deferral c.in-None.is

pub returns-then-arrival-deferral : goal.returns-then-arrival-deferral
returns-then-arrival-deferral c =
    behind_arrival (situation c.args.tables.now c.args.arrival c.args.moment) c.args.deferral c.in-Some.deferral
    c.in-Some.is c.if-arrival-deferral.true

pub returns-else-arrival-deferral : goal.returns-else-arrival-deferral
returns-else-arrival-deferral c =
    before_arrival (situation c.args.tables.now c.args.arrival c.args.moment) c.args.deferral c.in-Some.deferral
    c.in-Some.is c.if-arrival-deferral.false
