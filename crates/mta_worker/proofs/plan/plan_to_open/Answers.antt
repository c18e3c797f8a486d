use Rattle.std.proofs.Common.{false, subst, sym}
use Rattle.mta_worker.specs.Plans.{IsPlan}
use Rattle.mta_worker.proofs.Planning.{is_plan}
use Rattle.mta_worker.proofs.plan.plan_to_open.Goals as goal

pub returns-clause-fits : goal.returns-clause-fits
returns-clause-fits c = λ line.
    let own = c.in_ok-own.own in
    let plan = is_plan own c.args.line c.in_ok-reference.reference false c.in_ok-own.ensures.shown line in
    subst IsPlan (sym c.plan_of.ensures) plan
