use Rattle.std.proofs.Common.{Err, sym, subst}
use Rattle.mta_commands.specs.declared.stop.Stop.{Stop}
use Rattle.mta_commands.specs.Serving.{Decided, IsOutcome, Refused, Well}
use Rattle.mta_commands.proofs.serving.outcome_of.Goals as goal

pub returns-in-Err : goal.returns-in-Err
returns-in-Err c =
    subst (λ (s : Stop). IsOutcome c.args.settled c.args.ends.now (Err s)) (sym c.stop_of_step.ensures)
    (Refused c.in-Err.fault c.in-Err.is)

pub returns-in-Some : goal.returns-in-Some
returns-in-Some c =
    subst (λ (s : Stop). IsOutcome c.args.settled c.args.ends.now (Err s)) (sym c.stop_of_halt.ensures)
    (Decided c.in-Some.halt c.in-Ok.is c.in-Some.ensures.found)

pub returns-in-None : goal.returns-in-None
returns-in-None c = Well c.in-Ok.is c.in-None.ensures.none
