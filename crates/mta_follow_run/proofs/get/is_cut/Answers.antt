use Rattle.mta_follow_units.specs.Look.{Cut}
use Rattle.mta_follow_run.proofs.Getting.{alone_at}
use Rattle.mta_follow_run.proofs.get.is_cut.Goals as goal

pub returns-in-Cut-clause-cut : goal.returns-in-Cut-clause-cut
returns-in-Cut-clause-cut c = λ e.
    alone_at c.args.due Cut c.args.reader.now.left c.in-Cut.ensures.exact c.look.ensures.stands
