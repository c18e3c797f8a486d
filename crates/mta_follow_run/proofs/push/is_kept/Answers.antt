use Rattle.mta_follow_units.specs.Look.{Bad, Done, Kept, Record}
use Rattle.mta_follow_units.specs.declared.due.Due.TheVariants as due
use Rattle.mta_follow_run.proofs.Getting.{alone_at}
use Rattle.mta_follow_run.proofs.push.is_kept.Goals as goal

pub returns-in-Kept-clause-kept : goal.returns-in-Kept-clause-kept
returns-in-Kept-clause-kept c = λ e.
    alone_at (due.Kept c.args.number) Kept c.args.reader.now.left c.in-Kept.ensures.exact c.look.ensures.stands

pub returns-in-Bad-clause-other : goal.returns-in-Bad-clause-other
returns-in-Bad-clause-other c = λ e.
    alone_at (due.Kept c.args.number) Bad c.args.reader.now.left c.in-Bad.ensures.exact c.look.ensures.stands

pub returns-in-Cut-clause-other : goal.returns-in-Cut-clause-other
returns-in-Cut-clause-other c = λ e. absurd (c.requires c.in-Cut.ensures.exact)

pub returns-in-Record-clause-other : goal.returns-in-Record-clause-other
returns-in-Record-clause-other c = λ e.
    absurd (alone_at (due.Kept c.args.number) (Record c.in-Record.field-0.now) c.args.reader.now.left
    c.in-Record.ensures.exact c.look.ensures.stands)

pub returns-in-Done-clause-other : goal.returns-in-Done-clause-other
returns-in-Done-clause-other c = λ e.
    absurd (alone_at (due.Kept c.args.number) Done c.args.reader.now.left c.in-Done.ensures.exact
    c.look.ensures.stands)
