use Rattle.mta_spool.proofs.Turns.{turns_along}
use Rattle.mta_spool.proofs.spool.Spool.turn_at.Goals as goal

pub returns-in-Some-clause-turned : goal.returns-in-Some-clause-turned
returns-in-Some-clause-turned g c =
    turns_along g.D.Disk.model c.args.moment c.args.self.now c.find_due.new.self c.make_due.new.self
    c.make_due.result c.in_ok-find_due.ensures.same c.make_due.ensures.turned
