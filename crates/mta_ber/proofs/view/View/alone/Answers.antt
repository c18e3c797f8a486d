use Rattle.mta_ber.specs.Seen.{view}
use Rattle.mta_ber.proofs.LentLaws.{alone_found, alone_only, alone_behind}
use Rattle.mta_ber.proofs.view.View.alone.Goals as goal

pub returns-clause-found : goal.returns-clause-found
returns-clause-found c = alone_found (view c.args.self.now) c.alone_of.result c.alone_of.ensures

pub returns-clause-only : goal.returns-clause-only
returns-clause-only c = alone_only (view c.args.self.now) c.alone_of.result c.alone_of.ensures

pub returns-clause-behind : goal.returns-clause-behind
returns-clause-behind c = alone_behind (view c.args.self.now) c.alone_of.result c.alone_of.ensures
