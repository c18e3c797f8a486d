use Rattle.mta_ber.specs.Seen.{view}
use Rattle.mta_ber.proofs.LentLaws.{inner_found, inner_lent, inner_only}
use Rattle.mta_ber.proofs.view.View.inner.Goals as goal

pub returns-clause-found : goal.returns-clause-found
returns-clause-found c = inner_found (view c.args.self.now) c.inner_of.result c.args.self.now.bytes
    c.inner_of.ensures.exact

pub returns-clause-lent : goal.returns-clause-lent
returns-clause-lent c = inner_lent (view c.args.self.now) c.inner_of.result c.args.self.now.bytes
    c.inner_of.ensures.exact

pub returns-clause-only : goal.returns-clause-only
returns-clause-only c = inner_only (view c.args.self.now) c.inner_of.result c.inner_of.ensures.exact
