use Rattle.mta_ber.specs.Seen.{view}
use Rattle.mta_ber.proofs.LentLaws.{oid_found, oid_only}
use Rattle.mta_ber.proofs.view.View.oid.Goals as goal

pub returns-clause-found : goal.returns-clause-found
returns-clause-found c = oid_found (view c.args.self.now) c.oid_of.result c.oid_of.ensures.exact

pub returns-clause-only : goal.returns-clause-only
returns-clause-only c = oid_only (view c.args.self.now) c.oid_of.result c.oid_of.ensures.exact
