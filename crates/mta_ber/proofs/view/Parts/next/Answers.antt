use Rattle.std.proofs.Common.{◌+◌}
use Rattle.mta_ber.proofs.FirstLaws.{next_found, next_lent, next_only}
use Rattle.mta_ber.proofs.view.Parts.next.Goals as goal

pub returns-clause-found : goal.returns-clause-found
returns-clause-found c = next_found c.args.self.now.at
    (c.args.self.now.depth + 1) c.args.self.now.left.now c.next_of.result c.args.self.now.bytes c.next_of.ensures.exact

pub returns-clause-only : goal.returns-clause-only
returns-clause-only c = next_only c.args.self.now.at
    (c.args.self.now.depth + 1) c.args.self.now.left.now c.next_of.result c.next_of.ensures.exact

pub returns-clause-lent : goal.returns-clause-lent
returns-clause-lent c = next_lent c.args.self.now.at
    (c.args.self.now.depth + 1) c.args.self.now.left.now c.next_of.result c.args.self.now.bytes c.next_of.ensures.exact
