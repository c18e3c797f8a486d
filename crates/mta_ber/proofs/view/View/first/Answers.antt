use Rattle.std.proofs.Common.{arith}
use Rattle.mta_ber.proofs.FirstLaws.{first_found, first_lent, first_only}
use Rattle.mta_ber.proofs.view.View.first.Goals as goal

pub returns-clause-found : goal.returns-clause-found
returns-clause-found c = first_found c.args.at c.args.bytes.now c.first_of.result
    (λ i. omega (arith, c.type_inv.bytes i)) c.first_of.ensures.exact

pub returns-clause-lent : goal.returns-clause-lent
returns-clause-lent c = first_lent c.args.at c.args.bytes.now c.first_of.result
    (λ i. omega (arith, c.type_inv.bytes i)) c.first_of.ensures.exact

pub returns-clause-only : goal.returns-clause-only
returns-clause-only c = first_only c.args.at c.args.bytes.now c.first_of.result c.first_of.ensures.exact
