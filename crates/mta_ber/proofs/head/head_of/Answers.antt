use Rattle.std.proofs.Common.{arith}
use Rattle.mta_ber.proofs.HeadLaws.{head_octets}
use Rattle.mta_ber.proofs.head.head_of.Goals as goal

pub returns-clause-bytes : goal.returns-clause-bytes
returns-clause-bytes c = head_octets c.args.at c.args.depth c.args.bytes.now c.head_from.result
    (λ i. omega (arith, c.type_inv.bytes i)) c.head_from.ensures.exact
