use Rattle.mta_ber.proofs.Short.{size_in}
use Rattle.mta_ber.proofs.element.short_primitive.Goals as goal

pub returns-then-count-rest-clause-size : goal.returns-then-count-rest-clause-size
returns-then-count-rest-clause-size c =
    size_in c.args.bytes.now c.in-len2-up.len_at_least c.if-first-lt31.true c.if-count-lt128.true c.if-count-rest.true
