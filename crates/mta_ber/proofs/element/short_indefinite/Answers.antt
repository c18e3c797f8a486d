use Rattle.mta_ber.proofs.Short.{row_in}
use Rattle.mta_ber.proofs.element.short_indefinite.Goals as goal

pub returns-then-count-clause-row : goal.returns-then-count-clause-row
returns-then-count-clause-row c =
    row_in c.args.bytes.now c.in-len2-up.len_at_least c.if-first-eq1.true c.if-first-lt31.true c.if-count.true
