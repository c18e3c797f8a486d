use Rattle.std.proofs.Common.{arith}
use Rattle.mta_follow_run.specs.Taking.{no_more, some_more}
use Rattle.mta_follow_run.proofs.take.end_records.Goals as goal

pub returns-then-kept-got : goal.returns-then-kept-got
returns-then-kept-got c = some_more (omega (arith, c.if-kept-got.true))

pub returns-else-kept-got : goal.returns-else-kept-got
returns-else-kept-got c = no_more (omega (arith, c.if-kept-got.false))
