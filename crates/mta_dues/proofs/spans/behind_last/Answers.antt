use Rattle.std.proofs.Common.{Err, arith}
use Rattle.std.proofs.lemmas.List.Sorted.{searched}
use Rattle.mta_dues.proofs.spans.behind_last.Goals as goal

pub returns-in-Err-clause-below : goal.returns-in-Err-clause-below
returns-in-Err-clause-below c = λ k less.
    let found = searched c.args.numbers.now c.args.last (Err c.in-Err.place) c.in-Err.ensures.position c.requires in
    let low = found.1 k less in
    omega (arith, low)
