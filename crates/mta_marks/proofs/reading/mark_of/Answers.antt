use Rattle.std.proofs.Common.{arith}
use Rattle.mta_marks.proofs.Entries.{read_found, read_none}
use Rattle.mta_marks.proofs.reading.mark_of.Goals as goal

pub returns-clause-found : goal.returns-clause-found
returns-clause-found c =
    read_found c.read_mark.result c.args.body.now (λ i. omega (arith, c.type_inv.body i)) c.read_mark.ensures

pub returns-clause-none : goal.returns-clause-none
returns-clause-none c = read_none c.read_mark.result c.args.body.now c.read_mark.ensures
