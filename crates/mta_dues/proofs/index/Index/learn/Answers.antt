use Rattle.std.proofs.Common.{refl}
use Rattle.mta_dues.specs.declared.index.Index.{Index}
use Rattle.mta_dues.proofs.Indexed.{learnt}
use Rattle.mta_dues.proofs.index.Index.learn.Goals as goal

pub returns-clause-indexed : goal.returns-clause-indexed
returns-clause-indexed c = λ format text items item item_is within indexed.
    let old = c.args.self.now in
    let new : Index = record { agenda = old.agenda; spans = c.learn.new.self; hand = old.hand; looked = old.looked } in
    learnt format text items old new c.args.number item c.args.span c.learn.ensures refl refl refl item_is within indexed
