use Rattle.std.proofs.Common.{refl}
use Rattle.mta_dues.specs.declared.index.Index.{Index}
use Rattle.mta_dues.proofs.Indexed.{nothing_at_hand}
use Rattle.mta_dues.proofs.index.Index.take.Goals as goal

pub returns-in-Some-clause-indexed : goal.returns-in-Some-clause-indexed
returns-in-Some-clause-indexed c = λ format text items indexed.
    let old = c.args.self.now in
    let new : Index = record { agenda = old.agenda; spans = old.spans; hand = c.take.new.self; looked = old.looked } in
    nothing_at_hand format text items old new refl refl refl c.take.ensures.after indexed
