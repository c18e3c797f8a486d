use Rattle.std.proofs.Common.{Some, refl}
use Rattle.mta_dues.specs.declared.hand.Hand.{Hand}
use Rattle.mta_dues.specs.declared.index.Index.{Index}
use Rattle.mta_dues.proofs.Indexed.{one_at_hand}
use Rattle.mta_dues.proofs.index.Index.keep_decoded.Goals as goal

pub returns-clause-indexed : goal.returns-clause-indexed
returns-clause-indexed c = λ format text items item item_is decoded indexed.
    let old = c.args.self.now in
    let hand : Hand = record { number = c.args.number; decoded = c.args.decoded } in
    let new : Index = record { agenda = old.agenda; spans = old.spans; hand = Some hand; looked = old.looked } in
    one_at_hand format text items old new hand item refl refl refl refl item_is decoded indexed
