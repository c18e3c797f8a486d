use Rattle.std.proofs.Common.{Some, refl}
use Rattle.mta_dues.specs.declared.index.Index.{Index}
use Rattle.mta_dues.specs.declared.looked.Looked.{Looked}
use Rattle.mta_dues.proofs.Indexed.{looked_at}
use Rattle.mta_dues.proofs.index.Index.keep_idle.Goals as goal

pub returns-clause-indexed : goal.returns-clause-indexed
returns-clause-indexed c = λ format text items item item_is idle indexed.
    let old = c.args.self.now in
    let looked : Looked = record {
      number = c.args.number;
      most = c.args.most;
      from = c.args.moment;
      until = c.args.until;
    } in
    let new : Index = record { agenda = old.agenda; spans = old.spans; hand = old.hand; looked = Some looked } in
    looked_at format text items old new looked item refl refl refl refl item_is idle indexed
