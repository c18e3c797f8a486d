use Rattle.std.proofs.Common.{refl}
use Rattle.mta_dues.specs.declared.index.Index.{Index}
use Rattle.mta_dues.proofs.Indexed.{put_off}
use Rattle.mta_dues.proofs.rest.put_to_rest.Goals as goal

pub returns-clause-indexed : goal.returns-clause-indexed
returns-clause-indexed c = λ format text items item is idle indexed.
    let old = c.args.index.now in
    let new : Index = record { agenda = c.put_off.new.self; spans = old.spans; hand = old.hand; looked = old.looked } in
    put_off format text items old new c.args.number item c.args.moment c.args.until idle is
    c.put_off.ensures refl refl refl indexed

pub returns-clause-called : goal.returns-clause-called
returns-clause-called c = λ count all. c.put_off.ensures.called count all
