use Rattle.mta_dues.proofs.Indexed.{with_agenda}
use Rattle.mta_dues.proofs.index.Index.recall.Goals as goal

pub returns : goal.returns
returns c = λ format text items indexed.
    with_agenda format text items c.args.self.now c.recall.new.self c.recall.ensures indexed
