use Rattle.mta_dues.proofs.index.Index.keep.Goals as goal

pub returns-clause-indexed : goal.returns-clause-indexed
returns-clause-indexed c = λ format text items item item_is reading indexed.
    c.keep_decoded.ensures.indexed format text items item item_is (c.detach-decoded.ensures item.octets reading)
    indexed
