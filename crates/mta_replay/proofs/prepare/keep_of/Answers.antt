use Rattle.mta_replay.proofs.prepare.keep_of.Goals as goal

pub returns : goal.returns
returns c = λ format text items item_is indexed.
    c.keep.ensures.indexed format text items c.args.item.now item_is c.requires indexed
