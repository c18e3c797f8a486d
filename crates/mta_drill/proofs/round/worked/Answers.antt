use Rattle.mta_drill.proofs.round.worked.Goals as goal

pub returns : goal.returns
returns c = λ few works is other_works other_is.
    c.transfer.ensures few (c.in_ok-prepare_first.ensures few works is)
    (c.in_ok-prepare_second.ensures c.args.before other_works other_is)
