use Rattle.std.proofs.Common.{arith}
use Rattle.std.proofs.lemmas.Option.{slice_get_within}
use Rattle.mta_rehearse_run.proofs.twice.first_twice.Goals as goal

pub returns : goal.returns
returns c = λ place twice.
    let there = slice_get_within c.args.agents.now place twice.same.second twice.same.here.found in
    c.loop-place.invariant place (omega (arith, there)) twice
