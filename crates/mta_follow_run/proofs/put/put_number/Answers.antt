use Rattle.std.proofs.Common.{List, subst, ℕ}
use Rattle.mta_follow_run.specs.Talks.{HasPut}
use Rattle.mta_follow_run.proofs.put.put_number.Goals as goal

pub returns : goal.returns
returns g c =
    subst (λ (l : List ℕ). HasPut g.L.Link.model l c.args.link.now c.put_all.new.link c.put_all.result)
    c.number_unit.ensures c.put_all.ensures
