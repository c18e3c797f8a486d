use Rattle.std.proofs.Common.{List, refl, subst, sym, ℕ}
use Rattle.mta_follow_run.specs.Opened.{IsSpool}
use Rattle.mta_follow_run.specs.Outcome.{PushesOver, not_pushed, was_pushed}
use Rattle.mta_follow_run.proofs.run.send.Goals as goal

pub returns-in-Ok : goal.returns-in-Ok
returns-in-Ok g c =
    was_pushed c.in-Ok.records.bodies.items c.push_over-outcome.result
    (subst (λ d. IsSpool g.D.Disk.model c.args.disk d c.in-Ok.records.bodies.items) (sym c.end.ensures)
    c.in-Ok.ensures.spool)
    (subst (λ (l : List (List ℕ)). PushesOver g.S.Link.Link.model g.S.Station.model l c.args.station
    c.push_over-outcome.new.station c.push_over-outcome.result) c.as_slice.ensures.value c.push_over-outcome.ensures)

pub returns-in-Err : goal.returns-in-Err
returns-in-Err g c = not_pushed c.in-Err.refused.stop c.in-Err.ensures.none refl
