use Rattle.std.proofs.Common.{List, refl, subst, sym, ℕ}
use Rattle.mta_follow_run.specs.Outcome.{PullsOver, followed, not_opened}
use Rattle.mta_follow_run.proofs.run.get.Goals as goal

pub returns-in-Ok : goal.returns-in-Ok
returns-in-Ok g c =
    followed c.in-Ok.records.bodies.items c.in-Ok.records.journal c.follow_over-outcome.new.journal
    c.follow_over-outcome.result.ended c.in-Ok.ensures.standby (sym c.end.ensures)
    (subst (λ (l : List (List ℕ)). PullsOver g.D.Disk.model g.S.Link.Link.model g.S.Station.model l
    c.in-Ok.records.journal
    c.follow_over-outcome.new.journal c.args.station c.follow_over-outcome.new.station
    c.follow_over-outcome.result.kept c.follow_over-outcome.result.ended) c.as_slice.ensures.value
    c.follow_over-outcome.ensures)

pub returns-in-Err : goal.returns-in-Err
returns-in-Err g c = not_opened c.in-Err.refused.stop c.in-Err.ensures.none refl refl
