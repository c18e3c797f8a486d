use Rattle.std.proofs.Common.{◌++◌, map, reverse, length, All, sym, ap, ◌∙◌, subst}
use mathlib.Core.List.{IsPrefix}
use Rattle.mta_shared.specs.Passes.{lock_of}
use Rattle.mta_shared.proofs.Fronts.{prefix_self}
use Rattle.mta_worker.specs.Jobs.{end_of, IsDealt, IsDone, owned_by, SawFront, station_of}
use Rattle.mta_worker.proofs.Gathering.{written}
use Rattle.mta_worker.proofs.Along.{all_done, workers_of}
use Rattle.mta_worker.proofs.side.work_side_by_side.Goals as goal

pub gather-requires-clause-ready : goal.gather-requires-clause-ready
gather-requires-clause-ready g c =
    let w = written c.do_jobs.new.jobs c.deal.new.jobs.items c.deal.new.jobs.len c.deal.new.jobs.ok.0
    (c.do_jobs.auto.jobs ∙ ap length c.as_mut_slice.ensures.value) in (
      c.deal.ensures.main.0,
      subst (λ l. All (IsDone (lock_of c.in-Ok-open.shared)) l) (sym w)
          (all_done g.D.Disk.model g.C.Clock.model g.S.Link.Link.model g.S.Station.model c.args.limits.now
          (lock_of c.in-Ok-open.shared) c.as_mut_slice.result.now c.do_jobs.new.jobs (sym c.do_jobs.auto.jobs)
          c.do_jobs.ensures),
    )

pub returns-in-Ok-open-clause-workers : goal.returns-in-Ok-open-clause-workers
returns-in-Ok-open-clause-workers g c _ =
    let d = c.deal.ensures in
    let h = c.gather.ensures in
    let k = c.close.ensures in
    let o = c.in-Ok-open.ensures in
    let w = written c.do_jobs.new.jobs c.deal.new.jobs.items c.deal.new.jobs.len c.deal.new.jobs.ok.0
    (c.do_jobs.auto.jobs ∙ ap length c.as_mut_slice.ensures.value) in
    workers_of g.D.Disk.model g.C.Clock.model g.S.Link.Link.model g.S.Station.model c.args.limits.now
    (lock_of c.in-Ok-open.shared) c.as_mut_slice.result.now c.do_jobs.new.jobs (sym c.do_jobs.auto.jobs)
    c.do_jobs.ensures c.in-Ok-open.main c.args.stations.items c.gather.new.stations.items c.gather.new.ends.items
    c.args.spool.entries _ c.close.result.entries c.gather.new.main.seen c.deal.new.main.own c.gather.new.main.own
    (subst (λ l. All (IsDealt (lock_of c.in-Ok-open.shared) c.in-Ok-open.main) l)
    (sym c.as_mut_slice.ensures.value) d.dealt)
    (ap (λ h. h.seen) o.opened) (ap (λ h. h.base) o.opened)
    (ap (λ l. reverse (map station_of l)) c.as_mut_slice.ensures.value ∙ d.stations.1)
    (h.stations ∙ ap (λ l. reverse (map station_of l)) w)
    (h.ends ∙ ap (λ l. reverse (map end_of l)) w)
    (d.main.3 ∙ ap (λ h. h.own) o.opened)
    (h.own ∙ ap (λ l. c.deal.new.main.own ++ owned_by l) w)
    k.own k.history
    (subst (λ l. All (SawFront c.gather.new.main.seen) l) w h.seen)

pub returns-in-Err-clause-grows : goal.returns-in-Err-clause-grows
returns-in-Err-clause-grows g c =
    subst (λ s. IsPrefix c.args.spool.entries s.entries) (sym c.in-Err.ensures.refused)
    (prefix_self c.args.spool.entries)
