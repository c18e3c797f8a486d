use Rattle.std.proofs.Common.{Vec, Global, ap, refl}
use Rattle.mta_output.specs.Output.{output}
use Rattle.mta_run.specs.Served.{No_workers}
use Rattle.mta_commands.proofs.Finishing.{begun_no_lane}
use Rattle.mta_run.proofs.SpoolServed.{keeps_same, not_begun, served, unserved}
use Rattle.mta_run.proofs.serve.serve_spool.Goals as goal
use Rattle.mta_run.proofs.serve.serve_spool.Goals.{then-refused, else-refused}

pub stop_of_step-requires : goal.stop_of_step-requires
stop_of_step-requires g c =
    begun_no_lane (g.C.Clock.model.tells c.args.spool.clock) c.args.tables.now.text c.begin.new.spool.current
    c.begin.new.spool.journal.size _ c.in-Err.fault (c.in-Err.ensures.begun.refused c.in-Err.fault refl)

pub returns-in-Err-clause-served : goal.returns-in-Err-clause-served
returns-in-Err-clause-served g c =
    not_begun g.D.Disk.model g.C.Clock.model g.S.Link.Link.model g.S.Station.model c.args.sessions
    c.args.tables.now.text (output g.O.Sink.model c.args.out.now c.args.out.now) c.args.spool c.begin.new.spool
    c.args.stations.items c.stopped.result.stations.items c.stopped.result.ended.disk c.stopped.result.ended.outcome
    c.in-Err.fault c.stop_of_step.result c.in-Err.ensures.begun c.stopped.ensures.disk
    (ap (λ (v : Vec g.row.S.Denot Global). v.items) c.stopped.ensures.stations) refl
    c.stop_of_step.ensures c.stopped.ensures.outcome

pub returns-then-len-gt-MOST_STATIONS-clause-served : goal.returns-then-len-gt-MOST_STATIONS-clause-served
returns-then-len-gt-MOST_STATIONS-clause-served g c =
    let s = c.stopped-then-len-gt-MOST_STATIONS in
    unserved g.D.Disk.model g.C.Clock.model g.S.Link.Link.model g.S.Station.model c.args.sessions
    c.args.tables.now.text (output g.O.Sink.model c.args.out.now c.args.out.now) c.args.spool c.begin.new.spool
    c.args.stations.items s.result.stations.items s.result.ended.disk s.result.ended.outcome
    c.in_default.ensures.begun s.ensures.disk
    (ap (λ (v : Vec g.row.S.Denot Global). v.items) s.ensures.stations) refl s.ensures.outcome

pub work_side_by_side-spool-requires-clause-keeps : goal.work_side_by_side-spool-requires-clause-keeps
work_side_by_side-spool-requires-clause-keeps g c κs within =
    keeps_same g.D.Disk.model g.C.Clock.model c.args.spool c.begin.new.spool c.in_default.ensures.opened
    (c.in_default.ensures.keeps _ c.requires.keeps)

pub returns-clause-served : goal.returns-clause-served
returns-clause-served g c =
    let w = c.work_side_by_side-spool in
    elim c.if-refused.branch [
      | then-refused b ↦
          let r = w.ensures.refused b.if-refused.true in
          rw (b.outcome-is, b.out-is, c.end.ensures, b.spool-is, r.0, r.1)
          (No_workers c.begin.new.spool c.in_default.ensures.begun refl refl refl)
      | else-refused b ↦
          let f = b.finish-outcome in
          rw (b.out-is, c.end.ensures, b.spool-is)
          (served g.D.Disk.model g.C.Clock.model g.S.Link.Link.model g.S.Station.model c.args.sessions
          c.args.tables.now.text (output g.O.Sink.model c.args.out.now f.new.out) c.args.spool c.begin.new.spool
          c.args.stations.items w.result.stations.items f.new.spool.journal.disk c.if-refused.outcome w.result.spool
          f.new.spool w.result.ends.items b.as_slice.result.now f.result c.in_default.ensures.begun
          c.in_default.ensures.opened w.ensures.grows w.ensures.keeps (w.ensures.workers b.if-refused.false)
          (refl, refl) b.as_slice.ensures.value f.ensures.finished f.ensures.keeps refl b.outcome-is)
    ]
