use Rattle.mta_store_run.proofs.Acted.{acted_refused}
use Rattle.mta_store_run.proofs.run.act_on.Goals as goal

pub returns-in-Err : goal.returns-in-Err
returns-in-Err g c =
    rw c.stop_of_marks.ensures
    (acted_refused g.E.Disk.model g.met.E.Disk.laws c.args.asked.now c.requires c.args.spool.now.current c.args.marks
    c.in-Err.field-0.disk c.in-Err.field-0.why c.in-Err.ensures.refused)

pub act-requires-clause-plain : goal.act-requires-clause-plain
act-requires-clause-plain g c = c.in-Ok.ensures.opened.held.plain

pub returns-in-Ok : goal.returns-in-Ok
returns-in-Ok g c = c.act.ensures c.args.marks c.in-Ok.ensures.opened
