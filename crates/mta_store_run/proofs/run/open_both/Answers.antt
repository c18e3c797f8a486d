use Rattle.mta_store_run.proofs.Done.{done_opened, done_refused}
use Rattle.mta_store_run.proofs.run.open_both.Goals as goal

pub returns-in-Ok : goal.returns-in-Ok
returns-in-Ok g c =
    rw c.end.ensures
    (done_opened g.D.Disk.model g.E.Disk.model g.met.D.Disk.laws g.met.E.Disk.laws c.args.asked.now c.args.spool
    c.in-Ok.spool c.in-Ok.ensures.opened c.args.marks c.act_on-outcome.result.marks c.act_on-outcome.result.outcome
    c.act_on-outcome.ensures)

pub returns : goal.returns
returns g c =
    rw c.stop_of_open.ensures
    (done_refused g.D.Disk.model g.E.Disk.model g.met.D.Disk.laws g.met.E.Disk.laws c.args.asked.now c.args.spool
    c.in-Err.field-0.disk c.args.marks c.in-Err.field-0.why c.in-Err.ensures.refused)
