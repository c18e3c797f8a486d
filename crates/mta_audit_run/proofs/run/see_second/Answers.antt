use Rattle.mta_audit_run.proofs.Compared.{seen_opened, seen_refused}
use Rattle.mta_audit_run.proofs.run.see_second.Goals as goal

pub returns-in-Ok : goal.returns-in-Ok
returns-in-Ok g c =
    seen_opened g.E.Disk.model g.met.E.Disk.laws c.args.first.now c.args.second c.in-Ok.field-0.disk
    c.in-Ok.field-0.side c.outcome_of.result c.in-Ok.ensures.opened c.outcome_of.ensures

pub returns-in-Err : goal.returns-in-Err
returns-in-Err g c =
    rw c.stop_of_open.ensures
    (seen_refused g.E.Disk.model g.met.E.Disk.laws c.args.first.now c.args.second c.in-Err.field-0.disk
    c.in-Err.field-0.why c.in-Err.ensures.refused)
