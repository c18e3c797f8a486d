use Rattle.std.proofs.Common.{refl}
use Rattle.mta_shared.specs.Passes.{lock_of}
use Rattle.mta_worker.proofs.Along.{job_done}
use Rattle.mta_worker.proofs.side.do_job.Goals as goal

pub returns : goal.returns
returns g c =
    let e = c.work-end.ensures in
    rw (c.close.ensures)
    (job_done g.D.Disk.model g.C.Clock.model g.S.Link.Link.model g.S.Station.model c.args.limits.now
    (lock_of c.args.shared.now) c.args.job.now _ c.work-end.result c.requires e.worked e.did e.out refl)
