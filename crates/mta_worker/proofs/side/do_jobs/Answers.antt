use mathlib.Core.List.{[]}
use mir.Syntax.{named}
use denote.Param.{param}
use denote.Param.Send.{IsSync, sendable}
use denote.Struct.Field.{shr_ref_field}
use Rattle.std.proofs.Crossing.{crosses}
use Rattle.std.specs.contracts.alloc.Global as heap
use Rattle.mta_shared.specs.contracts.lock.Shared as shared
use Rattle.mta_records.specs.contracts.step.Step as step
use Rattle.mta_session.specs.contracts.limits.Limits as limits
use Rattle.mta_spool.specs.contracts.spool.Spool as spool
use Rattle.mta_spool.specs.contracts.historied.SpoolHistoried.TheImpl.{ghosts, no_dict}
use Rattle.mta_spool.proofs.Crossing.{spool_send}
use Rattle.mta_worker.proofs.Crossing.{captures_sync, shared_sync}
use Rattle.std.proofs.Common.{subst}
use Rattle.mta_shared.specs.Passes.{lock_of}
use Rattle.mta_worker.specs.declared.jobs.Job.{Job}
use Rattle.mta_worker.specs.Jobs.{JobDone}
use Rattle.mta_worker.proofs.side.do_jobs.Goals as goal

pub returns : goal.returns
returns g c i d h =
    let e = (c.for_each_mut.ensures i d h).1 in
    subst (λ (p : Job g.row.S.Denot × Job g.row.S.Denot).
    JobDone g.D.Disk.model g.C.Clock.model g.S.Link.Link.model g.S.Station.model c.args.limits.now
    (lock_of c.args.shared.now) p.0 p.1) (λ k. (e.argument_is k, e.left k)) e.call

-- The closure is shared by the threads, and through the lock a spool goes from one to another.
pub for_each_mut-requires-sync-F : goal.for_each_mut-requires-sync-F
for_each_mut-requires-sync-F g c κs within =
    let r : IsSync (shr_ref_field (record { mir = named 6; lft = κs.1.1.1.1.1.1.0 }) (param 0 g.row.R) tt).row =
    search sendable depth 20 in
    let a : IsSync (shr_ref_field (record { mir = named 7; lft = κs.1.1.1.1.1.1.1.0 }) heap.the_row tt).row =
    search (crosses, sendable) depth 20 in
    let s : IsSync (shr_ref_field (record { mir = named 8; lft = κs.1.1.1.1.1.1.1.1.0 })
    (shared.the_row (spool.the_row (param 1 g.row.D) (param 2 g.row.C) g.D.Disk g.C.Clock) step.the_row
    (ghosts (param 1 g.row.D) (param 2 g.row.C) g.D.Disk no_dict g.C.Clock no_dict no_dict no_dict)) tt).row =
    search (shared_sync, spool_send, sendable) depth 20 in
    let l : IsSync (shr_ref_field (record { mir = named 9; lft = κs.1.1.1.1.1.1.1.1.1.0 }) limits.the_row tt).row =
    search sendable depth 20 in
    let all = captures_sync [] _ _ _ _ r a s l in
    record { shared = all.shared }
