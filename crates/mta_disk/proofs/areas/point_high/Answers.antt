use Rattle.std.proofs.Common.{inl}
use Rattle.mta_edge.specs.Outside.{Torn}
use Rattle.mta_edge.proofs.Moments.{weaken}
use Rattle.mta_edge.proofs.Logged.{Torn-same}
use Rattle.mta_disk.specs.Records.{IsTornAt}
use Rattle.mta_disk.proofs.Writing.{eight, wrote, wrote_both, goes_still}
use Rattle.mta_disk.proofs.areas.point_high.Goals as goal

pub returns-in_err-write_at-clause-images : goal.returns-in_err-write_at-clause-images
returns-in_err-write_at-clause-images g c = λ f told.
    weaken g.D.Disk.model (Torn 15 8 f) (IsTornAt c.args.e f) _ _ (λ h torn. (h, torn, Torn-same c.args.e 1 h))
    (wrote g.D.Disk.model g.met.D.Disk.laws _ _ _ _ f c.requires.settled told
    (eight g.D.Disk.model g.met.D.Disk.laws c.args.e _ _ _ c.to_be_bytes.ensures c.write_at.ensures.crash))

pub returns-in_err-write_at-2-clause-images : goal.returns-in_err-write_at-2-clause-images
returns-in_err-write_at-2-clause-images g c = λ f told.
    wrote_both g.D.Disk.model g.met.D.Disk.laws _ _ _ _ f c.requires.settled told
    (eight g.D.Disk.model g.met.D.Disk.laws c.args.e _ _ _ c.to_be_bytes.ensures c.write_at.ensures.crash)
    c.write_at-2.ensures.crash

pub returns-in_err-sync-clause-images : goal.returns-in_err-sync-clause-images
returns-in_err-sync-clause-images g c = λ f told.
    goes_still g.D.Disk.model g.met.D.Disk.laws (IsTornAt c.args.e f) _ _ _
    (wrote_both g.D.Disk.model g.met.D.Disk.laws _ _ _ _ f c.requires.settled told
    (eight g.D.Disk.model g.met.D.Disk.laws c.args.e _ _ _ c.to_be_bytes.ensures c.write_at.ensures.crash)
    c.write_at-2.ensures.crash) c.sync.ensures.crash

pub returns-clause-images : goal.returns-clause-images
returns-clause-images g c = λ f told.
    goes_still g.D.Disk.model g.met.D.Disk.laws (IsTornAt c.args.e f) _ _ _
    (wrote_both g.D.Disk.model g.met.D.Disk.laws _ _ _ _ f c.requires.settled told
    (eight g.D.Disk.model g.met.D.Disk.laws c.args.e _ _ _ c.to_be_bytes.ensures c.write_at.ensures.crash)
    c.write_at-2.ensures.crash) c.sync.ensures.crash
