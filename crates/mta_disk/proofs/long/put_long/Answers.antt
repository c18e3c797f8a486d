use Rattle.mta_disk.proofs.Joined.{long_goes, long_1, long_2, long_3, long_4}
use Rattle.mta_disk.proofs.long.put_long.Goals as goal

pub returns-in_err-write_at-clause-images : goal.returns-in_err-write_at-clause-images
returns-in_err-write_at-clause-images g c = λ f told.
    long_1 g.D.Disk.model g.met.D.Disk.laws c.args.gate _ c.args.body.now f _ c.to_be_bytes.ensures c.requires.settled
    told _ c.write_at.ensures.crash

pub returns-in_err-write_at-2-clause-images : goal.returns-in_err-write_at-2-clause-images
returns-in_err-write_at-2-clause-images g c = λ f told.
    long_2 g.D.Disk.model g.met.D.Disk.laws c.args.gate _ c.args.body.now f _ c.to_be_bytes.ensures c.requires.settled
    told _ _ c.write_at.ensures.crash c.write_at-2.ensures.crash

pub returns-in_err-write_at-3-clause-images : goal.returns-in_err-write_at-3-clause-images
returns-in_err-write_at-3-clause-images g c = λ f told.
    long_3 g.D.Disk.model g.met.D.Disk.laws c.args.gate _ c.args.body.now f _ c.to_be_bytes.ensures c.requires.settled
    told _ _ _ c.write_at.ensures.crash c.write_at-2.ensures.crash c.write_at-3.ensures.crash

pub returns-in_err-sync-clause-images : goal.returns-in_err-sync-clause-images
returns-in_err-sync-clause-images g c = λ f told.
    long_4 g.D.Disk.model g.met.D.Disk.laws c.args.gate _ c.args.body.now f _ c.to_be_bytes.ensures c.requires.settled
    told _ _ _ _ c.write_at.ensures.crash c.write_at-2.ensures.crash c.write_at-3.ensures.crash c.sync.ensures.crash

pub returns-clause-images : goal.returns-clause-images
returns-clause-images g c = λ f told.
    long_4 g.D.Disk.model g.met.D.Disk.laws c.args.gate _ c.args.body.now f _ c.to_be_bytes.ensures c.requires.settled
    told _ _ _ _ c.write_at.ensures.crash c.write_at-2.ensures.crash c.write_at-3.ensures.crash c.sync.ensures.crash

pub returns-clause-put : goal.returns-clause-put
returns-clause-put g c =
    long_goes c.args.gate _ c.args.body.now _ _ _ _ _ c.to_be_bytes.ensures c.requires.within
    c.in_ok-write_at.ensures.written c.in_ok-write_at-2.ensures.written c.in_ok-write_at-3.ensures.written
    c.in_ok-sync.ensures.content
