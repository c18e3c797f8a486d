use Rattle.mta_disk.proofs.Writing.{cut, cut_synced}
use Rattle.mta_disk.proofs.cut.cut_to.Goals as goal

pub returns-in_err-cut-clause-images : goal.returns-in_err-cut-clause-images
returns-in_err-cut-clause-images g c = λ f told.
    cut g.D.Disk.model g.met.D.Disk.laws _ _ _ f c.requires.settled told c.cut.ensures.crash

pub returns-in_err-sync-clause-images : goal.returns-in_err-sync-clause-images
returns-in_err-sync-clause-images g c = λ f told.
    cut_synced g.D.Disk.model g.met.D.Disk.laws _ _ _ _ f c.requires.settled told c.cut.ensures.crash
    c.sync.ensures.crash

pub returns-clause-images : goal.returns-clause-images
returns-clause-images g c = λ f told.
    cut_synced g.D.Disk.model g.met.D.Disk.laws _ _ _ _ f c.requires.settled told c.cut.ensures.crash
    c.sync.ensures.crash
