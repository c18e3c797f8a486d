use Rattle.mta_run.proofs.serve.outside_laws.Goals as goal

pub returns-clause-disks : goal.returns-clause-disks
returns-clause-disks g c = g.met.D.Disk.laws

pub returns-clause-clocks : goal.returns-clause-clocks
returns-clause-clocks g c = g.met.C.Clock.laws
