use Rattle.mta_worker.proofs.Calling.{link_called}
use Rattle.mta_worker.proofs.Hearing.{link_heard}
use Rattle.mta_worker.proofs.serving.serve_link.Goals as goal

pub returns-in-In-clause-served : goal.returns-in-In-clause-served
returns-in-In-clause-served g c =
    link_heard g.D.Disk.model g.C.Clock.model g.L.Link.model c.args.limits.now.units c.args.role.now c.args.pass.now
    c.listen.new.pass c.args.link.now c.listen.new.link c.listen.result c.in-In.is c.listen.ensures.listened

pub returns-in-Out-clause-served : goal.returns-in-Out-clause-served
returns-in-Out-clause-served g c =
    link_called g.D.Disk.model g.C.Clock.model g.L.Link.model c.in-Out.peer c.args.limits.now.units
    c.args.role.now c.args.pass.now c.call.new.pass c.args.link.now c.call.new.link c.call.result c.in-Out.is
    c.call.ensures.called
