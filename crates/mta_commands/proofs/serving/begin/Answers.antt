use Rattle.std.proofs.Common.{[], subst}
use Rattle.mta_commands.proofs.Beginning.{begun, not_recorded}
use Rattle.mta_commands.proofs.Stored.{recording}
use Rattle.mta_commands.proofs.serving.begin.Goals as goal

pub settle-requires-clause-stands : goal.settle-requires-clause-stands
settle-requires-clause-stands g c =
    let tells = g.C.Clock.model.tells c.args.spool.now.clock in
    let r = recording g.D.Disk.model g.met.D.Disk.laws tells c.args.tables.now.text [] c.args.spool.now
    c.set_tables.new.self c.requires.stands c.requires.going c.in-Ok.ensures.records in
    (_, r.1.adds.stands (λ e. e) c.requires.stands.0 c.requires.stands.1)

pub returns-in-Ok-clause-begun : goal.returns-in-Ok-clause-begun
returns-in-Ok-clause-begun g c =
    let tells = g.C.Clock.model.tells c.args.spool.now.clock in
    let r = recording g.D.Disk.model g.met.D.Disk.laws tells c.args.tables.now.text [] c.args.spool.now
    c.set_tables.new.self c.requires.stands c.requires.going c.in-Ok.ensures.records in
    begun g.D.Disk.model g.met.D.Disk.laws g.C.Clock.model c.args.tables.now.text c.args.spool.now
    c.set_tables.new.self c.settle.new.spool r.0 c.settle.result r.1
    (λ m tell. subst (λ k. g.C.Clock.model.tells k m) c.set_tables.ensures.clock tell) c.settle.ensures.settled

pub returns-in-Err-clause-begun : goal.returns-in-Err-clause-begun
returns-in-Err-clause-begun g c =
    not_recorded g.D.Disk.model g.met.D.Disk.laws g.C.Clock.model c.args.tables.now.text c.args.spool.now
    c.set_tables.new.self c.in-Err.fault c.requires.going c.in-Err.ensures.no_lane c.in-Err.ensures.records

pub returns-in-Ok-clause-keeps : goal.returns-in-Ok-clause-keeps
returns-in-Ok-clause-keeps g c base k = c.settle.ensures.keeps base (c.set_tables.ensures.keeps base k)
