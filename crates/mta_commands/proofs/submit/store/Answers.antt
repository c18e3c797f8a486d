use Rattle.std.proofs.Common.{ℕ, List, refl, subst}
use Rattle.mta_records.specs.declared.step.Step.TheVariants.{Accept}
use Rattle.mta_spool.specs.Stands.{Appends, AtMoment, fault_of}
use Rattle.mta_commands.proofs.Stored.{recording, stored, tables_refused, tables_there}
use Rattle.mta_commands.proofs.submit.store.Goals as goal

pub returns-in-Ok-clause-stored : goal.returns-in-Ok-clause-stored
returns-in-Ok-clause-stored g c =
    let tells = g.C.Clock.model.tells c.args.spool.now.clock in
    let r = recording g.D.Disk.model g.met.D.Disk.laws tells c.args.tables.now.text c.args.apdu.now c.args.spool.now
    c.set_tables.new.self c.requires.stands c.requires.going c.in-Ok.ensures.records in
    let made = subst (λ (x : List ℕ). AtMoment g.C.Clock.model c.set_tables.new.self.clock
    c.set_tables.new.self.current.moment
    (λ m. Appends g.D.Disk.model (Accept m x) c.set_tables.new.self c.accept.new.self (fault_of c.accept.result)))
    c.as_slice.ensures c.accept.ensures.appends in
    stored g.D.Disk.model g.met.D.Disk.laws tells g.C.Clock.model c.args.tables.now.text c.args.apdu.now
    c.args.spool.now c.set_tables.new.self c.accept.new.self r.0 c.accept.result r.1 c.requires.stands
    (λ t tell. subst (λ k. g.C.Clock.model.tells k t) c.set_tables.ensures.clock tell) c.accept.ensures.no_lane made
    c.accept.ensures.number

pub returns-in-Err-clause-stored : goal.returns-in-Err-clause-stored
returns-in-Err-clause-stored g c =
    tables_refused g.D.Disk.model g.met.D.Disk.laws
    (g.C.Clock.model.tells c.args.spool.now.clock) c.args.tables.now.text c.args.apdu.now c.args.spool.now
    c.set_tables.new.self c.in-Err.fault c.requires.going c.in-Err.ensures.no_lane c.in-Err.ensures.records

pub accept-requires-clause-tables : goal.accept-requires-clause-tables
accept-requires-clause-tables g c =
    tables_there c.set_tables.new.self.current.machine.tables c.args.tables.now.text
    (c.in-Ok.ensures.records.recorded refl)
