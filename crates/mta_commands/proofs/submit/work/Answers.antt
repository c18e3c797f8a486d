use Rattle.std.proofs.Common.{Err, refl, sym, subst}
use Rattle.mta_commands.specs.declared.stop.Stop.{Stop}
use Rattle.mta_output.specs.Output.{output}
use Rattle.mta_commands.specs.Submit.{HasWorked}
use Rattle.mta_commands.proofs.Worked.{work_refused, work_unsaid, work_settled, work_unsettled, stored_no_lane}
use Rattle.mta_commands.proofs.Worked.{settled_no_lane}
use Rattle.mta_commands.proofs.submit.work.Goals as goal

pub returns-in-Err-clause-worked : goal.returns-in-Err-clause-worked
returns-in-Err-clause-worked g c =
    let tells = g.C.Clock.model.tells c.args.spool.now.clock in
    let out = output g.O.Sink.model c.args.out.now c.args.out.now in
    subst (λ (s : Stop). HasWorked g.D.Disk.model tells c.args.inputs.tables.text c.args.inputs.apdu out
    c.args.spool.now c.store.new.spool (Err s)) (sym c.stop_of_step.ensures)
    (work_refused g.D.Disk.model tells c.args.inputs.tables.text c.args.inputs.apdu c.args.spool.now out
    c.store.new.spool c.in-Err.fault refl c.in-Err.ensures.stored)

pub returns-in-Err-acknowledge-clause-worked : goal.returns-in-Err-acknowledge-clause-worked
returns-in-Err-acknowledge-clause-worked g c =
    let tells = g.C.Clock.model.tells c.args.spool.now.clock in
    work_unsaid g.D.Disk.model tells c.args.inputs.tables.text c.args.inputs.apdu c.args.spool.now
    (output g.O.Sink.model c.args.out.now c.acknowledge.new.out) c.store.new.spool c.in-Ok.number
    c.in-Err-acknowledge.stop c.in-Ok.ensures.stored c.in-Err-acknowledge.ensures.said

pub returns-in-Ok-settle-clause-worked : goal.returns-in-Ok-settle-clause-worked
returns-in-Ok-settle-clause-worked g c =
    let tells = g.C.Clock.model.tells c.args.spool.now.clock in
    work_settled g.D.Disk.model tells c.args.inputs.tables.text c.args.inputs.apdu c.args.spool.now
    (g.C.Clock.model.tells c.store.new.spool.clock) (output g.O.Sink.model c.args.out.now c.acknowledge.new.out)
    c.store.new.spool c.settle.new.spool c.in-Ok.number
    c.in-Ok.ensures.stored c.store.ensures.clock c.in-Ok-acknowledge.ensures.said c.in-Ok-settle.ensures.settled

pub returns-clause-worked : goal.returns-clause-worked
returns-clause-worked g c =
    let tells = g.C.Clock.model.tells c.args.spool.now.clock in
    let out = output g.O.Sink.model c.args.out.now c.acknowledge.new.out in
    subst (λ (s : Stop). HasWorked g.D.Disk.model tells c.args.inputs.tables.text c.args.inputs.apdu out
    c.args.spool.now c.settle.new.spool (Err s)) (sym c.stop_of_step-in-Err-settle.ensures)
    (work_unsettled g.D.Disk.model tells c.args.inputs.tables.text c.args.inputs.apdu c.args.spool.now
    (g.C.Clock.model.tells c.store.new.spool.clock) out c.store.new.spool c.settle.new.spool c.in-Ok.number
    c.in-Err-settle.fault
    c.in-Ok.ensures.stored c.store.ensures.clock c.in-Ok-acknowledge.ensures.said c.in-Err-settle.ensures.settled)

pub stop_of_step-requires : goal.stop_of_step-requires
stop_of_step-requires g c =
    stored_no_lane g.D.Disk.model (g.C.Clock.model.tells c.args.spool.now.clock) c.args.inputs.tables.text
    c.args.inputs.apdu c.args.spool.now c.store.new.spool c.in-Err.fault c.in-Err.ensures.stored

pub stop_of_step-requires-in-Err-settle : goal.stop_of_step-requires-in-Err-settle
stop_of_step-requires-in-Err-settle g c =
    settled_no_lane g.D.Disk.model (g.C.Clock.model.tells c.args.spool.now.clock) c.args.inputs.tables.text
    c.args.inputs.apdu c.args.spool.now (g.C.Clock.model.tells c.store.new.spool.clock) c.store.new.spool
    c.settle.new.spool
    c.in-Ok.number c.in-Err-settle.fault c.in-Ok.ensures.stored c.in-Err-settle.ensures.settled
