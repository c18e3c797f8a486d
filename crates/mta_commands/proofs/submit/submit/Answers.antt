use Rattle.std.proofs.Common.{refl, subst}
use Rattle.mta_output.specs.Output.{output}
use Rattle.mta_commands.specs.Submit.{HasWorked}
use Rattle.mta_commands.proofs.Submitted.{submit_early, submit_unopened, submit_opened, both_read}
use Rattle.mta_commands.proofs.submit.submit.Goals as goal

pub returns-in-Err-clause-ended : goal.returns-in-Err-clause-ended
returns-in-Err-clause-ended g c =
    submit_early g.D.Disk.model g.met.D.Disk.laws g.C.Clock.model g.I.Source.model c.args.conf.now
    c.inputs_of.new.conf c.args.input.now c.inputs_of.new.input c.args.clock
    (output g.O.Sink.model c.args.out.now c.args.out.now) c.args.disk c.in-Err.stop refl c.in-Err.ensures

pub returns-in-Err-open-clause-ended : goal.returns-in-Err-open-clause-ended
returns-in-Err-open-clause-ended g c =
    rw (c.refused.ensures.0, c.refused.ensures.1)
    (submit_unopened g.D.Disk.model g.met.D.Disk.laws g.C.Clock.model g.I.Source.model c.args.conf.now
    c.inputs_of.new.conf c.args.input.now c.inputs_of.new.input c.args.clock
    (output g.O.Sink.model c.args.out.now c.args.out.now)
    c.args.disk c.in-Ok.inputs c.in-Ok.ensures c.in-Err-open.why.disk c.in-Err-open.why.why refl
    c.in-Err-open.ensures.refused)

pub returns-in-Ok-open-clause-ended : goal.returns-in-Ok-open-clause-ended
returns-in-Ok-open-clause-ended g c =
    let out = output g.O.Sink.model c.args.out.now c.work-outcome.new.out in
    let worked = subst (λ k. HasWorked g.D.Disk.model (g.C.Clock.model.tells k) c.in-Ok.inputs.tables.text
    c.in-Ok.inputs.apdu out c.in-Ok-open.spool c.work-outcome.new.spool c.work-outcome.result)
    c.in-Ok-open.ensures.clock c.work-outcome.ensures.worked in
    rw c.end.ensures (submit_opened g.D.Disk.model g.met.D.Disk.laws g.C.Clock.model g.I.Source.model c.args.conf.now
    c.inputs_of.new.conf c.args.input.now c.inputs_of.new.input c.args.clock out c.args.disk c.in-Ok.inputs
    c.in-Ok.ensures c.in-Ok-open.spool c.work-outcome.new.spool c.work-outcome.result c.in-Ok-open.ensures.opened
    worked)

pub work-outcome-requires-clause-apdu : goal.work-outcome-requires-clause-apdu
work-outcome-requires-clause-apdu g c =
    (both_read g.I.Source.model c.args.conf.now c.inputs_of.new.conf c.args.input.now c.inputs_of.new.input
    c.in-Ok.inputs c.in-Ok.ensures).1.read.1
