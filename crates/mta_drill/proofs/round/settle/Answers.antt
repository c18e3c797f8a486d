use Rattle.std.proofs.Common.{Ok, subst}
use Rattle.std.proofs.lemmas.Result.{on_ok_weaker}
use Rattle.mta_edge.specs.Images.{memory_disk}
use Rattle.mta_edge.specs.Moments.{memory_clock}
use Rattle.mta_spool.specs.Stands.{AtMoment}
use Rattle.mta_spool.specs.Turning.{Turns}
use Rattle.mta_spool.specs.declared.spool.Turned.{Turned}
use Rattle.mta_drill.proofs.Calling.{clear_now, none_turned, one_turn, quiet_now, refused_now}
use Rattle.mta_drill.proofs.round.settle.Goals as goal

pub loop-init : goal.loop-init
loop-init c = λ works. none_turned c.args.spool.now works

pub loop-preserved : goal.loop-preserved
loop-preserved c = λ works.
    let old = c.loop.spool in
    let new = c.turn.new.self in
    one_turn c.args.spool.now old new (c.loop.invariant works) c.in-Ok-Did.ensures.clock c.in-Ok-Did.step
    (subst (λ (x : Turned). AtMoment memory_clock old.clock old.current.moment
    (λ m. Turns memory_disk m old new (Ok x))) c.in-Ok-Did.field-0-is c.in-Ok-Did.ensures.turned)

pub returns-in-Ok-Quiet : goal.returns-in-Ok-Quiet
returns-in-Ok-Quiet c = λ works.
    let old = c.loop.spool in
    let new = c.turn.new.self in
    quiet_now c.args.spool.now old new (c.loop.invariant works) c.in-Ok-Quiet.ensures.clock _
    (subst (λ (x : Turned). AtMoment memory_clock old.clock old.current.moment
    (λ m. Turns memory_disk m old new (Ok x))) c.in-Ok-Quiet.field-0-is c.in-Ok-Quiet.ensures.turned)

pub returns-in-Err : goal.returns-in-Err
returns-in-Err c = λ works.
    on_ok_weaker c.check.result
    (λ clear. refused_now c.args.spool.now c.loop.spool c.turn.new.self (c.loop.invariant works) c.in-Err.ensures.clock
    c.in-Err.fault c.in-Err.ensures.no_lane (clear_now c.in-Err.fault c.halt_of.result c.halt_of.ensures clear)
    c.in-Err.ensures.turned)
    c.check.ensures
