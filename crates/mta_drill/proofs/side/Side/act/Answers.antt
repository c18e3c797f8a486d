use Rattle.std.proofs.Common.{refl, subst}
use Rattle.std.proofs.lemmas.Result.{IfOk-weaker}
use Rattle.mta_session.specs.declared.event.Action.{Action}
use Rattle.mta_drill_answer_laws.proofs.Asking.{questions_are_asked}
use Rattle.mta_drill.specs.Acts.{IsSide}
use Rattle.mta_drill.proofs.Acting.{has_asked, has_put, has_read}
use Rattle.mta_drill.proofs.side.Side.act.Goals as goal

pub returns-in_ok-put-in-Put-clause-acts : goal.returns-in_ok-put-in-Put-clause-acts
returns-in_ok-put-in-Put-clause-acts c = λ p l is.
    let told = c.in_ok-put-in-Put.ensures in
    has_put c.args.self.now c.put.new.self c.args.spool.now c.args.breaks.now c.args.other.now.feed
    c.put.new.other.feed p l c.in-Put.unit c.in_ok-put-in-Put.field-0
    (subst (λ (a : Action). IsSide c.args.self.now c.args.spool.now a c.args.breaks.now p l) c.in-Put.is is) told.told
    told.units told.came

pub returns-in-Read-clause-acts : goal.returns-in-Read-clause-acts
returns-in-Read-clause-acts c = λ p l is.
    let side = subst (λ (a : Action). IsSide c.args.self.now c.args.spool.now a c.args.breaks.now p l) c.in-Read.is is
    in
    IfOk-weaker c.read.result _ _
    (λ d did. has_read c.args.self.now c.read.new.self c.args.spool.now c.args.breaks.now c.args.other.now.feed
    c.args.other.now.feed p l d side did c.read.ensures.broken refl)
    (c.read.ensures.read p.came side.came)

pub returns-in-Ask-clause-acts : goal.returns-in-Ask-clause-acts
returns-in-Ask-clause-acts c = λ p l is.
    let side = subst (λ (a : Action). IsSide c.args.self.now c.args.spool.now a c.args.breaks.now p l) c.in-Ask.is is in
    IfOk-weaker c.ask.result _ _
    (λ d did. has_asked questions_are_asked c.args.self.now c.ask.new.self c.args.spool.now c.ask.new.spool
    c.args.breaks.now c.ask.new.breaks c.args.other.now.feed c.ask.new.other.feed p l c.in-Ask.ask d side did
    c.ask.ensures.broken c.ask.ensures.came c.ask.ensures.clock c.ask.ensures.other)
    c.ask.ensures.asked
