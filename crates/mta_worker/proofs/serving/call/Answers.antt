use Rattle.std.proofs.Common.{refl, ap, ◌∙◌, arith}
use Rattle.mta_worker.proofs.Calling.{called_halting, called_lost, called_often, called_over, called_well}
use Rattle.mta_worker.proofs.Closing.{closed_more, closed_none}
use Rattle.mta_worker.proofs.Turning.{worked_self, worked_trans}
use Rattle.mta_worker.proofs.serving.call.Goals as goal

pub loop-init : goal.loop-init
loop-init g c = record {
  closed = closed_none g.D.Disk.model g.C.Clock.model g.L.Link.model c.args.peer.now c.args.limits.now.units
      c.args.pass.now;
  ready = c.requires.ready;
  worked = worked_self c.args.pass.now c.requires.ready.1;
  same = refl;
}

pub loop-preserved : goal.loop-preserved
loop-preserved g c =
    let i = c.loop.invariant in
    let turned = c.ready_in_turn.ensures in
    record {
      closed = closed_more g.D.Disk.model g.C.Clock.model g.L.Link.model c.args.peer.now c.args.limits.now.units
          c.loop.counter c.args.pass.now c.loop.pass c.ready_in_turn.new.pass c.ready_in_turn.new.halt
          c.ready_in_turn.result c.in-Closed.is i.closed turned.readied;
      ready = (turned.worked.lock ∙ i.ready.0, turned.worked.rests);
      worked = worked_trans c.args.pass.now c.loop.pass c.ready_in_turn.new.pass i.worked turned.worked;
      same = i.same;
    }

pub returns-in-Halts-clause-worked : goal.returns-in-Halts-clause-worked
returns-in-Halts-clause-worked g c =
    worked_trans c.args.pass.now c.loop.pass c.ready_in_turn.new.pass c.loop.invariant.worked
    c.ready_in_turn.ensures.worked

pub returns-in-Halts-clause-called : goal.returns-in-Halts-clause-called
returns-in-Halts-clause-called g c =
    called_halting g.D.Disk.model g.C.Clock.model g.L.Link.model c.args.peer.now c.args.limits.now.units
    c.loop.counter c.args.pass.now c.loop.pass c.ready_in_turn.new.pass c.ready_in_turn.new.halt c.ready_in_turn.result
    c.in-Halts.halt c.args.link.now c.loop.link c.none_begun.result c.loop.invariant.closed c.in-Halts.is
    c.ready_in_turn.ensures.readied c.loop.invariant.same c.none_begun.ensures

pub returns-in-Halts-clause-later : goal.returns-in-Halts-clause-later
returns-in-Halts-clause-later g c =
    omega (arith, ap (λ l. g.L.Link.model.faults l) c.loop.invariant.same)

pub run_session-requires-clause-ready : goal.run_session-requires-clause-ready
run_session-requires-clause-ready g c =
    let worked = c.ready_in_turn.ensures.worked in (worked.lock ∙ c.loop.invariant.ready.0, worked.rests)

pub returns-in-Ok-clause-worked : goal.returns-in-Ok-clause-worked
returns-in-Ok-clause-worked g c =
    worked_trans c.args.pass.now c.loop.pass c.run_session.new.pass c.loop.invariant.worked
    (worked_trans c.loop.pass c.ready_in_turn.new.pass c.run_session.new.pass c.ready_in_turn.ensures.worked
    c.run_session.ensures.worked)

pub returns-in-Ok-clause-called : goal.returns-in-Ok-clause-called
returns-in-Ok-clause-called g c =
    called_over g.D.Disk.model g.C.Clock.model g.L.Link.model c.args.peer.now c.args.limits.now.units
    c.args.pass.now c.run_session.new.pass c.loop.link c.args.link.now c.run_session.new.link c.run_session.result
    c.loop.invariant.same
    (called_well g.D.Disk.model g.C.Clock.model g.L.Link.model c.args.peer.now c.args.limits.now.units
    c.loop.counter c.args.pass.now c.loop.pass c.ready_in_turn.new.pass c.run_session.new.pass c.ready_in_turn.new.halt
    c.ready_in_turn.result c.in-Begins.session c.in-Begins.first c.in-Ok.action c.loop.link
    c.run_session.new.link c.run_session.result c.loop.invariant.closed c.in-Begins.is c.in-Ok.is
    c.ready_in_turn.ensures.readied c.run_session.ensures.served)

pub returns-in-Ok-clause-later : goal.returns-in-Ok-clause-later
returns-in-Ok-clause-later g c =
    omega (arith, ap (λ l. g.L.Link.model.faults l) c.loop.invariant.same, c.run_session.ensures.later)

pub returns-in-Err-clause-worked : goal.returns-in-Err-clause-worked
returns-in-Err-clause-worked g c =
    worked_trans c.args.pass.now c.loop.pass c.ready_in_turn.new.pass c.loop.invariant.worked
    c.ready_in_turn.ensures.worked

pub returns-in-Err-clause-called : goal.returns-in-Err-clause-called
returns-in-Err-clause-called g c =
    called_over g.D.Disk.model g.C.Clock.model g.L.Link.model c.args.peer.now c.args.limits.now.units
    c.args.pass.now c.ready_in_turn.new.pass c.loop.link c.args.link.now c.give_up.new.link c.give_up.result
    c.loop.invariant.same
    (called_lost g.D.Disk.model g.C.Clock.model g.L.Link.model c.args.peer.now c.args.limits.now.units
    c.loop.counter c.args.pass.now c.loop.pass c.ready_in_turn.new.pass c.ready_in_turn.new.halt c.ready_in_turn.result
    c.in-Begins.session c.in-Begins.first c.in-Err.lost c.has_turned.result c.loop.link c.give_up.new.link
    c.give_up.result c.loop.invariant.closed c.in-Begins.is c.in-Err.is c.ready_in_turn.ensures.readied
    c.has_turned.ensures c.give_up.ensures.gives)

pub returns-in-Err-clause-later : goal.returns-in-Err-clause-later
returns-in-Err-clause-later g c =
    omega (arith, ap (λ l. g.L.Link.model.faults l) c.loop.invariant.same, c.give_up.ensures.later)

pub returns-clause-worked : goal.returns-clause-worked
returns-clause-worked g c = c.loop.invariant.worked

pub returns-clause-called : goal.returns-clause-called
returns-clause-called g c =
    called_often g.D.Disk.model g.C.Clock.model g.L.Link.model c.args.peer.now c.args.limits.now.units
    c.loop.counter c.args.pass.now c.loop.pass c.args.link.now c.loop.link c.none_begun-2.result c.loop.invariant.closed
    (omega (arith, c.loop-test.false)) c.loop.invariant.same c.none_begun-2.ensures

pub returns-clause-later : goal.returns-clause-later
returns-clause-later g c = omega (arith, ap (λ l. g.L.Link.model.faults l) c.loop.invariant.same)
