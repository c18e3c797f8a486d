use Rattle.std.proofs.Common.{arith}
use Rattle.mta_worker.proofs.Looking.{looked_none, looked_more, lost_at, lost_looking}
use Rattle.mta_worker.proofs.turn.answer_looks.Goals as goal

pub loop-action-init : goal.loop-action-init
loop-action-init g c = record {
  looked = looked_none g.D.Disk.model g.C.Clock.model c.args.spool.now c.args.session.now c.args.first c.args.halt.now;
  called = c.requires.called;
  left = omega arith;
}

pub loop-action-preserved : goal.loop-action-preserved
loop-action-preserved g c =
    let i = c.loop-action.invariant in
    let told = c.in-Ok.ensures in
    record {
      looked = looked_more g.D.Disk.model g.C.Clock.model c.args.spool.now c.args.session.now c.args.first
          c.args.halt.now c.loop-action.session c.loop-action.action c.in-Ask.ask c.loop-action.halt c.in-Some.reply
          c.in-Ok.next c.told.new.session c.noted.result i.looked c.in-Ask.is
          c.in-Some.ensures.look c.in-Some.ensures.answered told.told.turn c.noted.ensures;
      called = told.called;
      left = omega (arith, i.left, told.falls);
    }

pub returns-in-Err-clause-lost : goal.returns-in-Err-clause-lost
returns-in-Err-clause-lost g c =
    lost_looking g.D.Disk.model g.C.Clock.model c.args.spool.now c.args.session.now c.args.first c.args.halt.now
    c.loop-action.session c.told.new.session c.loop-action.action c.in-Ask.ask c.loop-action.halt c.in-Some.reply
    c.noted.result c.in-Err.lost c.loop-action.invariant.looked c.in-Err.ensures.kept c.in-Ask.is
    c.in-Some.ensures.look c.in-Some.ensures.answered
    (lost_at c.loop-action.session c.in-Some.reply c.in-Err.lost c.in-Err.ensures.lane c.in-Err.ensures.memory)
    c.noted.ensures
