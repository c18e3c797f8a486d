use Rattle.std.proofs.Common.{arith, ◌∙◌}
use Rattle.mta_units.specs.Feed.{no_feed}
use Rattle.mta_worker.proofs.Going.{gone_round, served_lost, served_stopped, served_whole}
use Rattle.mta_worker.proofs.Turning.{worked_trans}
use Rattle.mta_worker.proofs.session.run_session.Goals as goal

pub returns-in-Err-clause-served : goal.returns-in-Err-clause-served
returns-in-Err-clause-served g c =
    served_stopped g.D.Disk.model g.C.Clock.model g.L.Link.model
    (record {
      session = c.args.session.now;
      action = c.args.first;
      link = c.args.link.now;
      feed = no_feed;
      pass = c.args.pass.now;
      halt = c.args.first_halt;
    })
    (record {
      session = c.loop-came.session;
      action = c.loop-came.action;
      link = c.loop-came.link;
      feed = c.loop-came.frames;
      pass = c.loop-came.pass;
      halt = c.loop-came.halt;
    })
    c.carry_on.new.session c.carry_on.new.link c.give_up.new.link c.has_turned.result c.give_up.result
    c.loop-came.invariant.gone c.in-Err.ensures.lost c.has_turned.ensures c.give_up.ensures.gives

pub returns-in-Ends-clause-served : goal.returns-in-Ends-clause-served
returns-in-Ends-clause-served g c =
    served_whole g.D.Disk.model g.C.Clock.model g.L.Link.model
    (record {
      session = c.args.session.now;
      action = c.args.first;
      link = c.args.link.now;
      feed = no_feed;
      pass = c.args.pass.now;
      halt = c.args.first_halt;
    })
    (record {
      session = c.loop-came.session;
      action = c.loop-came.action;
      link = c.loop-came.link;
      feed = c.loop-came.frames;
      pass = c.loop-came.pass;
      halt = c.loop-came.halt;
    })
    c.in-Ok.came c.in-Ends.end c.carry_on.new.session c.carry_on.new.link c.carry_on.new.frames
    c.loop-came.invariant.gone c.in-Ends.is c.in-Ok.ensures.run

pub loop-came-preserved : goal.loop-came-preserved
loop-came-preserved g c =
    let worked = c.in-Ok-one_turn.ensures.worked in
    record {
      gone = gone_round g.D.Disk.model g.C.Clock.model g.L.Link.model
          (record {
            session = c.args.session.now;
            action = c.args.first;
            link = c.args.link.now;
            feed = no_feed;
            pass = c.args.pass.now;
            halt = c.args.first_halt;
          })
          (record {
            session = c.loop-came.session;
            action = c.loop-came.action;
            link = c.loop-came.link;
            feed = c.loop-came.frames;
            pass = c.loop-came.pass;
            halt = c.loop-came.halt;
          })
          c.in-Ok.came c.in-Asks.ask c.carry_on.new.session c.one_turn.new.session c.carry_on.new.link
          c.carry_on.new.frames c.in-Ok-one_turn.next c.one_turn.new.pass c.one_turn.new.halt
          c.loop-came.invariant.gone c.in-Asks.is c.in-Ok.ensures.run c.in-Ok-one_turn.ensures.answered;
      ready = (worked.lock ∙ c.loop-came.invariant.ready.0, worked.rests);
      worked = worked_trans c.args.pass.now c.loop-came.pass c.one_turn.new.pass c.loop-came.invariant.worked worked;
      called = c.in-Ok-one_turn.ensures.called;
      later = omega (arith, c.loop-came.invariant.later, c.carry_on.ensures.later);
    }

pub returns-in-Err-one_turn-clause-worked : goal.returns-in-Err-one_turn-clause-worked
returns-in-Err-one_turn-clause-worked g c =
    worked_trans c.args.pass.now c.loop-came.pass c.one_turn.new.pass c.loop-came.invariant.worked
    c.in-Err-one_turn.ensures.worked

pub returns-in-Err-one_turn-clause-served : goal.returns-in-Err-one_turn-clause-served
returns-in-Err-one_turn-clause-served g c =
    served_lost g.D.Disk.model g.C.Clock.model g.L.Link.model
    (record {
      session = c.args.session.now;
      action = c.args.first;
      link = c.args.link.now;
      feed = no_feed;
      pass = c.args.pass.now;
      halt = c.args.first_halt;
    })
    (record {
      session = c.loop-came.session;
      action = c.loop-came.action;
      link = c.loop-came.link;
      feed = c.loop-came.frames;
      pass = c.loop-came.pass;
      halt = c.loop-came.halt;
    })
    c.in-Ok.came c.in-Asks.ask c.carry_on.new.session c.one_turn.new.session c.carry_on.new.link
    c.give_up-in-Err-one_turn.new.link c.carry_on.new.frames c.one_turn.new.pass c.one_turn.new.halt
    c.in-Err-one_turn.lost c.has_turned-in-Err-one_turn.result c.give_up-in-Err-one_turn.result
    c.loop-came.invariant.gone c.in-Asks.is c.in-Ok.ensures.run c.in-Err-one_turn.ensures.lost
    c.has_turned-in-Err-one_turn.ensures c.give_up-in-Err-one_turn.ensures.gives
