use Rattle.std.proofs.Common.{arith}
use Rattle.mta_session_run.proofs.Running.{not_yet, one_more, called_more, done_answers, done_tells, done_goes}
use Rattle.mta_session_run.proofs.Running.{told_done, came_so, stopped_there, stopped_still, kept_there, kept_still}
use Rattle.mta_session_run.proofs.Running.{on_err}
use Rattle.mta_session_run.proofs.run.carry_on.Goals as goal

pub loop-came-init : goal.loop-came-init
loop-came-init g c = record {
  run = not_yet g.L.Link.model c.args.session.now c.args.action c.args.link.now c.args.frames.now;
  called = c.requires.called;
  left = omega arith;
  later = omega arith;
}

pub exchange-requires : goal.exchange-requires
exchange-requires g c = c.loop-came.invariant.called.writable

pub returns-in_err-came-clause-lost : goal.returns-in_err-came-clause-lost
returns-in_err-came-clause-lost g c =
    on_err _ _ (stopped_there g.L.Link.model c.args.session.now c.args.action c.args.link.now c.args.frames.now
    c.loop-came.session c.loop-came.wanted c.loop-came.link c.loop-came.frames c.exchange.new.link
    c.loop-came.invariant.run c.exchange.ensures.later c.in_err-came.ensures.short)

pub returns-in_err-came-clause-kept : goal.returns-in_err-came-clause-kept
returns-in_err-came-clause-kept g c =
    on_err _ _ (kept_there g.L.Link.model c.args.session.now c.args.action c.args.link.now c.args.frames.now
    c.loop-came.session c.loop-came.wanted c.loop-came.link c.loop-came.frames c.exchange.new.link
    c.exchange.new.frames c.loop-came.invariant.run c.in_err-came.ensures.kept)

pub returns-in_err-came-clause-later : goal.returns-in_err-came-clause-later
returns-in_err-came-clause-later g c = omega (arith, c.loop-came.invariant.later, c.exchange.ensures.later)

pub returns-in-Came-clause-run : goal.returns-in-Came-clause-run
returns-in-Came-clause-run g c =
    came_so g.L.Link.model c.args.session.now c.args.action c.args.link.now c.args.frames.now c.loop-came.session
    c.loop-came.wanted c.loop-came.link c.loop-came.frames c.in_ok-came.field-0 c.in-Came.came c.exchange.new.link
    c.exchange.new.frames
    c.in-Came.is c.in_ok-came.ensures.done c.loop-came.invariant.run c.loop-came.invariant.called

pub returns-in-Came-clause-later : goal.returns-in-Came-clause-later
returns-in-Came-clause-later g c = omega (arith, c.loop-came.invariant.later, c.exchange.ensures.later)

pub tell-requires : goal.tell-requires
tell-requires g c =
    let h = told_done g.L.Link.model c.loop-came.wanted c.loop-came.link c.loop-came.frames c.in_ok-came.field-0
    c.in-Told.event c.exchange.new.link c.exchange.new.frames c.in-Told.is c.in_ok-came.ensures.done in
    record {
      answers = done_answers g.L.Link.model c.loop-came.session c.loop-came.wanted c.loop-came.link
          c.loop-came.frames c.in-Told.event c.exchange.new.link c.exchange.new.frames
          c.loop-came.invariant.called.awaited h;
    }

pub returns-in_err-wanted-in-Told-clause-lost : goal.returns-in_err-wanted-in-Told-clause-lost
returns-in_err-wanted-in-Told-clause-lost g c =
    let h = told_done g.L.Link.model c.loop-came.wanted c.loop-came.link c.loop-came.frames c.in_ok-came.field-0
    c.in-Told.event c.exchange.new.link c.exchange.new.frames c.in-Told.is c.in_ok-came.ensures.done in
    on_err _ _ (stopped_still g.L.Link.model c.args.session.now c.args.action c.args.link.now c.args.frames.now
    c.loop-came.session c.loop-came.wanted c.loop-came.link c.loop-came.frames c.in-Told.event c.tell.new.session
    c.exchange.new.link c.exchange.new.frames
    c.in_err-wanted-in-Told.ensures.err c.loop-came.invariant.run c.exchange.ensures.later h
    (done_answers g.L.Link.model c.loop-came.session c.loop-came.wanted c.loop-came.link c.loop-came.frames
    c.in-Told.event c.exchange.new.link c.exchange.new.frames c.loop-came.invariant.called.awaited h))

pub returns-in_err-wanted-in-Told-clause-kept : goal.returns-in_err-wanted-in-Told-clause-kept
returns-in_err-wanted-in-Told-clause-kept g c =
    on_err _ _ (kept_still g.L.Link.model c.args.session.now c.args.action c.args.link.now c.args.frames.now
    c.loop-came.session c.loop-came.wanted c.loop-came.link c.loop-came.frames c.in-Told.event c.exchange.new.link
    c.exchange.new.frames c.loop-came.invariant.run
    (told_done g.L.Link.model c.loop-came.wanted c.loop-came.link c.loop-came.frames c.in_ok-came.field-0
    c.in-Told.event c.exchange.new.link c.exchange.new.frames c.in-Told.is c.in_ok-came.ensures.done))

pub returns-in_err-wanted-in-Told-clause-later : goal.returns-in_err-wanted-in-Told-clause-later
returns-in_err-wanted-in-Told-clause-later g c = omega (arith, c.loop-came.invariant.later, c.exchange.ensures.later)

pub loop-came-smaller : goal.loop-came-smaller
loop-came-smaller g c =
    let h = told_done g.L.Link.model c.loop-came.wanted c.loop-came.link c.loop-came.frames c.in_ok-came.field-0
    c.in-Told.event c.exchange.new.link c.exchange.new.frames c.in-Told.is c.in_ok-came.ensures.done in
    c.in_ok-wanted-in-Told.ensures.told.falls
    (done_goes g.L.Link.model c.loop-came.session c.loop-came.wanted c.loop-came.link c.loop-came.frames
    c.in-Told.event c.exchange.new.link c.exchange.new.frames c.loop-came.invariant.called.awaited h)

pub loop-came-preserved : goal.loop-came-preserved
loop-came-preserved g c =
    let h = told_done g.L.Link.model c.loop-came.wanted c.loop-came.link c.loop-came.frames c.in_ok-came.field-0
    c.in-Told.event c.exchange.new.link c.exchange.new.frames c.in-Told.is c.in_ok-came.ensures.done in
    let told = c.in_ok-wanted-in-Told.ensures.told in
    let tells = done_tells g.L.Link.model c.loop-came.session c.loop-came.wanted c.loop-came.link c.loop-came.frames
    c.in-Told.event c.exchange.new.link c.exchange.new.frames h in
    record {
      run = one_more g.L.Link.model c.args.session.now c.args.action c.args.link.now c.args.frames.now
          c.loop-came.session c.loop-came.wanted c.loop-came.link c.loop-came.frames c.in-Told.event
          c.in_ok-wanted-in-Told.wanted c.tell.new.session c.exchange.new.link c.exchange.new.frames
          c.loop-came.invariant.run h told.turn c.loop-came.invariant.later c.exchange.ensures.later;
      called = called_more c.loop-came.session c.loop-came.wanted c.in-Told.event c.in_ok-wanted-in-Told.wanted
          c.tell.new.session c.loop-came.invariant.called tells told;
      left = omega (
        arith,
        c.loop-came.invariant.left,
        told.falls (done_goes g.L.Link.model c.loop-came.session
            c.loop-came.wanted c.loop-came.link c.loop-came.frames c.in-Told.event c.exchange.new.link
            c.exchange.new.frames c.loop-came.invariant.called.awaited h),
      );
      later = omega (arith, c.loop-came.invariant.later, c.exchange.ensures.later);
    }

pub returns-in-Came-clause-left : goal.returns-in-Came-clause-left
returns-in-Came-clause-left g c = c.loop-came.invariant.left

pub returns-in_err-came-clause-left : goal.returns-in_err-came-clause-left
returns-in_err-came-clause-left g c = c.loop-came.invariant.left
