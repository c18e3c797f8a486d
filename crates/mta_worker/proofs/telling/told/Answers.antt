use Rattle.mta_session.specs.declared.event.Event.TheVariants as events
use Rattle.mta_session.specs.declared.event.Action.TheVariants as actions
use Rattle.mta_session_run.proofs.Running.{called_more}
use Rattle.mta_worker.proofs.Asking.{asking_goes}
use Rattle.mta_worker.proofs.telling.told.Goals as goal

pub returns-clause-called : goal.returns-clause-called
returns-clause-called c =
    let t = c.args.session.now in
    let called = c.requires.asked.1 in
    called_more t (actions.Ask c.requires.asked.0) (events.Reply c.args.reply) c.in_ok-tell.field-0
    c.tell.new.session called
    (c.lines_may_be_told.ensures.told t (events.Reply c.args.reply) called.writes.side c.requires.line)
    c.in_ok-tell.ensures.told

pub returns-clause-falls : goal.returns-clause-falls
returns-clause-falls c =
    c.in_ok-tell.ensures.told.falls (asking_goes c.args.session.now.phase c.requires.asked.1.awaited)
