use Rattle.mta_session_run.proofs.Running.{told_so}
use Rattle.mta_session_run.proofs.run.tell.Goals as goal

pub returns-clause-told : goal.returns-clause-told
returns-clause-told c =
    told_so c.args.session.now c.args.event c.in_ok-action.action c.step.new.self c.fits.ensures.kept
    c.fits.ensures.heard
    c.requires.answers c.in_ok-action.ensures c.fits-2.ensures.kept c.units_put_may_be_written.ensures
    c.actions_are_awaited.ensures
