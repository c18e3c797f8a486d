use Rattle.std.proofs.Common.{subst, sym}
use Rattle.mta_session.specs.State.{State}
use Rattle.mta_session_run.specs.Running.{IsCalled}
use Rattle.mta_worker.proofs.Readied.{responder_begun}
use Rattle.mta_drill.proofs.session.listener.Goals as goal

pub returns-clause-called : goal.returns-clause-called
returns-clause-called c =
    subst (λ (t : State). IsCalled t c.in_ok-action.action) (sym c.new.ensures.session)
    (responder_begun c.in_ok-own.own _ c.responder-session.result c.in_ok-action.action c.tell.new.session
    c.in_ok-own.ensures.shown c.responder-session.ensures c.in_ok-action.ensures.told)
