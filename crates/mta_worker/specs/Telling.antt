-- A session between two calls of it.
use Rattle.mta_session.specs.State.{State}
use Rattle.mta_session.specs.declared.ask.Ask.{Ask}
use Rattle.mta_session.specs.declared.event.Action.TheVariants as action
use Rattle.mta_session_run.specs.Running.{IsCalled}

-- it waits for the answer to a question
abbrev pub IsAsked : State → Type 0
IsAsked t = (x : Ask) × IsCalled t (action.Ask x)
