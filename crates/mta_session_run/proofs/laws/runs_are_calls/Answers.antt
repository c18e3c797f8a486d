use Rattle.mta_session_run.proofs.Running.{runs_are_calls}
use Rattle.mta_session_run.proofs.laws.runs_are_calls.Goals as goal

pub returns : goal.returns
returns c = runs_are_calls
