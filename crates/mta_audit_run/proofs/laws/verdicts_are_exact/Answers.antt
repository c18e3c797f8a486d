use Rattle.mta_audit_run.proofs.Halves.{verdict_exact}
use Rattle.mta_audit_run.proofs.laws.verdicts_are_exact.Goals as goal

pub returns : goal.returns
returns c = verdict_exact
