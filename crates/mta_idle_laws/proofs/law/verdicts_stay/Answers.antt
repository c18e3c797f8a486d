use Rattle.mta_idle_laws.proofs.Stays.{verdicts_stay, verdicts_are_last}
use Rattle.mta_idle_laws.proofs.law.verdicts_stay.Goals as goal

pub returns : goal.returns
returns c = record { until = verdicts_stay; last = verdicts_are_last }
