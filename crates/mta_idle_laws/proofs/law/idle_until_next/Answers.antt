use Rattle.mta_idle_laws.proofs.Stays.{idle_until_next}
use Rattle.mta_idle_laws.proofs.law.idle_until_next.Goals as goal

pub returns : goal.returns
returns c = idle_until_next
