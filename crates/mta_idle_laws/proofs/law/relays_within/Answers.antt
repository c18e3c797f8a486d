use Rattle.mta_idle_laws.proofs.Spans.{relays_within}
use Rattle.mta_idle_laws.proofs.law.relays_within.Goals as goal

pub returns : goal.returns
returns c = relays_within
