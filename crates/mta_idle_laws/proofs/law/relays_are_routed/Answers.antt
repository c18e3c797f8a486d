use Rattle.mta_idle_laws.proofs.Spans.{relays_are_routed}
use Rattle.mta_idle_laws.proofs.law.relays_are_routed.Goals as goal

pub returns : goal.returns
returns c = relays_are_routed
