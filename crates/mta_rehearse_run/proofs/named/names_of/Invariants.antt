use Rattle.std.proofs.Common.{take}
use Rattle.mta_tables.specs.Indexes.{IsIndex}
use Rattle.mta_rehearse_run.specs.Agents.{own_digest}
use Rattle.mta_rehearse_run.proofs.named.names_of.Given as goal

abbrev pub invariant-loop-i : goal.invariant-loop-i
invariant-loop-i l = IsIndex own_digest (take l.i l.agents) l.names
