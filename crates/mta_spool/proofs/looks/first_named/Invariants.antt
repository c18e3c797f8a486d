use Rattle.std.specs.Option.{option_copied}
use Rattle.mta_spool.proofs.Looking.{LeadsFrom}
use Rattle.mta_spool.proofs.looks.first_named.Given as goal

abbrev pub invariant-loop-lane : goal.invariant-loop-lane
invariant-loop-lane l = LeadsFrom l.role l.peer (option_copied l.reference) l.open_lanes l.lane-index
