use Rattle.mta_rehearse_run.proofs.LoopTraces.{meets_loops}
use Rattle.mta_rehearse_run.proofs.laws.loops_are_met_in_the_trace.Goals as goal

pub returns : goal.returns
returns c agents start n w trace apart walked made = meets_loops agents start n w trace apart walked made
