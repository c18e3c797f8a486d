use Rattle.std.proofs.Common.{◌-◌, List}
use Rattle.mta_records.specs.declared.step.Step.{Step}
use Rattle.mta_journal.specs.Appending.{journal_limit}
use Rattle.mta_commands.proofs.Settled.{Settling}
use Rattle.mta_commands.proofs.submit.settle.Given as goal

abbrev pub invariant-loop-step : goal.invariant-loop-step
invariant-loop-step g l = (added : List Step) × Settling g.D.Disk.model g.C.Clock.model l.fn.spool l.spool added

abbrev pub decreases-loop-step : goal.decreases-loop-step
decreases-loop-step g l = journal_limit - l.spool.journal.size
