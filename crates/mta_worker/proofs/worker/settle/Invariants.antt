use Rattle.std.proofs.Common.{◌-◌, List, length}
use Rattle.mta_journal.specs.Appending.{journal_limit}
use Rattle.mta_records.specs.declared.step.Step.{Step}
use Rattle.mta_shared.specs.Held.{Held}
use Rattle.mta_shared.specs.Passes.{lock_of, IsReady, Worked}
use Rattle.mta_worker.specs.Working.{Dues}
use Rattle.mta_worker.proofs.worker.settle.Given as goal

abbrev pub invariant-loop-step : goal.invariant-loop-step
invariant-loop-step g l = record {
  ready : IsReady (lock_of l.shared) l.pass;
  worked : Worked l.fn.pass l.pass;
  dues : (ms : List (Held Step)) × Dues g.D.Disk.model g.C.Clock.model l.fn.pass ms l.pass;
}

-- each turn in which a step is made shows the pass more, and never more than the journal can hold
abbrev pub decreases-loop-step : goal.decreases-loop-step
decreases-loop-step g l = journal_limit - length l.pass.seen
