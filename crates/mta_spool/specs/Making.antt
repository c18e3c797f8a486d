-- How a step's refusal follows from the journal's.
use Rattle.mta_journal.specs.declared.journal.AppendFault.{AppendFault}
use Rattle.mta_journal.specs.declared.journal.AppendFault.TheVariants as AppendFaults
use Rattle.mta_records.specs.declared.fault.StepFault.{StepFault}
use Rattle.mta_records.specs.declared.fault.StepFault.TheVariants as StepFaults

-- what the spool answers for the journal
abbrev pub step_fault : AppendFault → StepFault
step_fault (AppendFaults.Full size need) = StepFaults.Full size need
step_fault AppendFaults.Disk = StepFaults.Disk
step_fault AppendFaults.Ended = StepFaults.Ended
step_fault AppendFaults.Memory = StepFaults.Memory
