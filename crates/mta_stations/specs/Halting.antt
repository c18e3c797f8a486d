-- Why a worker ends.
use Rattle.std.specs.Prelude.{Option, None, Some}
use Rattle.mta_records.specs.declared.fault.StepFault.{StepFault}
use Rattle.mta_records.specs.declared.fault.StepFault.TheVariants as StepFaults
use Rattle.mta_stations.specs.declared.end.Halt.{Halt}
use Rattle.mta_stations.specs.declared.end.Halt.TheVariants as Halts

-- where a step is refused so it ends, or it goes on
abbrev pub halt_of : StepFault → Option Halt
halt_of (StepFaults.Full size need) = Some (Halts.Full size need)
halt_of StepFaults.Disk = Some Halts.Disk
halt_of StepFaults.Ended = Some Halts.Disk
halt_of (StepFaults.Spent last) = Some (Halts.Spent last)
halt_of StepFaults.Memory = Some Halts.Memory
halt_of (StepFaults.Fenced generation) = None
halt_of (StepFaults.NoLane lane) = None
halt_of (StepFaults.BusyLanes count) = None
halt_of StepFaults.Unexpected = None
