-- Why a worker ends behind a call of the spool.
use Rattle.std.specs.Prelude.{Option, None, Some, Err, option_and_then}
use Rattle.mta_records.specs.declared.fault.CompleteFault.{CompleteFault}
use Rattle.mta_records.specs.declared.fault.CompleteFault.TheVariants as CompleteFaults
use Rattle.mta_session.specs.declared.ask.Reply.{Reply}
use Rattle.mta_session.specs.declared.ask.Reply.TheVariants as reply
use Rattle.mta_records.specs.declared.fault.StepFault.{StepFault}
use Rattle.mta_records.specs.declared.fault.StepFault.TheVariants as StepFaults
use Rattle.mta_stations.specs.declared.end.Halt.{Halt}
use Rattle.mta_stations.specs.Halting.{halt_of}

abbrev pub fault_of_piece : CompleteFault → Option StepFault
fault_of_piece (CompleteFaults.Step fault) = Some fault
fault_of_piece (CompleteFaults.Bad fault) = None

-- why a call of the spool was refused; none where it was not, or where the octets are bad
abbrev pub fault_of : Reply → Option StepFault
fault_of (reply.LaneOpen (Err fault)) = Some fault
fault_of (reply.LaneAgree (Err fault)) = Some fault
fault_of (reply.Bind (Err fault)) = Some fault
fault_of (reply.Start (Err fault)) = Some fault
fault_of (reply.Confirm (Err fault)) = Some fault
fault_of (reply.Ending (Err fault)) = Some fault
fault_of (reply.Sent (Err fault)) = Some fault
fault_of (reply.Dropped (Err fault)) = Some fault
fault_of (reply.Denied (Err fault)) = Some fault
fault_of (reply.Refused (Err fault)) = Some fault
fault_of (reply.Secure (Err fault)) = fault_of_piece fault
fault_of (reply.Complete (Err fault)) = fault_of_piece fault
fault_of (reply.DropActivity (Err fault)) = Some fault
fault_of (reply.CloseLane (Err fault)) = Some fault
fault_of (reply.BatchFor (Err memory)) = Some StepFaults.Memory
fault_of (reply.Resumed (Err memory)) = Some StepFaults.Memory
fault_of (reply.Peer (Err memory)) = Some StepFaults.Memory
fault_of x = None

abbrev pub halt_after : Reply → Option Halt
halt_after x = option_and_then halt_of (fault_of x)
