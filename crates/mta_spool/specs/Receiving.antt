-- What a call leaves that takes a piece of an activity. Beside the refusals of steps it may find that the
-- octets are bad.
use Rattle.std.specs.Prelude.{◌≡◌, ◌⊎◌, ℕ, ◌+◌, ◌^◌, ◌<◌, List, length, false, Option, None, Some, Result, Ok, Err}
use Rattle.std.specs.List.{concat}
use Rattle.mta_ber.specs.declared.fault.Fault.{Fault}
use Rattle.mta_ber.specs.declared.fault.Kind.TheVariants as Kinds
use Rattle.mta_edge.specs.Views.{DiskView}
use Rattle.mta_records.specs.declared.step.Step.{Step}
use Rattle.mta_records.specs.declared.fault.StepFault.{StepFault}
use Rattle.mta_records.specs.declared.fault.StepFault.TheVariants as StepFaults
use Rattle.mta_records.specs.declared.fault.CompleteFault.{CompleteFault}
use Rattle.mta_records.specs.declared.fault.CompleteFault.TheVariants as CompleteFaults
use Rattle.mta_apdu.specs.Apdus.{apdu_of}
use Rattle.mta_ber.specs.declared.fault.ReadFault.{ReadFault}
use Rattle.mta_records.specs.declared.state.Origin.TheVariants as Origins
use Rattle.mta_machine.specs.Items.{ItemValue}
use Rattle.mta_state.specs.Reading.{IsFaultOf, IsItemOf}
use Rattle.mta_histories.specs.Lanes.{Lane, State, lane_at}
use Rattle.mta_histories.specs.Classes.{LaneStep}
use Rattle.mta_histories.specs.History.{longest_activity, with_piece}
use Rattle.mta_spool.specs.Refusals.{LaneExpects}
use Rattle.mta_spool.specs.Shown.{Shown}
use Rattle.mta_spool.specs.Stands.{Appends, IsSpent, IsSpentFor}
use Rattle.mta_spool.specs.Turning.{IsUnchanged}

-- the octets up to the piece are more than an activity may have
abbrev pub IsTooLong : (number : ℕ) → List ℕ → Fault → Lane → Type 0
IsTooLong number piece fault lane =
    (longest_activity < length (concat (with_piece lane.pieces number piece)))
    × (fault ≡ record { at = longest_activity; kind = Kinds.TooLong })

-- the octets up to the piece spell no APDU, and this is their first fault
abbrev pub IsNoApdu : (number : ℕ) → List ℕ → Fault → Lane → Type 0
IsNoApdu number piece fault lane = apdu_of (concat (with_piece lane.pieces number piece)) ≡ Err fault

-- the octets of the lane's pieces up to this one spell an APDU, and this is the item that they become at a moment
abbrev pub IsItemOn : Option Lane → (number : ℕ) → List ℕ → (moment : ℕ) → ItemValue → Type 0
IsItemOn None number piece moment item = ⊥
IsItemOn (Some lane) number piece moment item =
    IsItemOf (concat (with_piece lane.pieces number piece)) Origins.Lane moment item

-- they spell none, and this is their first fault
abbrev pub IsFaultOn : Option Lane → (number : ℕ) → List ℕ → ReadFault → Type 0
IsFaultOn None number piece fault = ⊥
IsFaultOn (Some lane) number piece fault = IsFaultOf (concat (with_piece lane.pieces number piece)) fault

-- the lane is open, of this generation, and takes the piece, whatever the octets spell
pub record IsExpected (s : State) (n generation : ℕ) (step : LaneStep) (moment : ℕ) : Type 0 where
  pub lane : Lane
  pub lane_is : lane_at n s.lanes.open_lanes ≡ Some lane
  pub current : generation ≡ lane.generation
  pub expected : LaneExpects s lane step moment

-- the lane is open, of this generation, and takes the piece, but the octets are bad
pub record IsBad (s : State) (n generation : ℕ) (step : LaneStep) (moment : ℕ)
    (Wrong : Lane → Type 0) : Type 0 where
  pub lane : Lane
  pub lane_is : lane_at n s.lanes.open_lanes ≡ Some lane
  pub current : generation ≡ lane.generation
  pub expected : LaneExpects s lane step moment
  pub wrong : Wrong lane

-- the fault of the step, or none at Ok; where the octets are bad no step is refused
abbrev pub step_fault_of : {T : Type 0} → Result T CompleteFault → Option (Option StepFault)
step_fault_of (Ok x) = Some None
step_fault_of (Err (CompleteFaults.Step fault)) = Some (Some fault)
step_fault_of (Err (CompleteFaults.Bad fault)) = None

-- The step is made, or refused for another cause than the octets, or they are bad and all is as it was. Bad comes
-- exactly where they are bad and the spool has not ended, but where there was no memory to look; then too few numbers
-- are told where too few are left, and else the want of memory.
pub record Receives {D C T : Type 0} (model : DiskView D) (step : Step) (Bad : Fault → Type 0) (old new : Shown D C)
    (result : Result T CompleteFault) : Type 0 where
  pub appends : (fault : Option StepFault) → step_fault_of result ≡ Some fault → Appends model step old new fault
  pub bad : (fault : Fault) → result ≡ Err (CompleteFaults.Bad fault)
      → Bad fault × (old.journal.ended ≡ false) × IsUnchanged old new
  pub bad_where : (fault : Fault) → old.journal.ended ≡ false → Bad fault
      → (result ≡ Err (CompleteFaults.Bad fault))
      ⊎ (result ≡ Err (CompleteFaults.Step StepFaults.Memory))
      ⊎ (IsSpent old.current step
      × (result ≡ Err (CompleteFaults.Step (StepFaults.Spent (length old.current.machine.items)))))

-- too few numbers are left, or there was no memory
abbrev pub IsMemoryOrSpent : (count needed : ℕ) → StepFault → Type 0
IsMemoryOrSpent count needed fault =
    ((fault ≡ StepFaults.Memory) × (count + needed < 2 ^ 32)) ⊎ IsSpentFor count needed fault
