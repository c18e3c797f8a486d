-- What `serve` makes behind its workers, and what it prints of them.
use Rattle.std.proofs.Common.{◌≡◌, ℕ, List, [], None, Some, Result, Ok, Err, refl, sym, subst, ◌∙◌, inl}
use Rattle.std.proofs.Common.{inr}
use Rattle.mta_edge.specs.Views.{DiskView}
use Rattle.mta_histories.specs.Lanes.{State}
use Rattle.mta_records.specs.declared.fault.StepFault.{StepFault}
use Rattle.mta_records.specs.declared.fault.StepFault.TheVariants as StepFaults
use Rattle.mta_spool.specs.Shown.{Shown}
use Rattle.mta_spool.specs.Stands.{fault_of, IsOfNoLane}
use Rattle.mta_stations.specs.declared.end.Halt.{Halt}
use Rattle.mta_stations.specs.declared.end.WorkerEnd.{WorkerEnd}
use Rattle.mta_stations.specs.Deciding.{Decides, halts_of, IsUndecided, status_of}
use Rattle.mta_stations.specs.Lines.{station_lines}
use Rattle.mta_commands.specs.declared.stop.Stop.{Stop}
use Rattle.mta_commands.specs.declared.stop.Stop.TheVariants as Stops
use Rattle.mta_output.specs.Output.{Output}
use Rattle.mta_commands.specs.Output.{cut, PrintsOrFails, HasShown, stopped, whole}
use Rattle.mta_commands.specs.Serving.{Had_ended, HasFinished, HasToldStations, IsFinishStop, IsOutcome}
use Rattle.mta_commands.specs.Serving.{IsOwnRefusal, Settled, SettlesBehind, Well}
use Rattle.mta_commands.proofs.Beginning.{settled_why}
use Rattle.mta_commands.proofs.Worked.{prints_nothing}

-- ---- refusals

own_no_lane : (tells : ℕ → Type 0) (conf : List ℕ) (s : State) (size : ℕ) (failed : Type 0) (fault : StepFault)
    → IsOwnRefusal tells conf s size failed fault → IsOfNoLane (Some fault)
own_no_lane tells conf s size failed (StepFaults.Fenced generation) r = r
own_no_lane tells conf s size failed (StepFaults.NoLane lane) r = r
own_no_lane tells conf s size failed (StepFaults.BusyLanes count) r = r
own_no_lane tells conf s size failed StepFaults.Unexpected r = r
own_no_lane tells conf s size failed any5 r = tt

-- none of its own steps is refused for a lane
pub begun_no_lane : (tells : ℕ → Type 0) (conf : List ℕ) (s : State) (size : ℕ) (failed : Type 0)
    (fault : StepFault) → IsOwnRefusal tells conf s size failed fault → IsOfNoLane (Some fault)
begun_no_lane = own_no_lane

pub settles_no_lane : {D C : Type 0} (disks : DiskView D) (tells : ℕ → Type 0) (old new : Shown D C)
    (result : Result (Unit {0}) StepFault) → SettlesBehind disks tells old new result → IsOfNoLane (fault_of result)
settles_no_lane disks tells old new _ (Had_ended ended same) = tt
settles_no_lane disks tells old new _ (Settled (Ok done) going h) = tt
settles_no_lane disks tells old new _ (Settled (Err fault) going h) =
    own_no_lane tells [] new.current new.journal.size _ fault
    (settled_why disks tells [] old new fault (Err fault) refl h)

-- the end that decides has a status
pub decides_some : (ends : List WorkerEnd) (halt : Halt) → Decides (halts_of ends) halt → status_of halt ≡ None
    → ⊥
decides_some ends halt d none = let e : None ≡ Some d.status = sym none ∙ d.is_its in cc

-- ---- the lines

pub told_shown : (ends : List WorkerEnd) (out : Output) (result : Result (Unit {0}) Stop)
    → HasShown (Ok (station_lines ends)) out result → HasToldStations ends out result
told_shown ends out (Ok done) shown = shown
told_shown ends out (Err stop) shown = inr shown

pub told_short : (ends : List WorkerEnd) (out : Output) (result : Result (Unit {0}) Stop)
    → HasShown (Err Stops.Memory) out result → HasToldStations ends out result
told_short ends out (Ok done) shown = absurd shown
told_short ends out (Err stop) shown = inl shown

-- ---- all of it

module _ {D C : Type 0} (disks : DiskView D) (tells : ℕ → Type 0) (ends : List WorkerEnd) (out : Output)
    (old new : Shown D C) (settled : Result (Unit {0}) StepFault) (behind : SettlesBehind disks tells old new settled)
  where
    outcome_printed : (result : Result (Unit {0}) Stop) → HasToldStations ends out (Ok tt)
        → IsOutcome settled ends result
        → PrintsOrFails (IsFinishStop settled ends) (λ text. text ≡ station_lines ends) out result
    outcome_printed (Ok done) told o = whole done (station_lines ends) refl told
    outcome_printed (Err stop) told o = stopped stop (inr o) (station_lines ends) (inr refl) told

    outcome_well : (result : Result (Unit {0}) Stop) → IsOutcome settled ends result → result ≡ Ok tt
        → (settled ≡ Ok tt) × IsUndecided (halts_of ends)
    outcome_well _ (Well e undecided) ok = (e, undecided)
    outcome_well _ any1 ok = absurd cc

    -- the lines were printed
    pub finished : (result : Result (Unit {0}) Stop) → HasToldStations ends out (Ok tt)
        → IsOutcome settled ends result → HasFinished disks tells ends out old new result
    finished result told o = record {
      settled = settled;
      behind = behind;
      printed = outcome_printed result told o;
      well = outcome_well result o;
    }

    untold_printed : (stop : Stop) → HasToldStations ends out (Err stop)
        → PrintsOrFails (IsFinishStop settled ends) (λ text. text ≡ station_lines ends) out (Err stop)
    untold_printed stop (inl short) = stopped stop (inl short.0) [] (inl refl) (prints_nothing out short.1)
    untold_printed stop (inr failed) =
        subst (λ (s : Stop). PrintsOrFails (IsFinishStop settled ends) (λ text. text ≡ station_lines ends) out (Err s))
        (sym failed.0) (cut (station_lines ends) refl failed.1)

    -- they were not
    pub unfinished : (stop : Stop) → HasToldStations ends out (Err stop)
        → HasFinished disks tells ends out old new (Err stop)
    unfinished stop told = record {
      settled = settled;
      behind = behind;
      printed = untold_printed stop told;
      well = λ ok. absurd cc;
    }
