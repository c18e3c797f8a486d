-- What `serve` leaves of the stations and of the spool.
use Rattle.std.specs.Prelude.{◌≡◌, ◌⊎◌, ℕ, List, [], ◌++◌, All, length, map, Some, Result, Ok, Err}
use mathlib.Core.List.{IsPrefix}
use Rattle.mta_edge.specs.Views.{ClockView, DiskView, SourceView}
use Rattle.mta_links.specs.Links.{LinkView, StationView}
use Rattle.mta_links.specs.declared.role.Role.{Role}
use Rattle.mta_records.specs.Body.{body_of}
use Rattle.mta_records.specs.declared.step.Step.{Step}
use Rattle.mta_records.specs.declared.fault.StepFault.{StepFault}
use Rattle.mta_tables.specs.Tables.{TablesValue}
use Rattle.mta_histories.specs.History.{after}
use Rattle.mta_session.specs.declared.limits.Limits.{Limits}
use Rattle.mta_shared.specs.declared.history.Base.{Base}
use Rattle.mta_journal.specs.Opening.{IsSynced}
use Rattle.mta_images.specs.Image.{OpensAt, StandsFor}
use Rattle.mta_images.specs.Opened.{base_of as compacted_of, IsFound}
use Rattle.mta_spool.specs.Bases.{base_of, count_of, found_of, gate_of, HasTold, Keeps, over_of, since_of, where_listed}
use Rattle.mta_spool.specs.Shown.{Shown}
use Rattle.mta_stations.specs.declared.end.WorkerEnd.{WorkerEnd}
use Rattle.mta_stations.specs.Peers.{IsNamed, IsUnnamed}
use Rattle.mta_stations.specs.Roles.{roles_of}
use Rattle.mta_lane_list_laws.specs.Called.{CallOthers}
use Rattle.mta_words.specs.declared.station.StationWord.{StationWord}
use Rattle.mta_words.specs.declared.words.Words.TheVariants as Say
use Rattle.mta_worker.specs.Wholes.{AreWorkers}
use Rattle.mta_commands.specs.declared.stop.Stop.{Stop}
use Rattle.mta_commands.specs.declared.stop.Stop.TheVariants as Stops
use Rattle.mta_commands.specs.DiskLeft.{Opening, opened}
use Rattle.mta_commands.specs.Command.{HasEnded}
use Rattle.mta_commands.specs.Handed.{DiskFailed, ForDisk, ForOpened, Handed, handed}
use Rattle.mta_commands.specs.Inputs.{HasTables}
use Rattle.mta_output.specs.Output.{Output}
use Rattle.mta_commands.specs.Provenance.{AreOfRun}
use Rattle.mta_run.specs.Sessions.{SessionsServed}
use Rattle.mta_commands.specs.Serving.{HasBegun, HasFinished}
use Rattle.mta_commands.specs.Submit.{AreInTurn, AreOwn, stop_of_step}
use Rattle.mta_commands.specs.Words.{Serves}

-- the most units of a session
abbrev pub most_units : ℕ
most_units = 1048576

-- a worker may do so much
abbrev pub AreLimits : (sessions : ℕ) → Limits → Type 0
AreLimits sessions limits = (limits.sessions ≡ sessions) × (limits.units ≡ most_units)

-- ---- the tables

-- The tables were not read; or a station calls a peer whom they do not name, which is told unless there is no memory
-- for its name; or they name each that is called.
pub data HasTablesFor {I : Type 0} (sources : SourceView I) (old new : I) (roles : List Role)
    : Result TablesValue Stop → Type 0 where
  Not_read : (stop : Stop) → HasTables sources old new (Err stop) → HasTablesFor sources old new roles (Err stop)
  Not_named : (tables : TablesValue) (name : List ℕ) → HasTables sources old new (Ok tables)
      → IsUnnamed tables roles name → (stop : Stop) → (stop ≡ Stops.NoPeer name) ⊎ (stop ≡ Stops.Memory)
      → HasTablesFor sources old new roles (Err stop)
  All_named : (tables : TablesValue) → HasTables sources old new (Ok tables) → All (IsNamed tables) roles
      → HasTablesFor sources old new roles (Ok tables)

-- ---- the stations

-- The base that the workers share is of what the run was handed: the bodies of the history with which opening went on,
-- and where the disk told them, those that stood on it and those to which it was compacted; the moments at which
-- opening's first sync and opening were over, with the disk as they left it; how often the disk had failed; the gate
-- from which on the records stand; and the moments that the clock lists, where it does.
pub record IsBaseOf {D C I : Type 0} (h : Handed D C I) (base : Base) : Type 0 where
  pub found : ForOpened h (λ first. found_of base ≡ map body_of first)
  pub told : ForDisk h (λ f. (found : List Step) (is : IsFound f found)
      → HasTold base (map body_of found) (map body_of (compacted_of is)))
  pub synced : D
  pub sync : IsSynced h.disks h.disk.before synced
  pub since : since_of base ≡ h.disks.moment synced
  pub over : D
  pub opened_at : over_of base ≡ h.disks.moment over
  pub gone_on : ForOpened h (λ first. (g : List ℕ) → h.disks.may_leave over g → StandsFor g first)
  pub count : count_of base ≡ h.disks.faults h.disk.before
  pub place : ForDisk h (λ f. OpensAt f (gate_of base))
  pub listed : base.lists ≡ where_listed (h.clocks.moments h.clock)

-- the steps behind them are of what had come due
abbrev pub AreDueBehind : {D C I : Type 0} → Handed D C I → (before steps : List Step) → Type 0
AreDueBehind h before steps =
    AreInTurn 2 steps
    × ForOpened h (λ first. AreOwn (h.clocks.tells h.clock) [] [] (after (first ++ before)) steps)

-- What came behind them was due, and so was the step in which the disk failed, if it did. Or the disk had failed while
-- they worked, and nothing came behind them.
pub data ComesBehind {D C I : Type 0} (h : Handed D C I) (before back torn_step : List Step) : Type 0 where
  Went_on : AreDueBehind h before (back ++ torn_step) → ComesBehind h before back torn_step
  Had_failed : DiskFailed h → back ≡ [] → ComesBehind h before back torn_step

-- What is known of the stations. No worker worked, and they are as they were; or each had a worker of its own, over one
-- history under one lock, which goes on from what the run itself had added before them, and the sessions that they
-- served have good lists in the whole history.
pub data StationsLeft {D C I L S : Type 0} (h : Handed D C I) (links : LinkView L) (stations : StationView S)
    (sessions : ℕ) (before after : List S) (opening : Opening) (ends : List WorkerEnd)
    (added torn_step : List Step) : Type 0 where
  Untouched : after ≡ before → ends ≡ []
      → (Serves h.words → opening ≡ opened → AreOfRun h (added ++ torn_step))
      → StationsLeft h links stations sessions before after opening ends added torn_step
  Worked : Serves h.words → (limits : Limits) (front workers back : List Step) (base : Base)
      → AreLimits sessions limits
      → opening ≡ opened → added ≡ front ++ (workers ++ back)
      → IsBaseOf h base → AreOfRun h front
      → (all : AreWorkers h.disks h.clocks links stations limits before after ends front base (front ++ workers))
      → ForOpened h (λ first. SessionsServed h.disks h.clocks links stations limits before all.dealt all.done first
      (front ++ (workers ++ back)) (length front))
      → ComesBehind h (front ++ workers) back torn_step
      → StationsLeft h links stations sessions before after opening ends added torn_step

-- ---- an open spool

-- A step before the workers was refused; or there was no memory for them; or they worked, and the run was finished.
pub data ServesSpool {D C L S : Type 0} (disks : DiskView D) (clocks : ClockView C) (links : LinkView L)
    (stations : StationView S) (sessions : ℕ) (conf : List ℕ) (out : Output) (spool : Shown D C)
    (before after : List S) (disk : D) : Result (Unit {0}) Stop → Type 0 where
  Not_begun : (mid : Shown D C) (fault : StepFault)
      → HasBegun disks (clocks.tells spool.clock) conf spool mid (Err fault) → disk ≡ mid.journal.disk
      → after ≡ before → out.after ≡ out.before
      → ServesSpool disks clocks links stations sessions conf out spool before after disk (Err (stop_of_step fault))
  No_workers : (mid : Shown D C) → HasBegun disks (clocks.tells spool.clock) conf spool mid (Ok tt)
      → disk ≡ mid.journal.disk → after ≡ before → out.after ≡ out.before
      → ServesSpool disks clocks links stations sessions conf out spool before after disk (Err Stops.Memory)
  Served : (limits : Limits) (mid joined final : Shown D C) (ends : List WorkerEnd) (result : Result (Unit {0}) Stop)
      → AreLimits sessions limits
      → HasBegun disks (clocks.tells spool.clock) conf spool mid (Ok tt)
      → IsPrefix mid.entries joined.entries → Keeps disks clocks joined (base_of disks clocks spool)
      → AreWorkers disks clocks links stations limits before after ends mid.entries (base_of disks clocks spool)
      joined.entries
      → HasFinished disks (clocks.tells joined.clock) ends out joined final result
      → Keeps disks clocks final (base_of disks clocks spool) → disk ≡ final.journal.disk
      → ServesSpool disks clocks links stations sessions conf out spool before after disk result

-- ---- all of it

-- what `serve` leaves where its words name the stations that were handed in, no two of which call one peer
abbrev pub HasServed : {D C I L S : Type 0} → DiskView D → ClockView C → SourceView I → LinkView L
    → StationView S → (sessions : ℕ) → (roles : List Role) → (conf conf_after : I) → (disk disk_after : D)
    → (clock : C) → (before after : List S) → Output → Result (Unit {0}) Stop → Type 0
HasServed {I = I} disks clocks sources links stations sessions roles conf conf_after disk disk_after clock before after
    out result =
    (input : I) (named : List StationWord) → roles ≡ roles_of named → CallOthers roles →
    let h = handed disks clocks sources (Some (Say.Serve sessions named)) conf conf_after input input disk disk_after
    clock in
    HasEnded h (StationsLeft h links stations sessions before after) out result
