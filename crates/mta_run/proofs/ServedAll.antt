-- What `serve` leaves.
use Rattle.std.proofs.Common.{◌≡◌, ℕ, List, [], ◌++◌, All, Some, Result, Ok, Err, refl, sym, ap, subst}
use Rattle.std.proofs.Common.{◌∙◌, inl, inr}
use Rattle.std.proofs.lemmas.List.{append-nil}
use Rattle.mta_apdu.specs.Apdus.{longest_apdu}
use Rattle.mta_edge.specs.Causes.{Rose}
use Rattle.mta_edge.specs.Views.{ClockLaws, ClockView, DiskLaws, DiskView, SourceView}
use Rattle.mta_spool.specs.declared.why.OpenWhy.{OpenWhy}
use Rattle.mta_spool.specs.declared.why.OpenWhy.TheVariants as Whys
use Rattle.mta_links.specs.Links.{LinkView, StationView}
use Rattle.mta_links.specs.declared.role.Role.{Role}
use Rattle.mta_records.specs.declared.step.Step.{Step}
use Rattle.mta_records.specs.declared.fault.StepFault.{StepFault}
use Rattle.mta_records.specs.declared.fault.StepFault.TheVariants as StepFaults
use Rattle.mta_histories.specs.History.{after as after_steps}
use Rattle.mta_spool.specs.GoingOn.{HasNotOpened, HasOpened}
use Rattle.mta_spool.specs.Shown.{Shown}
use Rattle.mta_spool.specs.Turning.{IsRecorded}
use Rattle.mta_lane_list_laws.specs.Called.{CallOthers}
use Rattle.mta_stations.specs.Peers.{IsNamed, IsUnnamed}
use Rattle.mta_stations.specs.Roles.{roles_of}
use Rattle.mta_stations.specs.Stations.{roles_in}
use Rattle.mta_tables.specs.Tables.{TablesValue, tables_of}
use Rattle.mta_words.specs.declared.station.StationWord.{StationWord}
use Rattle.mta_words.specs.declared.words.Words.TheVariants as Say
use Rattle.mta_commands.specs.declared.stop.Stop.{Stop}
use Rattle.mta_commands.specs.declared.stop.Stop.TheVariants as Stops
use Rattle.mta_commands.specs.Causes.{full_opening, Cause, memory, no_peer, not_opened, not_spool}
use Rattle.mta_commands.specs.Command.{HasEnded, OnStations, SourcesLeft}
use Rattle.mta_commands.specs.DiskLeft.{opened, Opening, refused, uncalled}
use Rattle.mta_commands.specs.Handed.{ForOpened, ForTables, Handed, handed, InputsRead}
use Rattle.mta_commands.specs.Inputs.{HasTables}
use Rattle.mta_output.specs.Output.{Output}
use Rattle.mta_commands.specs.Output.{stopped}
use Rattle.mta_commands.specs.Provenance.{AreOfCall, AreOfRun}
use Rattle.mta_run.specs.Served.{All_named, HasTablesFor, No_workers, Not_begun, Not_named, Not_read}
use Rattle.mta_run.specs.Served.{Served, ServesSpool, StationsLeft, Untouched}
use Rattle.mta_commands.specs.Shows.{stop_of_open}
use Rattle.mta_commands.specs.Submit.{stop_of_step}
use Rattle.mta_commands.proofs.DiskStands.{before_refused, disk_refused}
use Rattle.mta_commands.proofs.HandedOn.{ended_alike, ended_early, undrawn}
use Rattle.mta_commands.proofs.ServedSpool.{begun_call, begun_cause, begun_ended, begun_own, begun_recorded, peers}
use Rattle.mta_run.proofs.ServedWorkers.{served_ended, SessionLaws}
use Rattle.mta_commands.proofs.Submitted.{tables_cause, tables_text}
use Rattle.mta_commands.proofs.Worked.{prints_nothing}

-- the same, where more is known of the stations
pub ended_with : {D C I : Type 0} (h : Handed D C I) (P Q : OnStations) (out : Output) (result : Result (Unit {0}) Stop)
    → ((o : Opening) (e : _) (a t : List Step) → P o e a t → Q o e a t) → HasEnded h P out result
    → HasEnded h Q out result
ended_with h P Q out result more x = record {
  opening = x.opening;
  ends = x.ends;
  added = x.added;
  torn_step = x.torn_step;
  sources = x.sources;
  disk = x.disk;
  uncalled_unless = x.uncalled_unless;
  safe_before = x.safe_before;
  printed = x.printed;
  history = x.history;
  own = x.own;
  in_turn = x.in_turn;
  of_call = x.of_call;
  only_adding = x.only_adding;
  calm = x.calm;
  settled = x.settled;
  recorded = x.recorded;
  undecided = x.undecided;
  stations_are = more x.opening x.ends x.added x.torn_step x.stations_are;
}

module _ {D C I L S : Type 0} (disks : DiskView D) (laws : DiskLaws disks) (clocks : ClockView C)
    (clock_laws : ClockLaws clocks) (sources : SourceView I) (links : LinkView L) (stations : StationView S)
    (sessions : ℕ) (named : List StationWord) (conf conf_after input : I) (clock : C) (out : Output) where
  abbrev Serving : D → D → Handed D C I
  Serving old new =
      handed disks clocks sources (Some (Say.Serve sessions named)) conf conf_after input input old new clock

  abbrev Left : D → D → (before after : List S) → OnStations
  Left old new before after = StationsLeft (Serving old new) links stations sessions before after

  -- no worker worked
  none : (old new : D) (before after : List S) (o : Opening) → (o ≡ opened → ⊥) → after ≡ before
      → Left old new before after o [] [] []
  none old new before after o other same = Untouched same refl (λ s e. absurd (other e))

  sources_left : (old new : D) (tables : Result TablesValue Stop) → HasTables sources conf conf_after tables
      → SourcesLeft (Serving old new)
  sources_left old new tables read = record {
    conf_untouched = λ none. absurd (none tt);
    input_untouched = λ none. refl;
    conf = read.drawn;
    input = undrawn sources longest_apdu input;
  }

  early : (disk : D) (before after : List S) (tables : Result TablesValue Stop) (stop : Stop)
      → HasTables sources conf conf_after tables → after ≡ before → out.after ≡ out.before
      → Cause (Serving disk disk) [] [] uncalled stop
      → HasEnded (Serving disk disk) (Left disk disk before after) out (Err stop)
  early disk before after tables stop read same silent cause =
      ended_early disks laws clocks sources (Some (Say.Serve sessions named)) conf conf_after input input disk clock
      (Left disk disk before after) out stop (sources_left disk disk tables read) silent cause
      (none disk disk before after uncalled (λ e. absurd cc) same)

  named_roles : (tables : TablesValue) (name : List ℕ) (roles : List Role) → roles ≡ roles_of named
      → IsUnnamed tables roles name → IsUnnamed tables (roles_of named) name
  named_roles tables name roles e x = subst (λ (r : List Role). IsUnnamed tables r name) e x

  -- the tables were not read, or do not name a peer
  pub not_tabled : (disk : D) (before after : List S) (roles : List Role) (stop : Stop) → roles ≡ roles_of named
      → after ≡ before → out.after ≡ out.before → HasTablesFor sources conf conf_after roles (Err stop)
      → HasEnded (Serving disk disk) (Left disk disk before after) out (Err stop)
  not_tabled disk before after roles stop e same silent (Not_read _ read) =
      early disk before after (Err stop) stop read same silent
      (tables_cause (Serving disk disk) stop tt refl read.read)
  not_tabled disk before after roles stop e same silent (Not_named tables name read x _ (inl is)) =
      early disk before after (Ok tables) stop read same silent
      (subst (Cause (Serving disk disk) [] [] uncalled) (sym is) (no_peer name tt (λ c w. (
        tables,
        subst (λ (y : List ℕ). tables_of y ≡ Ok tables) (read.read.0 c w) read.read.1,
        named_roles tables name roles e x,
      ))))
  not_tabled disk before after roles stop e same silent (Not_named tables name read x _ (inr is)) =
      early disk before after (Ok tables) stop read same silent
      (subst (Cause (Serving disk disk) [] [] uncalled) (sym is) (memory uncalled))

  module _ (old : D) (roles : List Role) (e : roles ≡ roles_of named) (tables : TablesValue)
      (read : HasTables sources conf conf_after (Ok tables)) where
    inputs : (new : D) → InputsRead (Serving old new)
    inputs new = record {
      tables = λ r. tables_text (sources.left conf) (Rose (sources.faults conf) (sources.faults conf_after)) tables
          read.read;
      apdu = λ r. absurd r;
    }

    refused_cause : (new : D) (why : OpenWhy) → HasNotOpened disks old new why
        → Cause (Serving old new) [] [] refused (stop_of_open why)
    refused_cause new (Whys.NotSpool at) x = not_spool at tt (inputs new) (x.not_spool at refl)
    refused_cause new (Whys.Full size need) x = full_opening size need tt (inputs new) (x.full size need refl)
    refused_cause new Whys.Disk x = not_opened tt (inputs new) (x.disk refl)
    refused_cause new Whys.Memory x = memory refused

    -- the disk was not opened
    pub not_open : (new : D) (before after : List S) (why : OpenWhy) → after ≡ before → out.after ≡ out.before
        → HasNotOpened disks old new why
        → HasEnded (Serving old new) (Left old new before after) out (Err (stop_of_open why))
    not_open new before after why same silent x =
        ended_alike (Serving old new) (Left old new before after) out (Err (stop_of_open why)) refused
        (sources_left old new (Ok tables) read) (disk_refused disks laws old new why x)
        (before_refused disks laws old new why x) (λ adds ok. absurd cc) (λ none. absurd (none tt))
        (stopped (stop_of_open why) (refused_cause new why x) [] (inl refl) (prints_nothing out silent))
        (none old new before after refused (λ w. absurd cc) same)

    module _ (all : All (IsNamed tables) roles) (spool : Shown D C) (o : HasOpened disks old spool)
        (clock_is : spool.clock ≡ clock) (handed_clock : spool.opened.clock ≡ clock) where
      all_named : All (IsNamed tables) (roles_of named)
      all_named = subst (All (IsNamed tables)) e all

      ok_err : ◌≡◌ {A = Result (Unit {0}) StepFault} (Ok tt) (Err StepFaults.Disk) → ⊥
      ok_err w = cc

      -- it was, and served over
      pub served_over : SessionLaws disks clocks links stations
          → (new : D) (before after : List S) (result : Result (Unit {0}) Stop) → roles_in stations before ≡ roles
          → CallOthers (roles_in stations before)
          → ServesSpool disks clocks links stations sessions tables.text out spool before after new result
          → HasEnded (Serving old new) (Left old new before after) out result
      served_over known new before after _ theirs others (Not_begun mid fault b disk_is same silent) =
          begun_ended (Serving old new) tt laws tables read all_named (sources_left old new (Ok tables) read)
          (inputs new)
          spool o clock_is mid (Err fault) b (Left old new before after) out (stop_of_step fault) disk_is silent
          (begun_cause (Serving old new) tt laws tables read all_named (sources_left old new (Ok tables) read)
          (inputs new) spool o clock_is mid (Err fault) b fault refl disk_is)
          (Untouched same refl (λ s w. begun_own (Serving old new) tt laws tables read all_named
          (sources_left old new (Ok tables) read) (inputs new) spool o clock_is mid (Err fault) b))
      served_over known new before after _ theirs others (No_workers mid b disk_is same silent) =
          begun_ended (Serving old new) tt laws tables read all_named (sources_left old new (Ok tables) read)
          (inputs new)
          spool o clock_is mid (Ok tt) b (Left old new before after) out Stops.Memory disk_is silent (memory opened)
          (Untouched same refl (λ s w. begun_own (Serving old new) tt laws tables read all_named
          (sources_left old new (Ok tables) read) (inputs new) spool o clock_is mid (Ok tt) b))
      served_over known new before after result theirs others
          (Served limits mid joined final ends _ are b grown kj workers x k disk_is) =
          served_ended (Serving old new) tt laws clock_laws (sources_left old new (Ok tables) read) (inputs new)
          (peers (Serving old new) tt laws tables read all_named (sources_left old new (Ok tables) read) (inputs new)
          spool
          o clock_is) spool o handed_clock joined final kj k disk_is ends links stations known sessions limits are
          before after out result mid.entries (theirs ∙ e) others
          (record { own = own; of_call = of_call; recorded = recorded })
          grown workers x
        where
          bare : b.added ++ b.torn_step ≡ mid.entries
          bare =
              ap (λ (t : List Step). b.added ++ t) (b.adds.calm ok_err) ∙ append-nil b.added
              ∙ sym (b.adds.entries ∙ ap (λ (t : List Step). t ++ b.added) o.none)

          own : AreOfRun (Serving old new) mid.entries
          own =
              subst (AreOfRun (Serving old new)) bare (begun_own (Serving old new) tt laws tables read all_named
              (sources_left old new (Ok tables) read) (inputs new) spool o clock_is mid (Ok tt) b)

          whole : b.added ≡ mid.entries
          whole = sym (b.adds.entries ∙ ap (λ (t : List Step). t ++ b.added) o.none)

          of_call : AreOfCall (Serving old new) mid.entries
          of_call =
              subst (AreOfCall (Serving old new)) whole (begun_call (Serving old new) tt laws tables read all_named
              (sources_left old new (Ok tables) read) (inputs new) spool o clock_is mid (Ok tt) b)

          recorded : ForTables (Serving old new)
              (λ c. ForOpened (Serving old new) (λ steps. IsRecorded (after_steps (steps ++ mid.entries)) c))
          recorded =
              subst (λ (y : List Step). ForTables (Serving old new)
              (λ c. ForOpened (Serving old new) (λ steps. IsRecorded (after_steps (steps ++ y)) c))) whole
              (begun_recorded (Serving old new) tt laws tables read all_named
              (sources_left old new (Ok tables) read) (inputs new) spool o clock_is mid (Ok tt) b refl)

-- the tables that were read name each peer
pub serve_named : {I : Type 0} (sources : SourceView I) (old new : I) (roles : List Role) (tables : TablesValue)
    → HasTablesFor sources old new roles (Ok tables)
    → HasTables sources old new (Ok tables) × All (IsNamed tables) roles
serve_named sources old new roles tables (All_named _ read all) = (read, all)

-- the roles of the stations that were lent
pub lent_roles : {I S : Type 0} (view : StationView S) (sources : SourceView I) (old new : I) (lent all : List S)
    (result : Result TablesValue Stop) → lent ≡ all → HasTablesFor sources old new (roles_in view lent) result
    → HasTablesFor sources old new (roles_in view all) result
lent_roles view sources old new lent all result e x =
    subst (λ (ss : List _). HasTablesFor sources old new (roles_in view ss) result) e x
