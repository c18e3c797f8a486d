-- What a run leaves, with what is known of the stations that were handed in.
use Rattle.std.specs.Prelude.{ℕ, List, Option, None, Some, Result}
use Rattle.mta_edge.specs.Views.{ClockView, DiskView, SourceView}
use Rattle.mta_links.specs.Links.{LinkView, StationView}
use Rattle.mta_words.specs.declared.words.Words.{Words}
use Rattle.mta_words.specs.declared.words.Words.TheVariants as Say
use Rattle.mta_commands.specs.declared.stop.Stop.{Stop}
use Rattle.mta_commands.specs.Command.{HasEnded}
use Rattle.mta_commands.specs.Handed.{handed}
use Rattle.mta_output.specs.Output.{Output}
use Rattle.mta_run.specs.Ran.{Ran}
use Rattle.mta_run.specs.Served.{StationsLeft}

-- so many sessions the words let a worker serve
abbrev pub sessions_in : Option Words → ℕ
sessions_in None = 0
sessions_in (Some Say.Submit) = 0
sessions_in (Some (Say.Serve sessions stations)) = sessions
sessions_in (Some Say.Queue) = 0
sessions_in (Some (Say.Mailbox name)) = 0
sessions_in (Some Say.Decode) = 0
sessions_in (Some (Say.Drill messages)) = 0

module _ {D C I L S : Type 0} (disks : DiskView D) (clocks : ClockView C) (sources : SourceView I)
    (links : LinkView L) (stations : StationView S) where
  -- a command, before its last line
  abbrev pub HasCommanded : Option Words → (conf conf_after input input_after : I) → (disk disk_after : D)
      → (clock : C) → (before after : List S) → Output → Result (Unit {0}) Stop → Type 0
  HasCommanded words conf conf_after input input_after disk disk_after clock before after out result =
      let h = handed disks clocks sources words conf conf_after input input_after disk disk_after clock in
      HasEnded h (StationsLeft h links stations (sessions_in words) before after) out result

  -- and behind it
  abbrev pub HasRunWith : Option Words → (conf conf_after input input_after : I) → (disk disk_after : D)
      → (clock : C) → (before after : List S) → Output → (status : ℕ) → Type 0
  HasRunWith words conf conf_after input input_after disk disk_after clock before after out status =
      let h = handed disks clocks sources words conf conf_after input input_after disk disk_after clock in
      Ran h (StationsLeft h links stations (sessions_in words) before after) out status
