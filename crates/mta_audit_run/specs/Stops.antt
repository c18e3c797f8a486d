-- Why there is no audit to print: the line and the status of each cause.
use Rattle.std.specs.Prelude.{ℕ, Bool, true, false, List, ◌∷◌, [], ◌++◌, codes}
use Rattle.std.specs.Fmt.{decimal}
use Rattle.mta_journal.specs.declared.why.OpenWhy.{OpenWhy}
use Rattle.mta_journal.specs.declared.why.OpenWhy.TheVariants as Whys
use Rattle.mta_audit_run.specs.declared.stop.Spool.{Spool}
use Rattle.mta_audit_run.specs.declared.stop.Stop.{Stop}
use Rattle.mta_audit_run.specs.declared.stop.Stop.TheVariants as Stops
use Rattle.mta_audit_run.specs.Lines.{spool_text}

abbrev pub stop_of_open : Spool → OpenWhy → Stop
stop_of_open spool (Whys.NotSpool at) = Stops.NotSpool spool at
stop_of_open spool Whys.Disk = Stops.Disk
stop_of_open spool Whys.Memory = Stops.Memory

unfoldable pub line_of : Stop → List ℕ
line_of Stops.Usage = codes "usage: mta_audit FIRST SECOND\n"
line_of (Stops.NotSpool spool at) = spool_text spool ++ (codes " not a spool at " ++ (decimal at ++ 10 ∷ []))
line_of Stops.Disk = codes "disk fault\n"
line_of Stops.Memory = codes "out of memory\n"

abbrev pub status_of : Stop → ℕ
status_of Stops.Usage = 1
status_of (Stops.NotSpool spool at) = 3
status_of Stops.Disk = 4
status_of Stops.Memory = 7

-- the status where all agree, and where a half differs
abbrev pub status_by : Bool → ℕ
status_by true = 0
status_by false = 18
