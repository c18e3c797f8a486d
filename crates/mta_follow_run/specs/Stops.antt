-- Why a standby does not hold all records: the line and the status of each cause.
use Rattle.std.specs.Prelude.{ℕ, List, ◌∷◌, [], ◌++◌, codes, Result, Ok, Err}
use Rattle.std.specs.Fmt.{decimal}
use Rattle.mta_journal.specs.declared.journal.AppendFault.{AppendFault}
use Rattle.mta_journal.specs.declared.journal.AppendFault.TheVariants as Faults
use Rattle.mta_journal.specs.declared.why.OpenWhy.{OpenWhy as JournalWhy}
use Rattle.mta_journal.specs.declared.why.OpenWhy.TheVariants as JournalWhys
use Rattle.mta_spool.specs.declared.why.OpenWhy.{OpenWhy}
use Rattle.mta_spool.specs.declared.why.OpenWhy.TheVariants as Whys
use Rattle.mta_follow_run.specs.declared.stop.Stop.{Stop}
use Rattle.mta_follow_run.specs.declared.stop.Stop.TheVariants as Stops

abbrev pub stop_of_append : AppendFault → Stop
stop_of_append (Faults.Full size need) = Stops.Full size need
stop_of_append Faults.Disk = Stops.Disk
stop_of_append Faults.Ended = Stops.Memory
stop_of_append Faults.Memory = Stops.Memory

abbrev pub stop_of_journal : JournalWhy → Stop
stop_of_journal (JournalWhys.NotSpool at) = Stops.NotSpool at
stop_of_journal JournalWhys.Disk = Stops.Disk
stop_of_journal JournalWhys.Memory = Stops.Memory

abbrev pub stop_of_spool : OpenWhy → Stop
stop_of_spool (Whys.NotSpool at) = Stops.NotSpool at
stop_of_spool (Whys.Full size need) = Stops.Full size need
stop_of_spool Whys.Disk = Stops.Disk
stop_of_spool Whys.Memory = Stops.Memory

-- a number, and the end of the line
abbrev pub last_number : ℕ → List ℕ
last_number number = decimal number ++ 10 ∷ []

unfoldable pub line_of : Stop → List ℕ
line_of Stops.Usage = codes "usage: mta_follow push HOST PORT or pull PORT\n"
line_of (Stops.NotSpool at) = codes "not a spool at " ++ last_number at
line_of Stops.Disk = codes "disk fault\n"
line_of (Stops.Full size need) = codes "spool full " ++ (decimal size ++ (codes " " ++ last_number need))
line_of Stops.Memory = codes "out of memory\n"
line_of Stops.Broken = codes "link broken\n"
line_of (Stops.Diverged number) = codes "diverged at " ++ last_number number
line_of (Stops.BadUnit at) = codes "bad unit at " ++ last_number at

abbrev pub status_of : Stop → ℕ
status_of Stops.Usage = 1
status_of (Stops.NotSpool at) = 3
status_of Stops.Disk = 4
status_of (Stops.Full size need) = 5
status_of Stops.Memory = 7
status_of Stops.Broken = 15
status_of (Stops.Diverged number) = 16
status_of (Stops.BadUnit at) = 17

-- what a standby prints: how many records came that are kept, and why not all came
unfoldable pub kept_text : {T : Type 0} → ℕ → Result T Stop → List ℕ
kept_text kept (Ok x) = codes "kept " ++ last_number kept
kept_text kept (Err stop) = (codes "kept " ++ last_number kept) ++ line_of stop

-- what the other side prints: how many records it has put, or why not all
unfoldable pub pushed_text : Result ℕ Stop → List ℕ
pushed_text (Ok count) = codes "pushed " ++ last_number count
pushed_text (Err stop) = line_of stop

abbrev pub status_by : {T : Type 0} → Result T Stop → ℕ
status_by (Ok x) = 0
status_by (Err stop) = status_of stop
