-- Why there is no walk to print: the line and the status of each cause.
use Rattle.std.specs.Prelude.{ℕ, List, ◌∷◌, [], ◌++◌, codes}
use Rattle.std.specs.Fmt.{decimal}
use Rattle.mta_tables.specs.declared.fault.LineKind.{LineKind}
use Rattle.mta_tables.specs.declared.fault.LineKind.TheVariants as Kinds
use Rattle.mta_rehearse_run.specs.declared.stop.Stop.{Stop}
use Rattle.mta_rehearse_run.specs.declared.stop.Stop.TheVariants as Stops

abbrev pub kind_text : LineKind → List ℕ
kind_text Kinds.TooLong = codes "TooLong"
kind_text Kinds.Word = codes "Word"
kind_text Kinds.Number = codes "Number"
kind_text Kinds.Name = codes "Name"
kind_text Kinds.Unknown = codes "Unknown"
kind_text Kinds.Twice = codes "Twice"
kind_text Kinds.TooMany = codes "TooMany"
kind_text Kinds.Missing = codes "Missing"

unfoldable pub line_of : Stop → List ℕ
line_of Stops.Usage = codes "usage: mta_rehearse AGENT NAME\n"
line_of (Stops.Tables line kind) = codes "tables line " ++ (decimal line ++ (32 ∷ kind_text kind ++ 10 ∷ []))
line_of Stops.Memory = codes "out of memory\n"
line_of Stops.Source = codes "source fault\n"
line_of (Stops.Twice number) = codes "agent twice " ++ (decimal number ++ 10 ∷ [])
line_of (Stops.NoAgent name) = codes "no such agent " ++ (name ++ 10 ∷ [])

abbrev pub status_of : Stop → ℕ
status_of Stops.Usage = 1
status_of (Stops.Tables line kind) = 2
status_of Stops.Memory = 7
status_of Stops.Source = 8
status_of (Stops.Twice number) = 19
status_of (Stops.NoAgent name) = 10
