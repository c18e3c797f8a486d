-- What is printed.
use Rattle.std.specs.Prelude.{ℕ, List, [], ◌∷◌, ◌++◌, codes}
use Rattle.std.specs.Fmt.{decimal}
use Rattle.mta_ber.specs.declared.fault.Kind.{Kind}
use Rattle.mta_ber.specs.declared.fault.Kind.TheVariants as Faults
use Rattle.mta_tables.specs.declared.fault.LineKind.{LineKind}
use Rattle.mta_tables.specs.declared.fault.LineKind.TheVariants as Kinds
use Rattle.mta_commands.specs.declared.stop.Stop.{Stop}
use Rattle.mta_commands.specs.declared.stop.Stop.TheVariants as Stops

-- what is printed for an item that was accepted
abbrev pub accepted_line : ℕ → List ℕ
accepted_line n = codes "accepted " ++ decimal n ++ 10 ∷ []

abbrev pub kind_text : LineKind → List ℕ
kind_text Kinds.TooLong = codes "TooLong"
kind_text Kinds.Word = codes "Word"
kind_text Kinds.Number = codes "Number"
kind_text Kinds.Name = codes "Name"
kind_text Kinds.Unknown = codes "Unknown"
kind_text Kinds.Twice = codes "Twice"
kind_text Kinds.TooMany = codes "TooMany"
kind_text Kinds.Missing = codes "Missing"

abbrev pub fault_text : Kind → List ℕ
fault_text Faults.Truncated = codes "Truncated"
fault_text Faults.BadLength = codes "BadLength"
fault_text Faults.BadTag = codes "BadTag"
fault_text Faults.TooDeep = codes "TooDeep"
fault_text Faults.BadInt = codes "BadInt"
fault_text Faults.BadText = codes "BadText"
fault_text Faults.BadTime = codes "BadTime"
fault_text Faults.Missing = codes "Missing"
fault_text Faults.Twice = codes "Twice"
fault_text Faults.BadSize = codes "BadSize"
fault_text Faults.TooLong = codes "TooLong"
fault_text Faults.Trailing = codes "Trailing"

-- the line of a stop
unfoldable pub line_of : Stop → List ℕ
line_of Stops.Usage =
    codes "usage: mta submit or serve SESSIONS STATION... or spool or read MAILBOX or decode or drill N\n"
line_of (Stops.Tables line kind) = codes "tables line " ++ (decimal line ++ (32 ∷ kind_text kind ++ 10 ∷ []))
line_of (Stops.NotSpool at) = codes "not a spool at " ++ (decimal at ++ 10 ∷ [])
line_of Stops.Disk = codes "disk fault\n"
line_of (Stops.Full size need) = codes "spool full " ++ (decimal size ++ (32 ∷ decimal need ++ 10 ∷ []))
line_of (Stops.Spent last) = codes "no number " ++ (decimal last ++ 10 ∷ [])
line_of Stops.Memory = codes "out of memory\n"
line_of Stops.Source = codes "source fault\n"
line_of Stops.Sink = []
line_of (Stops.NoMailbox name) = codes "no such mailbox " ++ (name ++ 10 ∷ [])
line_of (Stops.NoPeer name) = codes "no such peer " ++ (name ++ 10 ∷ [])
line_of (Stops.BadApdu at kind) = codes "bad APDU at " ++ (decimal at ++ (32 ∷ fault_text kind ++ 10 ∷ []))

-- the status of a stop
abbrev pub status_of : Stop → ℕ
status_of Stops.Usage = 1
status_of (Stops.Tables line kind) = 2
status_of (Stops.NotSpool at) = 3
status_of Stops.Disk = 4
status_of (Stops.Full size need) = 5
status_of (Stops.Spent last) = 5
status_of Stops.Memory = 7
status_of Stops.Source = 8
status_of Stops.Sink = 9
status_of (Stops.NoMailbox name) = 10
status_of (Stops.NoPeer name) = 10
status_of (Stops.BadApdu at kind) = 6
