-- The texts of several agents' tables, a line `---` between two.
use Rattle.std.specs.Prelude.{◌≡◌, ℕ, zero, suc, ◌+◌, ◌≤◌, Bool, true, ◌==◌, ◌&&◌, List, [], ◌∷◌, ◌++◌}
use Rattle.std.specs.Prelude.{length, take, drop, count_by, Option, Some, None, Result, Ok, Err, nat_lt, codes}
use Rattle.std.specs.Prelude.{if◌then◌else◌}
use Rattle.std.specs.Str.{bytes_eq}
use Rattle.mta_edge.specs.Causes.{Rose}
use Rattle.mta_edge.specs.Views.{SourceView}
use Rattle.mta_edge.specs.Streams.{TakesAtMost}
use Rattle.mta_tables.specs.declared.fault.LineKind.TheVariants as Kinds
use Rattle.mta_tables.specs.Lines.{◌>>=◌}
use Rattle.mta_tables.specs.Reading.{Bad, bad}
use Rattle.mta_tables.specs.Tables.{TablesValue, tables_of}
use Rattle.mta_rehearse_run.specs.declared.stop.Stop.{Stop}
use Rattle.mta_rehearse_run.specs.declared.stop.Stop.TheVariants as Stops

-- ---- where a text ends

abbrev pub begins_separator : List ℕ → Bool
begins_separator octets = bytes_eq (take 4 octets) (codes "---\n")

-- what stands before the first line `---`, and what stands behind it; `fresh` says whether a line begins here
abbrev pub parted : (fresh : Bool) → List ℕ → List ℕ × Option (List ℕ)
parted fresh [] = ([], None)
parted fresh (c ∷ cs) =
    if fresh && begins_separator (c ∷ cs) then ([], Some (drop 4 (c ∷ cs)))
    else (c ∷ (parted (c == 10) cs).0, (parted (c == 10) cs).1)

abbrev pub lines_in : List ℕ → ℕ
lines_in text = count_by (λ c. c == 10) text

-- ---- the tables of all texts

-- a bad line of a text that stands behind so many lines
abbrev pub shifted : ℕ → Result TablesValue Bad → Result TablesValue Bad
shifted before (Ok t) = Ok t
shifted before (Err b) = bad (before + b.line) b.kind

abbrev pub tables_behind : ℕ → List ℕ → Result TablesValue Bad
tables_behind before text = shifted before (tables_of text)

abbrev pub with_first : TablesValue → Result (List TablesValue) Bad → Result (List TablesValue) Bad
with_first t (Ok ts) = Ok (t ∷ ts)
with_first t (Err b) = Err b

abbrev pub none_or : (List ℕ → Result (List TablesValue) Bad) → Option (List ℕ)
    → Result (List TablesValue) Bad
none_or next None = Ok []
none_or next (Some rest) = next rest

-- the tables of at most `room` texts that stand behind so many lines, or the first bad line, from 1 in all texts: that
-- of a text, or the first line of a text too many
unfoldable pub network_from : (room before : ℕ) → List ℕ → Result (List TablesValue) Bad
network_from zero before octets = bad (before + 1) Kinds.TooMany
network_from (suc room) before octets =
    tables_behind before (parted true octets).0 >>= λ t.
    with_first t (none_or (network_from room (before + lines_in (parted true octets).0 + 1)) (parted true octets).1)

-- the tables of at most 64 texts of 1,048,576 octets in all
unfoldable pub network_of : List ℕ → Result (List TablesValue) Bad
network_of octets =
    if nat_lt 1048576 (length octets) then bad 1 Kinds.TooLong else network_from 64 0 octets

-- ---- what is read

abbrev pub IsTablesReadAs : Result TablesValue Bad → Result TablesValue Stop → Type 0
IsTablesReadAs read (Ok t) = read ≡ Ok t
IsTablesReadAs read (Err (Stops.Tables line kind)) = read ≡ bad line kind
IsTablesReadAs read (Err Stops.Memory) = Unit {0}
IsTablesReadAs read (Err other) = ⊥

-- the tables of one text stand behind those that were there, unless there is a bad line or memory runs out
abbrev pub IsAdded : Result TablesValue Bad → (old new : List TablesValue) → Result (Unit {0}) Stop → Type 0
IsAdded read old new (Ok done) = (t : TablesValue) × (read ≡ Ok t) × (new ≡ old ++ t ∷ [])
IsAdded read old new (Err (Stops.Tables line kind)) = read ≡ bad line kind
IsAdded read old new (Err Stops.Memory) = Unit {0}
IsAdded read old new (Err other) = ⊥

-- what is read stands behind the tables that were there, unless there is a bad line or memory runs out
abbrev pub AddsRead : Result (List TablesValue) Bad → (old new : List TablesValue) → Result (Unit {0}) Stop
    → Type 0
AddsRead read old new (Ok done) = (ts : List TablesValue) × (read ≡ Ok ts) × (new ≡ old ++ ts)
AddsRead read old new (Err (Stops.Tables line kind)) = read ≡ bad line kind
AddsRead read old new (Err Stops.Memory) = Unit {0}
AddsRead read old new (Err other) = ⊥

abbrev pub HasRead : Result (List TablesValue) Bad → Result (List TablesValue) Stop → Type 0
HasRead read (Ok agents) = read ≡ Ok agents
HasRead read (Err (Stops.Tables line kind)) = read ≡ bad line kind
HasRead read (Err Stops.Memory) = Unit {0}
HasRead read (Err other) = ⊥

-- ---- what is drawn of the source

-- these are the octets of the source, where it tells them
abbrev pub IsTold : Option (List ℕ) → List ℕ → Type 0
IsTold told octets = (c : List ℕ) → told ≡ Some c → octets ≡ c

-- these are the tables of the texts
pub record AreTablesIn (told : Option (List ℕ)) (agents : List TablesValue) : Type 0 where
  pub octets : List ℕ
  pub told_is : IsTold told octets
  pub read : network_of octets ≡ Ok agents

-- the tables that the octets have, or why there are none
abbrev pub AreRead : Option (List ℕ) → (failed : Type 0) → Result (List TablesValue) Stop → Type 0
AreRead told failed (Ok agents) = AreTablesIn told agents
AreRead told failed (Err (Stops.Tables line kind)) = (c : List ℕ) → told ≡ Some c
    → network_of c ≡ bad line kind
AreRead told failed (Err Stops.Source) = failed
AreRead told failed (Err Stops.Memory) = Unit {0}
AreRead told failed (Err other) = ⊥

abbrev pub AreOctets : Option (List ℕ) → (failed : Type 0) → Result (List ℕ) Stop → Type 0
AreOctets told failed (Ok octets) = IsTold told octets × (length octets ≤ 1048576)
AreOctets told failed (Err (Stops.Tables line kind)) = (c : List ℕ) → told ≡ Some c
    → network_of c ≡ bad line kind
AreOctets told failed (Err Stops.Source) = failed
AreOctets told failed (Err Stops.Memory) = Unit {0}
AreOctets told failed (Err other) = ⊥

-- what reading leaves of the source: its count of faults does not fall, and one octet more than the most is taken
-- at most
pub record IsDrawn {I : Type 0} (sources : SourceView I) (old new : I) : Type 0 where
  pub later : sources.faults old ≤ sources.faults new
  pub most : TakesAtMost sources 1048577 old new

pub record HasOctets {I : Type 0} (sources : SourceView I) (old new : I) (result : Result (List ℕ) Stop)
    : Type 0 where
  pub drawn : IsDrawn sources old new
  pub read : AreOctets (sources.left old) (Rose (sources.faults old) (sources.faults new)) result

pub record HasNetwork {I : Type 0} (sources : SourceView I) (old new : I) (result : Result (List TablesValue) Stop)
    : Type 0 where
  pub drawn : IsDrawn sources old new
  pub read : AreRead (sources.left old) (Rose (sources.faults old) (sources.faults new)) result
