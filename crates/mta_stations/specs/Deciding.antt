-- Which of several workers' ends decides how their run ends.
use Rattle.std.specs.Prelude.{◌≡◌, ◌<◌, ◌≤◌, ℕ, Bool, false, ◌==◌, List, ◌∷◌, ◌++◌, map, Option, None}
use Rattle.std.specs.Prelude.{Some, All, IfSome}
use Rattle.std.specs.List.{find}
use Rattle.std.specs.Option.{option_or}
use Rattle.mta_stations.specs.declared.end.Halt.{Halt}
use Rattle.mta_stations.specs.declared.end.Halt.TheVariants as Halts
use Rattle.mta_stations.specs.declared.end.WorkerEnd.{WorkerEnd}

-- why each worker ended, in the order of their stations
abbrev pub halts_of : List WorkerEnd → List Halt
halts_of ends = map (λ e. e.halt) ends

-- The status of a run that ends for it. A worker that gave its links back, or whose station ended or failed, is told by
-- its counts alone. A run names no peer to a worker whom the tables do not name: an end that says so has no cause
-- there, and is told as want of memory.
abbrev pub status_of : Halt → Option ℕ
status_of Halts.Limit = None
status_of Halts.StationEnded = None
status_of Halts.StationFailed = None
status_of Halts.Disk = Some 4
status_of (Halts.Full size need) = Some 5
status_of (Halts.Spent last) = Some 5
status_of Halts.NoPeer = Some 7
status_of Halts.Memory = Some 7

-- ---- which decides

-- the run does not end for it, or with a higher status
abbrev pub IsAbove : ℕ → Halt → Type 0
IsAbove status halt = IfSome (status_of halt) (λ other. status < other)

-- the run does not end for it, or with no lower status
abbrev pub IsFrom : ℕ → Halt → Type 0
IsFrom status halt = IfSome (status_of halt) (λ other. status ≤ other)

-- none has a lower status, and those of lower stations have a higher one or none
pub record Decides (halts : List Halt) (halt : Halt) : Type 0 where
  pub before : List Halt
  pub behind : List Halt
  pub stands : halts ≡ before ++ halt ∷ behind
  pub status : ℕ
  pub is_its : status_of halt ≡ Some status
  pub lowest : All (IsFrom status) halts
  pub first : All (IsAbove status) before

-- the run ends for none of them
abbrev pub IsUndecided : List Halt → Type 0
IsUndecided halts = All (λ halt. status_of halt ≡ None) halts

-- ---- the same, as it is found

abbrev pub is_status : ℕ → Option ℕ → Bool
is_status status None = false
is_status status (Some other) = other == status

abbrev pub first_of : ℕ → List Halt → Option Halt
first_of status halts = find (λ halt. is_status status (status_of halt)) halts

-- of the disk first, then for want of room or of numbers, then for want of memory
abbrev pub deciding : List Halt → Option Halt
deciding halts = option_or (first_of 4 halts) (option_or (first_of 5 halts) (first_of 7 halts))
