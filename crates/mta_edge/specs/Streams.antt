-- Reading a source to its end, and putting a piece to a sink.
use Rattle.std.specs.Prelude.{◌≡◌, ◌+◌, ◌<◌, ◌≤◌, ℕ, List, ◌++◌, length, drop, Some, Result, IsErrOf}
use Rattle.mta_edge.specs.Causes.{Rose}
use Rattle.mta_edge.specs.Outside.{Goes}
use Rattle.mta_edge.specs.Views.{SourceView}
use Rattle.mta_edge.specs.declared.read.SourceFault.{SourceFault}
use Rattle.mta_edge.specs.declared.read.SourceFault.TheVariants as SourceFaults

-- the causes of a read's faults
pub record HasReadCause {I T : Type 0} (sources : SourceView I) (limit : ℕ) (old new : I)
    (result : Result T SourceFault) : Type 0 where
  pub later : sources.faults old ≤ sources.faults new
  pub failed : IsErrOf result SourceFaults.Failed → Rose (sources.faults old) (sources.faults new)
  pub long : IsErrOf result SourceFaults.TooLong → (f : List ℕ) → sources.left old ≡ Some f → limit < length f

-- all but the first octets are left, and these are at most so many
abbrev pub LeavesBut : ℕ → List ℕ → List ℕ → Type 0
LeavesBut most f g = (n : ℕ) × (n ≤ most) × (g ≡ drop n f)

-- at most so many octets were taken of the source
abbrev pub TakesAtMost : {I : Type 0} → SourceView I → ℕ → I → I → Type 0
TakesAtMost sources most old new = Goes (LeavesBut most) (sources.left old) (sources.left new)

-- the sink took all of the piece but this rest
pub record TakesBut (bytes rest f g : List ℕ) : Type 0 where
  pub whole : g ++ rest ≡ f ++ bytes
  pub longer : length f ≤ length g

-- the sink took a front of the piece
abbrev pub TakesFront : List ℕ → List ℕ → List ℕ → Type 0
TakesFront bytes f g = (rest : List ℕ) × TakesBut bytes rest f g
