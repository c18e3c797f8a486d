-- What a form in memory shows of itself.
use Rattle.std.specs.Prelude.{ℕ, ◌≡◌, ◌⊎◌, IsTrue, List, Some, Result, IsErr, OnErr}
use Rattle.mta_edge.specs.Numbers.{is_listed, one_more_call}
use Rattle.mta_edge.specs.Views.{SourceView, SinkView}
use Rattle.mta_edge.specs.declared.log.Called.{Called}

-- the octets that are left or were put, the count of faults, how many calls were made, and the numbers of those that
-- fail
pub record Held : Type 0 where
  pub octets : List ℕ
  pub faults : ℕ
  pub calls : ℕ
  pub fail : List ℕ

abbrev pub memory_source : SourceView Held
memory_source = record { left = λ s. Some s.octets; faults = λ s. s.faults }

abbrev pub memory_sink : SinkView Held
memory_sink = record { taken = λ s. Some s.octets; faults = λ s. s.faults }

-- the octets that a read gives, the count of faults, the calls that were logged, how many were made, and the numbers of
-- those that fail
pub record HeldDisk : Type 0 where
  pub octets : List ℕ
  pub faults : ℕ
  pub log : List Called
  pub calls : ℕ
  pub fail : List ℕ

-- A call of a disk in memory fails where its number is listed, and else only where memory for it was refused: nothing
-- is logged then.
pub record FailsAsListed {T E : Type 0} (old new : HeldDisk) (result : Result T E) : Type 0 where
  pub number : new.calls ≡ one_more_call old.calls
  pub fail : new.fail ≡ old.fail
  pub listed : IsTrue (is_listed old.fail old.calls) → IsErr result
  pub refused : OnErr result (IsTrue (is_listed old.fail old.calls) ⊎ (new.log ≡ old.log))
