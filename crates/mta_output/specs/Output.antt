-- What is printed.
use Rattle.std.specs.Prelude.{◌≡◌, ℕ, List, ◌++◌, Option}
use Rattle.mta_edge.specs.Views.{SinkView}
use Rattle.mta_edge.specs.Causes.{Rose}
use Rattle.mta_edge.specs.Outside.{Goes}
use Rattle.mta_edge.specs.Streams.{TakesFront}

-- the octets that an output took before and behind a call, where it tells them, and its counts of faults
pub record Output : Type 0 where
  pub before : Option (List ℕ)
  pub after : Option (List ℕ)
  pub faults_before : ℕ
  pub faults_after : ℕ

abbrev pub output : {O : Type 0} → SinkView O → O → O → Output
output sinks before after = record {
  before = sinks.taken before;
  after = sinks.taken after;
  faults_before = sinks.faults before;
  faults_after = sinks.faults after;
}

abbrev pub OutputFailed : Output → Type 0
OutputFailed out = Rose out.faults_before out.faults_after

-- it took this text
abbrev pub Prints : Output → List ℕ → Type 0
Prints out text = Goes (λ a b. b ≡ a ++ text) out.before out.after

-- it took a front of this text, and failed
abbrev pub PrintsFront : Output → List ℕ → Type 0
PrintsFront out text = OutputFailed out × Goes (TakesFront text) out.before out.after

-- what printing a text leaves: all of it, and its status, or a front of it and 9
pub data HasPrinted (text : List ℕ) (good : ℕ) (out : Output) (status : ℕ) : Type 0 where
  whole : status ≡ good → Prints out text → HasPrinted text good out status
  cut : status ≡ 9 → PrintsFront out text → HasPrinted text good out status

-- what telling a line with its status leaves: both, or the line for want of memory and 7, or a front of one of these
-- lines and 9
pub data HasToldLine (text no_memory : List ℕ) (good : ℕ) (out : Output) (status : ℕ) : Type 0 where
  line : status ≡ good → Prints out text → HasToldLine text no_memory good out status
  short : status ≡ 7 → Prints out no_memory → HasToldLine text no_memory good out status
  failed : status ≡ 9 → PrintsFront out text → HasToldLine text no_memory good out status
  short_failed : status ≡ 9 → PrintsFront out no_memory → HasToldLine text no_memory good out status
