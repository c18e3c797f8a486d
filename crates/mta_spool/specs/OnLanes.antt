-- Steps that the calls on an open lane make, and why a lane does not allow one.
use Rattle.std.specs.Prelude.{◌≡◌, ℕ, ◌+◌, ◌-◌, ◌^◌, nat_lt, Option, None, Some, Result, Err, if◌then◌else◌}
use Rattle.mta_records.specs.declared.step.Step.{Step}
use Rattle.mta_records.specs.declared.step.Step.TheVariants as step
use Rattle.mta_records.specs.declared.fault.StepFault.{StepFault}
use Rattle.mta_records.specs.declared.fault.StepFault.TheVariants as Faults
use Rattle.mta_histories.specs.Lanes.{Lane}
use Rattle.mta_histories.specs.Classes.{was_refused, was_denied, LaneStep, bind, settle, abandon, secure, complete}
use Rattle.mta_histories.specs.Classes.{Class, on_lane}
use Rattle.mta_spool.specs.Shown.{Shown}
use Rattle.mta_spool.specs.Turning.{IsUnchanged}

-- It tells the lane's generation, and the lane allows it exactly where it expects it. A Bind tells the next generation,
-- an Abandon none, and the octets that come may be bad.
abbrev pub IsPlain : LaneStep → Type 0
IsPlain bind = ⊥
IsPlain (abandon k) = ⊥
IsPlain (secure k n piece) = ⊥
IsPlain (complete k n piece) = ⊥
IsPlain step = Unit {0}

-- a plain step on this lane, of this generation
abbrev pub IsPlainOn : ℕ → ℕ → Class → Type 0
IsPlainOn n g (on_lane m h step) = (m ≡ n) × (h ≡ Some g) × IsPlain step
IsPlainOn n g c = ⊥

-- a plain step that makes no items
abbrev pub IsQuiet : LaneStep → Type 0
IsQuiet (settle (was_refused kind) k) = ⊥
IsQuiet (settle was_denied k) = ⊥
IsQuiet step = IsPlain step

abbrev pub IsQuietOn : ℕ → ℕ → Class → Type 0
IsQuietOn n g (on_lane m h step) = (m ≡ n) × (h ≡ Some g) × IsQuiet step
IsQuietOn n g c = ⊥

-- its record tells numbers and no octets
abbrev pub IsBrief : Step → Type 0
IsBrief (step.LaneAgree lane generation checkpoint window) = Unit {0}
IsBrief (step.Bind lane generation) = Unit {0}
IsBrief (step.Confirm lane generation activity checkpoint) = Unit {0}
IsBrief (step.Ending lane generation activity) = Unit {0}
IsBrief (step.Sent lane generation activity moment) = Unit {0}
IsBrief (step.Refused lane generation activity kind moment) = Unit {0}
IsBrief (step.Denied lane generation activity moment) = Unit {0}
IsBrief (step.Dropped lane generation activity) = Unit {0}
IsBrief (step.Drop lane generation activity) = Unit {0}
IsBrief (step.CloseLane lane generation) = Unit {0}
IsBrief other = ⊥

-- why a plain step of this generation is refused that the lane does not allow
abbrev pub refusal_on : Option Lane → (number generation : ℕ) → StepFault
refusal_on None n g = Faults.NoLane n
refusal_on (Some lane) n g = if nat_lt g lane.generation then Faults.Fenced lane.generation else Faults.Unexpected

-- the generation that a Bind of the lane begins
abbrev pub next_generation : Option Lane → ℕ
next_generation None = 1
next_generation (Some lane) = lane.generation + 1

-- there is such a lane, and this is its next generation
abbrev pub IsNext : Option Lane → ℕ → Type 0
IsNext None g = ⊥
IsNext (Some lane) g = g ≡ lane.generation + 1

-- no generation is left behind the lane's
abbrev pub BindsPastLast : {D C : Type 0} → Shown D C → Shown D C → Result ℕ StepFault → Type 0
BindsPastLast old new result =
    IsUnchanged old new
    × (result ≡ (if old.journal.ended then Err Faults.Ended else Err (Faults.Spent (2 ^ 64 - 1))))
