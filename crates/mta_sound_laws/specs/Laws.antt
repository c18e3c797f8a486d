-- What is proved of soundness over the steps that have records.
use Rattle.std.specs.Prelude.{◌<◌, ◌^◌, List, length}
use Rattle.std.specs.List.{AllByRecursion}
use Rattle.mta_records.specs.Body.{body_of, HasFields}
use Rattle.mta_records.specs.declared.step.Step.{Step}
use Rattle.mta_records.specs.declared.step.Step.TheVariants as step
use Rattle.mta_histories.specs.Compact.{snapshot_of}
use Rattle.mta_histories.specs.History.{IsHistory, IsPossible, after, after_step, machine_steps}
use Rattle.mta_histories.specs.Items.{MakeWritten}
use Rattle.mta_histories.specs.Kept.{IsKept}
use Rattle.mta_histories.specs.Lanes.{State}
use Rattle.mta_histories.specs.Sound.{IsSound}

-- each APDU that a possible step makes is whole, and keeps what it keeps unread in the level of its place
abbrev pub StepsMakeWritten : Type 0
StepsMakeWritten =
    (s : State) (step : Step) → HasFields step → IsKept s → IsSound s → IsPossible s step
    → MakeWritten s.machine (machine_steps s step)

-- so every possible step keeps soundness, where its numbers and moments are such as a record has
abbrev pub RecordedStepsStaySound : Type 0
RecordedStepsStaySound =
    (s : State) (step : Step) → HasFields step → IsKept s → IsSound s → IsPossible s step
    → IsSound (after_step s step)

-- and the state after a history may be recorded in a snapshot
abbrev pub HistoriesAreSound : Type 0
HistoriesAreSound = (steps : List Step) → AllByRecursion HasFields steps → IsHistory steps → IsSound (after steps)

-- and the snapshot of that state is a record, where its body is so short
abbrev pub SnapshotsFit : Type 0
SnapshotsFit =
    (steps : List Step) → AllByRecursion HasFields steps → IsHistory steps
    → length (body_of (step.Snapshot (snapshot_of (after steps)))) < 2 ^ 32
    → HasFields (step.Snapshot (snapshot_of (after steps)))
