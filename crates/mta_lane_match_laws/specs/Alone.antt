-- A session that has its lane alone: what a worker knows of the history, of whose entries it knows which are its own.
use Rattle.std.specs.Prelude.{◌≡◌, ◌<◌, ◌≤◌, ℕ, Bool, false, List, ◌++◌, length, Some, slice_get}
use Rattle.mta_records.specs.declared.step.Step.{Step}
use Rattle.mta_histories.specs.Classes.{class_of}
use Rattle.mta_histories.specs.History.{IsHistory, after}
use Rattle.mta_lane_match_laws.specs.Matches.{Known, Matches}
use Rattle.mta_lane_match_laws.specs.Steps.{IsOthers}

-- From this position on no entry that is not own is a step of the session's lane and generation, but a Bind, a
-- CloseLane or an Abandon.
abbrev pub HasLaneAlone : (lane generation : ℕ) → (history : List Step) → (owns : ℕ → Bool) → (from : ℕ)
    → Type 0
HasLaneAlone l h history owns from =
    (p : ℕ) (step : Step) → from ≤ p → slice_get history p ≡ Some step → owns p ≡ false
    → IsOthers l h (class_of step)

-- Who has it alone in a longer history had it before.
abbrev pub AloneBefore : Type 0
AloneBefore =
    (l h : ℕ) (before more : List Step) (owned owns : ℕ → Bool) (from : ℕ)
    → ((p : ℕ) → p < length before → owned p ≡ false → owns p ≡ false)
    → HasLaneAlone l h (before ++ more) owns from → HasLaneAlone l h before owned from

-- So what others added since the last turn keeps a session matching its lane.
abbrev pub AloneKeeps : Type 0
AloneKeeps =
    (t : Known) (before more : List Step) (owns : ℕ → Bool) (from : ℕ) → IsHistory (before ++ more)
    → from ≤ length before → HasLaneAlone t.lane t.generation (before ++ more) owns from
    → ((p : ℕ) → length before ≤ p → owns p ≡ false) → Matches t (after before)
    → Matches t (after (before ++ more))
