-- One side of a session between two agents.
use Rattle.std.specs.Prelude.{◌<◌, ◌≤◌, ◌+◌, ℕ}
use Rattle.mta_session.specs.Rank.{calls_left}
use Rattle.mta_session.specs.State.{State}
use Rattle.mta_session.specs.declared.event.Action.TheVariants as actions
use Rattle.mta_session_run.specs.Running.{IsCalled}
use Rattle.mta_drill.specs.declared.side.Done.{Done}
use Rattle.mta_drill.specs.declared.side.Done.TheVariants as done
use Rattle.mta_drill.specs.declared.side.Rest.{Rest}
use Rattle.mta_drill.specs.declared.side.Rest.TheVariants as rest

-- a side that waits reads
abbrev pub MayWait : State → Rest → Type 0
MayWait t rest.Waits = IsCalled t actions.Read
MayWait t (rest.Over is_closed) = Unit {0}

-- how often the session of a side that rests can be told something still
abbrev pub turns_left : Rest → State → ℕ
turns_left rest.Waits t = calls_left t + 1
turns_left (rest.Over is_closed) t = 0

-- a side rests that began in this state
abbrev pub HasRested : State → Rest → State → Type 0
HasRested t r u = MayWait u r × (turns_left r u ≤ calls_left t + 1)

-- what a session that did what it wanted wants next, or where it rests
abbrev pub GoesOn : State → Done → State → Type 0
GoesOn t (done.Told a) u = IsCalled u a × (calls_left u < calls_left t)
GoesOn t (done.Rests r) u = HasRested t r u
