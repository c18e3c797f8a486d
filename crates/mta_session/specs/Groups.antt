-- The phases that wait for an answer of the spool, by what goes on in them.
use Rattle.std.specs.Prelude.{Bool, true, false}
use Rattle.mta_session.specs.declared.phase.Phase.{Phase}
use Rattle.mta_session.specs.declared.phase.Phase.TheVariants as phase

-- a responder answers an Open
abbrev pub is_opening : Phase → Bool
is_opening phase.AsksPeer = true
is_opening phase.AsksStands = true
is_opening (phase.AsksNewLane again) = true
is_opening phase.AsksSpare = true
is_opening phase.AsksRoom = true
is_opening phase.AsksOldLane = true
is_opening phase.AsksBind = true
is_opening _ = false

-- the lane is looked at, agreed or given up
abbrev pub is_recovering : Phase → Bool
is_recovering phase.AsksValues = true
is_recovering phase.AsksRecovery = true
is_recovering (phase.AsksReceiving state) = true
is_recovering (phase.AsksResumed state) = true
is_recovering phase.AsksAgree = true
is_recovering phase.AsksDenied = true
is_recovering _ = false

-- the own half sends
abbrev pub is_sending : Phase → Bool
is_sending phase.AsksDue = true
is_sending phase.AsksBatch = true
is_sending phase.AsksStart = true
is_sending phase.AsksStillIdle = true
is_sending phase.AsksState = true
is_sending _ = false

-- the other half receives, or the lane is closed
abbrev pub is_receiving : Phase → Bool
is_receiving (phase.AsksSecure k n) = true
is_receiving (phase.AsksComplete k n) = true
is_receiving (phase.AsksDrop k found) = true
is_receiving phase.AsksClose = true
is_receiving _ = false

-- it comes to its end: no unit but its last may be put
abbrev pub has_turned : Phase → Bool
has_turned phase.AsksDenied = true
has_turned (phase.AsksLast end) = true
has_turned (phase.PutsLast end) = true
has_turned (phase.Ended end) = true
has_turned _ = false
