-- The rules of a sending end on one link (X.228 clause 7): what it puts, what it makes of the units it gets,
-- and which steps its half makes.
use Rattle.std.specs.Prelude.{◌≡◌, ◌⊎◌, ◌<◌, ◌≤◌, ℕ, ◌+◌, ◌-◌, ◌&&◌, ◌||◌}
use Rattle.std.specs.Prelude.{◌==◌, if◌then◌else◌, Bool, true, false, Option, Some, None}
use Rattle.std.specs.Prelude.{List, [], ◌∷◌, length}
use Rattle.mta_lane_send.specs.declared.state.SendState.{SendState}
use Rattle.mta_lane_send.specs.declared.state.SendState.TheVariants.{Idle, Sending, Ending, Dropping}
use Rattle.mta_lane_send.specs.Half.{confirmed_of, last_of, goes_on, is_ending, is_live, is_idle, is_sending}
use Rattle.mta_lane_send.specs.Half.{confirmed_at}
use Rattle.mta_transfer_rules.specs.Units.{LaneUnit}
use Rattle.mta_transfer_rules.specs.Units as u
use Rattle.mta_transfer_rules.specs.Pieces.{piece_of, is_last}

-- Steps of the half, each of the activity that is under way
pub data SendStep : Type 0 where
  Start : (octets : List ℕ) → SendStep
  Confirm : (number : ℕ) → SendStep
  To_end : SendStep
  Sent : SendStep
  Dropped : SendStep
  Refused : SendStep
  Denied : SendStep
  Abandon : SendStep

-- What was put on the link
pub data SendStage : Type 0 where
  Quiet : SendStage  -- no activity is under way
  Opened : SendStage  -- one was under way when the link was opened, and nothing is put
  Started : (activity : ℕ) → SendStage  -- its step Start was made here, and its unit is not put yet
  Next : (activity put : ℕ) → SendStage  -- so many pieces are put, each with its Sync
  Sync_next : (activity number : ℕ) → SendStage  -- the piece of this number is put, and not its Sync
  Last_put : (activity number : ℕ) → SendStage  -- the last piece is put
  End_put : (activity number : ℕ) → SendStage  -- and End
  Resume_put : (activity number : ℕ) → SendStage  -- Resume is put and not answered
  Discard_put : (activity : ℕ) → SendStage  -- Discard is put, and nothing more of the activity follows

-- A sending end: its durable half, and what it did on the link. `accepted`: it got Accept here, or is the
-- responder. `heard` is the unit it got last, while no event of the half followed.
pub record SendEnd : Type 0 where
  pub state : SendState
  pub octets : List ℕ
  pub size : ℕ
  pub window : ℕ
  pub accepted : Bool
  pub stage : SendStage
  pub heard : Option LaneUnit

abbrev pub is_dropping : SendState → Bool
is_dropping (Idle last) = false
is_dropping (Sending k c) = false
is_dropping (Ending k c) = false
is_dropping (Dropping k) = true

-- Units put -------------------------------------------------------------------------------

-- a transfer that an Abandon ends by a Discard
abbrev pub IsCut : SendStage → ℕ → Type 0
IsCut Quiet k = ⊥
IsCut Opened k = Unit {0}
IsCut (Started j) k = k ≡ j
IsCut (Next j n) k = k ≡ j
IsCut (Sync_next j n) k = k ≡ j
IsCut (Last_put j n) k = k ≡ j
IsCut (End_put j n) k = ⊥
IsCut (Resume_put j n) k = k ≡ j
IsCut (Discard_put j) k = ⊥

abbrev pub is_transfer : LaneUnit → Bool
is_transfer u.Accept = false
is_transfer u.Other = false
is_transfer _ = true

abbrev pub PutsAt : SendEnd → LaneUnit → Type 0
-- Start k after the step Start, as the first unit of k
PutsAt e (u.Start k) = (e.stage ≡ Started k) × (goes_on e.state k ≡ true)
-- the pieces in order, while fewer Syncs than the window are not confirmed
PutsAt e (u.Piece piece) =
    (k n : ℕ) × (e.stage ≡ Next k n) × (goes_on e.state k ≡ true) × (n < confirmed_of e.state + e.window)
    × (piece ≡ piece_of e.size e.octets (n + 1))
-- Sync i behind piece i
PutsAt e (u.Sync m) = (k : ℕ) × (e.stage ≡ Sync_next k m) × (goes_on e.state k ≡ true)
-- End k behind the last piece, in Ending
PutsAt e (u.End k) = (n : ℕ) × (e.stage ≡ Last_put k n) × (is_ending e.state k ≡ true)
-- after a break: Resume behind what is confirmed, or Discard where nothing is
PutsAt e (u.Resume k n) = (e.stage ≡ Opened) × (goes_on e.state k ≡ true) × (1 ≤ n)
    × (confirmed_of e.state ≡ n)
PutsAt e (u.Discard k) =
    ((e.stage ≡ Opened) × (goes_on e.state k ≡ true) × (confirmed_of e.state ≡ 0))
    -- or as soon as the activity is given up
    ⊎ ((e.state ≡ Dropping k) × IsCut e.stage k)
PutsAt e u.Accept = Unit {0}
PutsAt e u.Other = Unit {0}
PutsAt e (u.SyncAck n) = ⊥
PutsAt e (u.EndAck k) = ⊥
PutsAt e (u.ResumeAck k n) = ⊥
PutsAt e (u.DiscardAck k) = ⊥
PutsAt e u.Exception = ⊥
PutsAt e u.Completed = ⊥
PutsAt e u.Unrecognized = ⊥
PutsAt e u.CannotRecover = ⊥

-- an initiator puts nothing of a transfer before it got Accept on the link
abbrev pub MayPut : SendEnd → LaneUnit → Type 0
MayPut e x = (is_transfer x ≡ true → e.accepted ≡ true) × PutsAt e x

abbrev pub stage_at_piece : (size : ℕ) → List ℕ → SendStage → SendStage
stage_at_piece size octets (Next k n) = if is_last size octets (n + 1) then Last_put k (n + 1) else Sync_next k (n + 1)
stage_at_piece size octets s = s

abbrev pub stage_at_sync : SendStage → SendStage
stage_at_sync (Sync_next k n) = Next k n
stage_at_sync s = s

abbrev pub stage_at_end : SendStage → SendStage
stage_at_end (Last_put k n) = End_put k n
stage_at_end s = s

abbrev pub stage_put : SendEnd → LaneUnit → SendStage
stage_put e (u.Start k) = Next k 0
stage_put e (u.Piece piece) = stage_at_piece e.size e.octets e.stage
stage_put e (u.Sync m) = stage_at_sync e.stage
stage_put e (u.End k) = stage_at_end e.stage
stage_put e (u.Resume k n) = Resume_put k n
stage_put e (u.Discard k) = Discard_put k
stage_put e _ = e.stage

abbrev pub put : SendEnd → LaneUnit → SendEnd
put e x = record e { stage = stage_put e x; heard = None }

-- Units got -------------------------------------------------------------------------------

-- ResumeAck lets the transfer go on
abbrev pub stage_got : SendStage → LaneUnit → SendStage
stage_got (Resume_put k n) (u.ResumeAck j m) = if (j == k) && (m == n) then Next k n else Resume_put k n
stage_got s x = s

abbrev pub is_accept : LaneUnit → Bool
is_accept u.Accept = true
is_accept _ = false

abbrev pub got : SendEnd → LaneUnit → SendEnd
got e x = record e { accepted = e.accepted || is_accept x; stage = stage_got e.stage x; heard = Some x }

-- Steps -----------------------------------------------------------------------------------

-- the last Sync put in this transfer
abbrev pub synced : SendStage → ℕ
synced Quiet = 0
synced Opened = 0
synced (Started k) = 0
synced (Next k n) = n
synced (Sync_next k n) = n - 1
synced (Last_put k n) = n - 1
synced (End_put k n) = n - 1
synced (Resume_put k n) = 0
synced (Discard_put k) = 0

abbrev pub is_discarded : SendStage → Bool
is_discarded (Discard_put k) = true
is_discarded _ = false

-- The step that a unit calls for, where the half makes one. A number is compared: EndAck and DiscardAck of
-- another activity call for nothing, and so does a SyncAck of a Sync that was not put here.
abbrev pub IsCalledBy : SendEnd → SendStep → LaneUnit → Type 0
IsCalledBy e (Confirm n) (u.SyncAck m) = (m ≡ n) × (goes_on e.state (last_of e.state) ≡ true)
    × (confirmed_of e.state < n) × (n ≤ synced e.stage)
IsCalledBy e Sent (u.EndAck k) = is_ending e.state k ≡ true
IsCalledBy e Sent u.Completed = (is_ending e.state (last_of e.state) ≡ true) × (is_discarded e.stage ≡ true)
IsCalledBy e Dropped (u.DiscardAck k) = is_live e.state k ≡ true
IsCalledBy e Refused u.Exception = is_idle e.state ≡ false
IsCalledBy e Denied u.Unrecognized = is_idle e.state ≡ false
IsCalledBy e Denied u.CannotRecover = is_idle e.state ≡ false
IsCalledBy e step x = ⊥

abbrev pub MayMake : SendEnd → SendStep → Type 0
MayMake e (Start octets) = (is_idle e.state ≡ true) × (e.stage ≡ Quiet) × (1 ≤ length octets)
MayMake e To_end = is_sending e.state (last_of e.state) ≡ true
MayMake e Abandon = is_sending e.state (last_of e.state) ≡ true
-- every other step answers the unit that was got last
MayMake e step = (x : LaneUnit) × (e.heard ≡ Some x) × IsCalledBy e step x

abbrev pub state_after : SendState → SendStep → SendState
state_after s (Start octets) = Sending (last_of s + 1) 0
state_after s (Confirm n) = confirmed_at s n
state_after s To_end = Ending (last_of s) (confirmed_of s)
state_after s Sent = Idle (last_of s)
state_after s Dropped = Idle (last_of s)
state_after s Refused = Idle (last_of s)
state_after s Denied = Idle (last_of s)
state_after s Abandon = Dropping (last_of s)

abbrev pub stage_after : SendEnd → SendStep → SendStage
stage_after e (Start octets) = Started (last_of e.state + 1)
stage_after e (Confirm n) = e.stage
stage_after e To_end = e.stage
stage_after e Sent = Quiet
stage_after e Dropped = Quiet
stage_after e Refused = Quiet
stage_after e Denied = Quiet
stage_after e Abandon = e.stage

abbrev pub octets_after : List ℕ → SendStep → List ℕ
octets_after before (Start octets) = octets
octets_after before step = before

-- any worker may make an Abandon, so the unit got last may still be answered behind it
abbrev pub heard_after : Option LaneUnit → SendStep → Option LaneUnit
heard_after heard Abandon = heard
heard_after heard step = None

abbrev pub made : SendEnd → SendStep → SendEnd
made e step = record e {
  state = state_after e.state step;
  octets = octets_after e.octets step;
  stage =
      stage_after e step;
  heard = heard_after e.heard step;
}

-- A new link
abbrev pub stage_on_link : SendState → SendStage
stage_on_link (Idle last) = Quiet
stage_on_link (Sending k c) = Opened
stage_on_link (Ending k c) = Opened
stage_on_link (Dropping k) = Opened

abbrev pub on_link : SendEnd → (accepted : Bool) → SendEnd
on_link e accepted = record e { accepted = accepted; stage = stage_on_link e.state; heard = None }

-- Nothing is owed: the unit got last calls for no step, and all that may be put was put --------------

abbrev pub StageOwesNothing : SendEnd → SendStage → Type 0
StageOwesNothing e Quiet = Unit {0}
StageOwesNothing e Opened = ⊥
StageOwesNothing e (Started k) = ⊥
StageOwesNothing e (Next k n) = (goes_on e.state k ≡ true) × (n ≡ confirmed_of e.state + e.window)
StageOwesNothing e (Sync_next k n) = ⊥
StageOwesNothing e (Last_put k n) = ⊥
StageOwesNothing e (End_put k n) = Unit {0}
StageOwesNothing e (Resume_put k n) = goes_on e.state k ≡ true
StageOwesNothing e (Discard_put k) = Unit {0}

-- the unit got last calls for no step
abbrev pub CallsForNothing : SendEnd → Type 0
CallsForNothing e = (x : LaneUnit) (step : SendStep) → e.heard ≡ Some x → IsCalledBy e step x → ⊥

-- of an end that has the turn and, where it needs one, the Accept
abbrev pub OwesNothing : SendEnd → Type 0
OwesNothing e = CallsForNothing e × StageOwesNothing e e.stage

-- Lists of events -----------------------------------------------------------------------------

pub data SendEvent : Type 0 where
  New_link : (accepted : Bool) → SendEvent
  Put : LaneUnit → SendEvent
  Got : LaneUnit → SendEvent
  Made : SendStep → SendEvent

abbrev pub SendAllows : SendEnd → SendEvent → Type 0
SendAllows e (New_link accepted) = Unit {0}
SendAllows e (Put x) = MayPut e x
SendAllows e (Got x) = Unit {0}
SendAllows e (Made step) = MayMake e step

abbrev pub send_after : SendEnd → SendEvent → SendEnd
send_after e (New_link accepted) = on_link e accepted
send_after e (Put x) = put e x
send_after e (Got x) = got e x
send_after e (Made step) = made e step

-- The rules allow each event, and the events lead from the one end to the other.
abbrev pub IsSendingEnd : SendEnd → List SendEvent → SendEnd → Type 0
IsSendingEnd e [] f = f ≡ e
IsSendingEnd e (x ∷ xs) f = SendAllows e x × IsSendingEnd (send_after e x) xs f
