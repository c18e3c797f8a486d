-- The rules of a receiving end on one link (X.228 clause 7): which units it takes, what it answers, and which
-- steps its half makes.
use Rattle.std.specs.Prelude.{◌≡◌, ◌⊎◌, ◌<◌, ◌≤◌, ℕ, ◌+◌, ◌&&◌, ◌||◌, ◌==◌}
use Rattle.std.specs.Prelude.{nat_lt, nat_le, not, max, if◌then◌else◌, Bool, true, false, Option, Some, None}
use Rattle.std.specs.Prelude.{IsSome, unwrap_or, List, [], ◌∷◌}
use Rattle.mta_lane_recv.specs.declared.state.Last.{Last}
use Rattle.mta_lane_recv.specs.declared.state.Last.TheVariants as last
use Rattle.mta_lane_recv.specs.Half.{is_done, is_partial, is_partial_of, stands, takes_piece}
use Rattle.mta_transfer_rules.specs.Units.{LaneUnit}
use Rattle.mta_transfer_rules.specs.Units as u

-- Steps of the half: a piece is durable, the last piece with the message, a part is dropped
pub data RecvStep : Type 0 where
  Secure : (activity number : ℕ) (piece : List ℕ) → RecvStep
  Complete : (activity number : ℕ) (piece : List ℕ) → RecvStep
  Drop : (activity : ℕ) → RecvStep

-- What was taken on the link, and what the unit taken last calls for
pub data RecvStage : Type 0 where
  Free : RecvStage  -- no transfer goes on
  Next : (activity number : ℕ) → RecvStage  -- so many pieces came, each with its Sync
  Held : (activity number : ℕ) (piece : List ℕ) → RecvStage  -- the piece of this number came
  Synced : (activity number : ℕ) (piece : List ℕ) → RecvStage  -- and its Sync: it may be made durable
  Ended : (activity number : ℕ) (piece : List ℕ)
      → RecvStage  -- End behind it: the activity may be completed, and EndAck is due
  Asked : (activity number : ℕ) → RecvStage  -- Resume came: its answer is due
  Discards : (activity : ℕ) → RecvStage  -- Discard came: its answer is due
  Found : (activity : ℕ) → RecvStage  -- its octets are none of a message: Exception is due
  Skips : (activity : ℕ) → RecvStage  -- Exception was put: what still comes of it passes

-- A receiving end: its durable half, and what it did on the link. The transfer began here behind piece
-- `from`, and `acked` is the highest SyncAck put in it.
pub record RecvEnd : Type 0 where
  pub high : ℕ
  pub last : Last
  pub stage : RecvStage
  pub from : ℕ
  pub acked : ℕ

-- Units taken ------------------------------------------------------------------------------

abbrev pub when : Bool → RecvEnd → Option RecvEnd
when true e = Some e
when false e = None

abbrev pub in_stage : RecvEnd → RecvStage → RecvEnd
in_stage e stage = record e { stage = stage }

-- Start k: it is above the highest, no part stands, and no transfer goes on
abbrev pub take_start : RecvStage → RecvEnd → ℕ → Option RecvEnd
take_start Free e k = when (nat_lt e.high k && not (is_partial e.last)) (record e {
  stage = Next k 0;
  from =
      0;
  acked = 0;
})
take_start (Skips j) e k =
    when (nat_lt e.high k && not (is_partial e.last)) (record e { stage = Next k 0; from = 0; acked = 0 })
take_start _ e k = None

-- a piece where one is next
abbrev pub take_piece : RecvStage → RecvEnd → List ℕ → Option RecvEnd
take_piece (Next k n) e piece = Some (in_stage e (Held k (n + 1) piece))
take_piece (Synced k n held) e piece = Some (in_stage e (Held k (n + 1) piece))
take_piece (Skips k) e piece = Some e
take_piece _ e piece = None

-- behind each piece the Sync of its number
abbrev pub take_sync : RecvStage → RecvEnd → ℕ → Option RecvEnd
take_sync (Held k n piece) e m = when (m == n) (in_stage e (Synced k n piece))
take_sync (Skips k) e m = Some e
take_sync _ e m = None

-- or End k
abbrev pub take_end : RecvStage → RecvEnd → ℕ → Option RecvEnd
take_end (Held k n piece) e j = when (j == k) (in_stage e (Ended k n piece))
take_end (Skips k) e j = when (j == k) e
take_end _ e j = None

-- or Discard k, which also comes where no transfer goes on
abbrev pub take_discard : RecvStage → RecvEnd → ℕ → Option RecvEnd
take_discard Free e j = Some (in_stage e (Discards j))
take_discard (Next k n) e j = when (j == k) (in_stage e (Discards j))
take_discard (Held k n piece) e j = when (j == k) (in_stage e (Discards j))
take_discard (Synced k n piece) e j = when (j == k) (in_stage e (Discards j))
take_discard (Skips k) e j = if j == k then Some e else Some (in_stage e (Discards j))
take_discard _ e j = None

-- Resume k, n: what stands of k has n pieces, n at least 1, or nothing of k stands
abbrev pub may_resume : Last → ℕ → ℕ → Bool
may_resume held k n = if is_done held k || is_partial_of held k then (nat_le 1 n && stands held k n) else true

abbrev pub take_resume : RecvStage → RecvEnd → ℕ → ℕ → Option RecvEnd
take_resume Free e k n = when (may_resume e.last k n) (in_stage e (Asked k n))
take_resume _ e k n = None

-- the end after it took the unit; None where the unit is not allowed here
abbrev pub take : RecvEnd → LaneUnit → Option RecvEnd
take e (u.Start k) = take_start e.stage e k
take e (u.Piece piece) = take_piece e.stage e piece
take e (u.Sync m) = take_sync e.stage e m
take e (u.End k) = take_end e.stage e k
take e (u.Resume k n) = take_resume e.stage e k n
take e (u.Discard k) = take_discard e.stage e k
take e u.Accept = Some e
take e u.Other = Some e
take e _ = None

-- Units put --------------------------------------------------------------------------------

-- k goes on over this link, and its Syncs up to n came here
abbrev pub Syncs : RecvStage → (activity number : ℕ) → Type 0
Syncs (Next k n) j m = (j ≡ k) × (m ≤ n)
Syncs (Held k n piece) j m = (j ≡ k) × (m < n)
Syncs (Synced k n piece) j m = (j ≡ k) × (m ≤ n)
Syncs (Ended k n piece) j m = (j ≡ k) × (m < n)
Syncs _ j m = ⊥

abbrev pub MayPut : RecvEnd → LaneUnit → Type 0
-- for a Sync of this transfer, where its pieces are durable
MayPut e (u.SyncAck m) = (k : ℕ) × Syncs e.stage k m × (e.from < m) × (stands e.last k m ≡ true)
-- for End, where the activity is done
MayPut e (u.EndAck k) = (n : ℕ) × (piece : List ℕ) × (e.stage ≡ Ended k n piece) × (is_done e.last k ≡ true)
-- in answer to Resume
MayPut e (u.ResumeAck k n) = (e.stage ≡ Asked k n) × (1 ≤ n) × (stands e.last k n ≡ true)
MayPut e u.Unrecognized = (k n : ℕ) × (e.stage ≡ Asked k n) × (is_done e.last k ≡ false)
    × (is_partial_of e.last k ≡ false)
-- in answer to Discard
MayPut e (u.DiscardAck k) = (e.stage ≡ Discards k) × (is_done e.last k ≡ false)
    × (is_partial_of e.last k ≡ false)
MayPut e u.Completed = (k : ℕ) × (e.stage ≡ Discards k) × (is_done e.last k ≡ true)
-- where octets are none of a message, once nothing of the activity stands
MayPut e u.Exception = (k : ℕ) × (e.stage ≡ Found k) × (is_partial_of e.last k ≡ false)
MayPut e u.Accept = Unit {0}
MayPut e u.Other = Unit {0}
MayPut e _ = ⊥

abbrev pub skipped : RecvStage → RecvStage
skipped (Found k) = Skips k
skipped s = s

abbrev pub put : RecvEnd → LaneUnit → RecvEnd
put e (u.SyncAck m) = record e { acked = max e.acked m }
put e (u.EndAck k) = in_stage e Free
put e (u.ResumeAck k n) = record e { stage = Next k n; from = n; acked = n }
put e u.Unrecognized = in_stage e Free
put e (u.DiscardAck k) = in_stage e Free
put e u.Completed = in_stage e Free
put e u.Exception = in_stage e (skipped e.stage)
put e _ = e

-- Steps made -------------------------------------------------------------------------------

abbrev pub MayMake : RecvEnd → RecvStep → Type 0
MayMake e (Secure k n piece) = (e.stage ≡ Synced k n piece) × (takes_piece e.high e.last k n ≡ true)
MayMake e (Complete k n piece) = (e.stage ≡ Ended k n piece) × (takes_piece e.high e.last k n ≡ true)
MayMake e (Drop k) = ((e.stage ≡ Discards k) ⊎ (e.stage ≡ Found k)) × (is_partial_of e.last k ≡ true)

abbrev pub made : RecvEnd → RecvStep → RecvEnd
made e (Secure k n piece) = record e { high = k; last = last.Partial k n; stage = Next k n }
made e (Complete k n piece) = record e { high = k; last = last.Done k }
made e (Drop k) = record e { last = last.None }

-- The octets up to this piece were found to be none of a message
abbrev pub MayFind : RecvEnd → (activity number : ℕ) (piece : List ℕ) → Type 0
MayFind e k n piece =
    ((e.stage ≡ Held k n piece) ⊎ ((e.stage ≡ Synced k n piece) ⊎ (e.stage ≡ Ended k n piece)))
    × (takes_piece e.high e.last k n ≡ true)

abbrev pub found : RecvEnd → (activity : ℕ) → RecvEnd
found e k = in_stage e (Found k)

-- A new link
abbrev pub on_link : RecvEnd → RecvEnd
on_link e = record e { stage = Free; from = 0; acked = 0 }

-- Nothing is owed: each unit that is answered has its answer --------------------------------

abbrev pub StageOwesNothing : RecvStage → (acked : ℕ) → Type 0
StageOwesNothing Free acked = Unit {0}
StageOwesNothing (Next k n) acked = acked ≡ n
StageOwesNothing (Held k n piece) acked = acked + 1 ≡ n
StageOwesNothing (Synced k n piece) acked = acked ≡ n
StageOwesNothing (Ended k n piece) acked = ⊥
StageOwesNothing (Asked k n) acked = ⊥
StageOwesNothing (Discards k) acked = ⊥
StageOwesNothing (Found k) acked = ⊥
StageOwesNothing (Skips k) acked = Unit {0}

abbrev pub OwesNothing : RecvEnd → Type 0
OwesNothing e = StageOwesNothing e.stage e.acked

-- Lists of events ----------------------------------------------------------------------------

pub data RecvEvent : Type 0 where
  New_link : RecvEvent
  Took : LaneUnit → RecvEvent
  Put : LaneUnit → RecvEvent
  Made : RecvStep → RecvEvent
  Finds : (activity number : ℕ) (piece : List ℕ) → RecvEvent

abbrev pub RecvAllows : RecvEnd → RecvEvent → Type 0
RecvAllows e New_link = Unit {0}
RecvAllows e (Took x) = IsSome (take e x)
RecvAllows e (Put x) = MayPut e x
RecvAllows e (Made step) = MayMake e step
RecvAllows e (Finds k n piece) = MayFind e k n piece

abbrev pub recv_after : RecvEnd → RecvEvent → RecvEnd
recv_after e New_link = on_link e
recv_after e (Took x) = unwrap_or (take e x) e
recv_after e (Put x) = put e x
recv_after e (Made step) = made e step
recv_after e (Finds k n piece) = found e k

-- The rules allow each event, and the events lead from the one end to the other.
abbrev pub IsReceivingEnd : RecvEnd → List RecvEvent → RecvEnd → Type 0
IsReceivingEnd e [] f = f ≡ e
IsReceivingEnd e (x ∷ xs) f = RecvAllows e x × IsReceivingEnd (recv_after e x) xs f
