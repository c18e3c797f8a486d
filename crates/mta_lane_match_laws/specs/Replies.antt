-- The replies of the spool meet the session's conditions.
use Rattle.std.specs.Prelude.{◌≡◌, ◌≤◌, length, ℕ, true, List, Some, Ok}
use Rattle.mta_lane_recv.specs.Half.{RecvStep}
use Rattle.mta_lane_recv.specs.Half as recv
use Rattle.mta_transfer_rules.specs.Sending.{SendEnd}
use Rattle.mta_transfer_rules.specs.Receiving as r
use Rattle.mta_records.specs.Outgoing.{Carried}
use Rattle.mta_histories.specs.Lanes.{Lane}
use Rattle.mta_histories.specs.Lanes as spool
use Rattle.mta_histories.specs.History.{LaneNeeds, Receives, longest_piece}
use Rattle.mta_histories.specs.Kept.{IsKept, IsWhole}
use Rattle.mta_session.specs.State.{State}
use Rattle.mta_session.specs.Fits.{FitsAt, RepliesTo, StartFits}
use Rattle.mta_session.specs.Wanted.{is_given_up}
use Rattle.mta_session.specs.declared.phase.Phase.{Phase}
use Rattle.mta_session.specs.declared.phase.Phase.TheVariants as phase
use Rattle.mta_session.specs.declared.phase.OwnStep.{OwnStep}
use Rattle.mta_session.specs.declared.phase.OwnStep.TheVariants as own
use Rattle.mta_session.specs.declared.ask.Reply.{Reply}
use Rattle.mta_session.specs.declared.ask.Reply.TheVariants as reply
use Rattle.mta_lane_match_laws.specs.Matches.{known, IsKnown}
use Rattle.mta_lane_match_laws.specs.Calls.{IsReplyOf, step_on, sending_of}

-- The reply is of the kind that is asked for. The looks of the turn of a Bind, and the peer's line, stand apart, as
-- more is asked of them.
abbrev pub IsReplyTo : Phase → Reply → Type 0
IsReplyTo phase.AsksStands (reply.LaneOf x) = Unit {0}
IsReplyTo (phase.AsksNewLane again) (reply.LaneOpen x) = Unit {0}
IsReplyTo phase.AsksSpare (reply.SpareLane x) = Unit {0}
IsReplyTo phase.AsksRoom (reply.CloseLane x) = Unit {0}
IsReplyTo phase.AsksOldLane (reply.LaneOf x) = Unit {0}
IsReplyTo phase.AsksBind (reply.Bind x) = Unit {0}
IsReplyTo phase.AsksAgree (reply.LaneAgree x) = Unit {0}
IsReplyTo phase.AsksDenied (reply.Denied x) = Unit {0}
IsReplyTo phase.AsksDue (reply.BatchFor x) = Unit {0}
IsReplyTo phase.AsksBatch (reply.BatchFor x) = Unit {0}
IsReplyTo phase.AsksStart (reply.Start x) = Unit {0}
IsReplyTo phase.AsksStillIdle (reply.Recovery x) = Unit {0}
IsReplyTo (phase.AsksStep (own.Confirm n)) (reply.Confirm x) = Unit {0}
IsReplyTo (phase.AsksStep own.Ending) (reply.Ending x) = Unit {0}
IsReplyTo (phase.AsksStep own.Sent) (reply.Sent x) = Unit {0}
IsReplyTo (phase.AsksStep own.Dropped) (reply.Dropped x) = Unit {0}
IsReplyTo (phase.AsksStep (own.Refused kind)) (reply.Refused x) = Unit {0}
IsReplyTo phase.AsksState (reply.Recovery x) = Unit {0}
IsReplyTo (phase.AsksSecure k n) (reply.Secure x) = Unit {0}
IsReplyTo (phase.AsksComplete k n) (reply.Complete x) = Unit {0}
IsReplyTo (phase.AsksDrop k found) (reply.DropActivity x) = Unit {0}
IsReplyTo phase.AsksClose (reply.CloseLane x) = Unit {0}
IsReplyTo (phase.AsksLast end) (reply.CloseLane x) = Unit {0}
IsReplyTo (phase.AsksLast end) (reply.Denied x) = Unit {0}
IsReplyTo (phase.AsksLast end) (reply.Sent x) = Unit {0}
IsReplyTo _ _ = ⊥

abbrev pub StartsFit : SendEnd → Reply → Type 0
StartsFit e (reply.Start x) = StartFits e x
StartsFit e _ = Unit {0}

-- Such a reply meets the session's condition, but that more is asked of a Start.
abbrev pub RepliesAnswer : Type 0
RepliesAnswer = (t : State) (x : Reply) → IsReplyTo t.phase x → StartsFit t.send x → RepliesTo t.phase t x

-- a look tells that the lane's sending half is the session's
abbrev pub IsStill : State → spool.State → Type 0
IsStill t s = sending_of (spool.lane_at t.lane s.lanes.open_lanes) ≡ Some t.send.state

-- An activity that is started where a look of the same turn tells so is the next one, and has octets, as many as one
-- may have at most. Nothing is asked of what other workers did.
abbrev pub StartsAnswer : Type 0
StartsAnswer =
    (t : State) (s after : spool.State) (handed : List ℕ) (o : Carried) → IsKept s → IsStill t s
    → IsReplyOf phase.AsksStart handed t s (reply.Start (Ok o)) after
    → StartFits t.send (Ok o)

-- The look tells so of a lane that is as the session knows it.
abbrev pub LooksStill : Type 0
LooksStill =
    (t : State) (pieces : List (List ℕ)) (s : spool.State) (lane : Lane) → FitsAt phase.AsksStart t
    → spool.lane_at t.lane s.lanes.open_lanes ≡ Some lane → IsKnown (known t pieces) lane → IsStill t s

-- An own step that the lane does not allow is refused for one cause alone: the activity was given up, and may be
-- discarded.
abbrev pub RefusedIsGivenUp : Type 0
RefusedIsGivenUp =
    (t : State) (pieces : List (List ℕ)) (s : spool.State) (lane : Lane) (step : OwnStep) (moment : ℕ)
    → FitsAt (phase.AsksStep step) t → IsKnown (known t pieces) lane
    → (LaneNeeds s lane (step_on t step) moment → ⊥) → is_given_up t lane.sending ≡ true

-- what the spool needs of a piece, but for the octets that all pieces spell
pub record MayKeep (lane : Lane) (step : RecvStep) (piece : List ℕ) : Type 0 where
  pub agreed : lane.agreed ≡ true
  pub taken : Receives lane step
  pub some_octets : 1 ≤ length piece
  pub short : length piece ≤ longest_piece lane.checkpoint

-- A piece that is handed on may be kept: it is refused only where the pieces are too many octets or spell no APDU.
abbrev pub PiecesMayBeKept : Type 0
PiecesMayBeKept =
    (t : State) (pieces : List (List ℕ)) (lane : Lane) (k n : ℕ) (piece : List ℕ) → FitsAt phase.Puts t
    → IsWhole lane
    → IsKnown (known t pieces) lane
    → (r.MayMake t.recv (r.Secure k n piece) → MayKeep lane (recv.Secure k n) piece)
    × (r.MayMake t.recv (r.Complete k n piece) → MayKeep lane (recv.Complete k n) piece)
