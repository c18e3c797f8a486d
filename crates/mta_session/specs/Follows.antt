-- One call of `step`: what is done for what the last event calls for.
use Rattle.std.specs.Prelude.{◌≡◌, ℕ, ◌-◌, ◌<◌, ◌==◌, if◌then◌else◌, true, Some, None}
use Rattle.mta_units.specs.declared.unit.Unit.{Unit as AnyUnit}
use Rattle.mta_units.specs.declared.unit.Unit.TheVariants as unit
use Rattle.mta_lane_send.specs.Half.{is_sending}
use Rattle.mta_lane_recv.specs.declared.state.Last.{Last}
use Rattle.mta_lane_recv.specs.Half.{is_done}
use Rattle.mta_transfer_rules.specs.Units.{LaneUnit}
use Rattle.mta_transfer_rules.specs.Units as u
use Rattle.mta_transfer_rules.specs.Sending as s
use Rattle.mta_transfer_rules.specs.Receiving as r
use Rattle.mta_transfer_rules.specs.Receiving.{RecvEnd, RecvStage}
use Rattle.mta_session.specs.declared.ask.Ask.{Ask}
use Rattle.mta_session.specs.declared.ask.Ask.TheVariants as ask
use Rattle.mta_session.specs.declared.event.Event.{Event}
use Rattle.mta_session.specs.declared.event.Event.TheVariants as event
use Rattle.mta_session.specs.declared.event.Action.{Action}
use Rattle.mta_session.specs.declared.event.Action.TheVariants as action
use Rattle.mta_session.specs.declared.event.SessionEnd.TheVariants as end
use Rattle.mta_session.specs.declared.phase.Phase.{Phase}
use Rattle.mta_session.specs.declared.phase.Phase.TheVariants as phase
use Rattle.mta_session.specs.declared.phase.Found.{Found}
use Rattle.mta_session.specs.declared.phase.OwnStep.TheVariants as own
use Rattle.mta_session.specs.Receiving.{emptied}
use Rattle.mta_session.specs.State.{State, in_phase, let_go, peer_of}
use Rattle.mta_session.specs.Wanted.{Wanted, Aborts, Rejects, Ends, Puts, Asks, Reads, Goes_on, Excepts, Never, wanted}

-- Whose rules a unit is under ----------------------------------------------------------------

pub data Part : Type 0 where
  Of_sender : LaneUnit → Part
  Of_receiver : LaneUnit → Part
  Of_neither : Part

abbrev pub part_of_abort : ℕ → Part
part_of_abort reason =
    if reason == 7 then Of_receiver u.Completed else (if reason == 2 then Of_receiver u.Unrecognized else Of_neither)

abbrev pub part_of : AnyUnit → Part
part_of (unit.Start k) = Of_sender (u.Start k)
part_of (unit.Piece octets) = Of_sender (u.Piece octets)
part_of (unit.Sync n) = Of_sender (u.Sync n)
part_of (unit.End k) = Of_sender (u.End k)
part_of (unit.Resume k n) = Of_sender (u.Resume k n)
part_of (unit.Discard k) = Of_sender (u.Discard k)
part_of (unit.SyncAck n) = Of_receiver (u.SyncAck n)
part_of (unit.EndAck k) = Of_receiver (u.EndAck k)
part_of (unit.ResumeAck k n) = Of_receiver (u.ResumeAck k n)
part_of (unit.DiscardAck k) = Of_receiver (u.DiscardAck k)
part_of (unit.Abort reason) = part_of_abort reason
part_of _ = Of_neither

-- an Abort in answer to a unit is the last unit
abbrev pub phase_behind : AnyUnit → Phase
phase_behind (unit.Abort reason) = phase.PutsLast (end.Aborted reason)
phase_behind _ = phase.Puts

-- Going on: one thing that the rules of the two ends allow -----------------------------------

-- Where a Sync came last its piece is durable. Behind an End nothing is settled before the activity is completed, and
-- at each other stage all is.
abbrev pub IsSettled : RecvStage → Last → Type 0
IsSettled (r.Synced k n piece) last = is_done last k ≡ true
IsSettled (r.Ended k n piece) last = ⊥
IsSettled _ last = Unit {0}

-- The acknowledgement of a Sync is due: the Sync is not acknowledged yet, and nothing is to be made durable before.
abbrev pub IsDueAck : RecvEnd → LaneUnit → Type 0
IsDueAck e (u.SyncAck n) = (e.acked < n) × IsSettled e.stage e.last
IsDueAck e _ = Unit {0}

abbrev pub PutsFor : State → Part → AnyUnit → State → Type 0
PutsFor t (Of_sender x) unit new =
    (t.ours ≡ true) × s.MayPut t.send x × (new ≡ record t { phase = phase_behind unit; send = s.put t.send x })
PutsFor t (Of_receiver x) unit new =
    r.MayPut t.recv x × (new ≡ record t { phase = phase_behind unit; recv = r.put t.recv x }) × IsDueAck t.recv x
PutsFor t Of_neither unit new = ⊥

-- the piece goes along with the question
abbrev pub hands_on : State → Phase → State
hands_on t phase = record t { phase = phase; recv = record t.recv { stage = emptied t.recv.stage } }

abbrev pub AsksFor : State → Ask → State → Type 0
AsksFor t (ask.Secure lane g k n piece) new =
    r.MayMake t.recv (r.Secure k n piece) × (lane ≡ t.lane) × (g ≡ t.generation)
    × (new ≡ hands_on t (phase.AsksSecure k n))
AsksFor t (ask.Complete lane g k n piece) new =
    r.MayMake t.recv (r.Complete k n piece) × (lane ≡ t.lane) × (g ≡ t.generation)
    × (new ≡ hands_on t (phase.AsksComplete k n))
AsksFor t (ask.DropActivity lane g k) new =
    r.MayMake t.recv (r.Drop k) × (lane ≡ t.lane) × (g ≡ t.generation)
    × (new ≡ in_phase t (phase.AsksDrop k None))
-- End is next
AsksFor t (ask.Ending lane g k) new =
    (t.ours ≡ true) × (n : ℕ) × (t.send.stage ≡ s.Last_put k n) × (is_sending t.send.state k ≡ true)
    × (lane ≡ t.lane)
    × (g ≡ t.generation) × (new ≡ in_phase t (phase.AsksStep own.Ending))
-- no activity is under way
AsksFor t (ask.BatchFor peer) new =
    (t.ours ≡ true) × (t.send.stage ≡ s.Quiet) × (peer ≡ peer_of t.side t.opened)
    × (new ≡ in_phase t phase.AsksBatch)
AsksFor t _ new = ⊥

-- Nothing is owed: each unit taken has its answer, and a holder of the turn has put all that it may.
pub record OwesNothing (t : State) : Type 0 where
  pub taken : r.OwesNothing t.recv
  pub put : t.ours ≡ true → s.OwesNothing t.send
  pub next : t.ours ≡ true → t.send.stage ≡ s.Quiet → ⊥

abbrev pub GoesOn : State → Action → State → Type 0
GoesOn t (action.Put x) new = PutsFor t (part_of x) x new
GoesOn t (action.Ask a) new = AsksFor t a new
GoesOn t action.Read new = OwesNothing t × (new ≡ in_phase t phase.Reads)
GoesOn t (action.Finish e) new = ⊥

-- Octets that are none of a message: what stands of them is dropped, and then Exception is put.
abbrev pub ExceptsFor : State → Found → Action → State → Type 0
ExceptsFor t found (action.Ask (ask.DropActivity lane g k)) new =
    r.MayMake t.recv (r.Drop k) × (lane ≡ t.lane) × (g ≡ t.generation)
    × (new ≡ in_phase t (phase.AsksDrop k (Some found)))
ExceptsFor t found (action.Put (unit.Exception kind at)) new =
    r.MayPut t.recv u.Exception × (kind ≡ found.kind) × (at ≡ found.at)
    × (new ≡ record t { phase = phase.Puts; recv = r.put t.recv u.Exception })
ExceptsFor t found _ new = ⊥

-- What is done --------------------------------------------------------------------------------

abbrev pub Does : State → Wanted → Action → State → Type 0
Does t (Aborts reason) a new =
    (a ≡ action.Put (unit.Abort reason)) × (new ≡ in_phase (let_go t) (phase.PutsLast (end.Aborted reason)))
Does t (Rejects reason) a new =
    (a ≡ action.Put (unit.Reject reason)) × (new ≡ in_phase (let_go t) (phase.PutsLast (end.Refused reason)))
Does t (Ends e) a new = (a ≡ action.Finish e) × (new ≡ in_phase (let_go t) (phase.Ended e))
Does t (Puts x after) a new = (a ≡ action.Put x) × (new ≡ after)
Does t (Asks x after) a new = (a ≡ action.Ask x) × (new ≡ after)
Does t (Reads after) a new = (a ≡ action.Read) × (new ≡ after)
Does t (Goes_on after) a new = GoesOn after a new
Does t (Excepts after found) a new = ExceptsFor after found a new
Does t Never a new = ⊥

-- the units that are left
abbrev pub counted : State → Event → State
counted t (event.Unit x) = record t { left = t.left - 1 }
counted t event.BadUnit = record t { left = t.left - 1 }
counted t _ = t

-- an ended session answers its end for good
abbrev pub FollowsAt : Phase → State → Event → Action → State → Type 0
FollowsAt (phase.Ended e) t x a new = (a ≡ action.Finish e) × (new ≡ t)
FollowsAt _ t x a new = Does (counted t x) (wanted (counted t x) x) a new

abbrev pub Follows : State → Event → Action → State → Type 0
Follows t x a new = FollowsAt t.phase t x a new
