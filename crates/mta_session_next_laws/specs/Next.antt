-- What a session goes on with, by what was put and taken on the link: one unit, one question, or the next unit is read
-- (X.228 clause 7).
use Rattle.std.specs.Prelude.{◌≡◌, ◌<◌, ◌≤◌, ℕ, ◌+◌, ◌-◌, ◌==◌, nat_lt, if◌then◌else◌, Bool, true, false, None, Some}
use Rattle.std.specs.Prelude.{◌*◌, ◌^◌, List, length}
use Rattle.std.specs.Prelude.{Ok, []}
use Rattle.mta_units.specs.declared.unit.Unit.{Unit as AnyUnit}
use Rattle.mta_units.specs.declared.unit.Unit.TheVariants as unit
use Rattle.mta_lane_send.specs.Half.{confirmed_of, goes_on, is_ending, last_of}
use Rattle.mta_lane_recv.specs.Half.{IsOfHigh, is_done, is_partial_of, stands}
use Rattle.mta_transfer_rules.specs.Pieces.{piece_of}
use Rattle.mta_transfer_rules.specs.Units.{LaneUnit}
use Rattle.mta_transfer_rules.specs.Units as u
use Rattle.mta_transfer_rules.specs.Sending as s
use Rattle.mta_transfer_rules.specs.Sending.{SendEnd, SendStage, is_dropping}
use Rattle.mta_records.specs.Outgoing.{Carried}
use Rattle.mta_session.specs.declared.ask.Reply.{Reply}
use Rattle.mta_session.specs.declared.ask.Reply.TheVariants as reply
use Rattle.mta_transfer_rules.specs.Receiving as r
use Rattle.mta_transfer_rules.specs.Receiving.{RecvEnd, RecvStage}
use Rattle.mta_session.specs.declared.ask.Ask.TheVariants as ask
use Rattle.mta_session.specs.declared.event.Action.{Action}
use Rattle.mta_session.specs.declared.event.Action.TheVariants as action
use Rattle.mta_session.specs.declared.phase.Phase.TheVariants as phase
use Rattle.mta_session.specs.declared.phase.OwnStep.{OwnStep}
use Rattle.mta_session.specs.declared.phase.OwnStep.TheVariants as own
use Rattle.mta_session.specs.declared.event.Event.{Event}
use Rattle.mta_session.specs.declared.event.Event.TheVariants as event
use Rattle.mta_session.specs.Follows.{Follows, GoesOn, counted, hands_on, phase_behind}
use Rattle.mta_session.specs.Rank.{is_over}
use Rattle.mta_session.specs.Receiving.{admits, is_free, taken}
use Rattle.mta_session.specs.Sending.{called}
use Rattle.mta_session.specs.Wanted.{Asks, Goes_on, after_step, ask_of, wanted}
use Rattle.mta_session.specs.RecvFits.{RecvFits}
use Rattle.mta_session.specs.State.{State, in_phase, peer_of}

-- the next unit is read
abbrev pub reads : State → Action × State
reads t = (action.Read, in_phase t phase.Reads)

-- ---- with the turn

-- a unit of the own activity is put
abbrev pub puts : State → AnyUnit → LaneUnit → Action × State
puts t x y = (action.Put x, record t { phase = phase.Puts; send = s.put t.send y })

-- an activity that was under way when the link was opened goes on behind what is confirmed, or is discarded where
-- nothing is
abbrev pub goes_on_behind : (activity confirmed : ℕ) → State → Action × State
goes_on_behind k c t =
    if c == 0 then puts t (unit.Discard k) (u.Discard k) else puts t (unit.Resume k c) (u.Resume k c)

-- the next piece, while the window lets it
abbrev pub piece_next : (number : ℕ) → State → Action × State
piece_next n t =
    let piece = piece_of t.send.size t.send.octets (n + 1) in
    if nat_lt n (confirmed_of t.send.state + t.send.window) then puts t (unit.Piece piece) (u.Piece piece) else reads t

-- Ending is made durable, and then End is put
abbrev pub end_next : (activity : ℕ) → State → Action × State
end_next k t =
    if is_ending t.send.state k then puts t (unit.End k) (u.End k)
    else (action.Ask (ask.Ending t.lane t.generation k), in_phase t (phase.AsksStep own.Ending))

abbrev pub next_of_sender : SendStage → State → Action × State
next_of_sender s.Quiet t = (action.Ask (ask.BatchFor (peer_of t.side t.opened)), in_phase t phase.AsksBatch)
next_of_sender s.Opened t = goes_on_behind (last_of t.send.state) (confirmed_of t.send.state) t
next_of_sender (s.Started k) t = puts t (unit.Start k) (u.Start k)
next_of_sender (s.Next k n) t = piece_next n t
next_of_sender (s.Sync_next k n) t = puts t (unit.Sync n) (u.Sync n)
next_of_sender (s.Last_put k n) t = end_next k t
next_of_sender (s.End_put k n) t = reads t
next_of_sender (s.Resume_put k n) t = reads t
next_of_sender (s.Discard_put k) t = reads t

-- A session that has the turn, whose activity is not given up, goes on so.
abbrev pub HoldersGoOn : Type 0
HoldersGoOn =
    (t : State) (a : Action) (new : State) → t.ours ≡ true → is_dropping t.send.state ≡ false
    → is_free t.recv.stage ≡ true → GoesOn t a new
    → ◌≡◌ {A = Action × State} (a, new) (next_of_sender t.send.stage t)

-- ---- without it

-- an answer is put
abbrev pub answers : State → AnyUnit → LaneUnit → Action × State
answers t x y = (action.Put x, record t { phase = phase_behind x; recv = r.put t.recv y })

-- the Sync taken last is acknowledged, unless it is already
abbrev pub ack_next : (number : ℕ) → State → Action × State
ack_next n t = if nat_lt t.recv.acked n then answers t (unit.SyncAck n) (u.SyncAck n) else reads t

abbrev pub next_of_receiver : RecvStage → State → Action × State
next_of_receiver r.Free t = reads t
next_of_receiver (r.Next k n) t = ack_next n t
next_of_receiver (r.Held k n piece) t = reads t
-- it is made durable first, unless all of the activity is
next_of_receiver (r.Synced k n piece) t =
    if is_done t.recv.last k then ack_next n t
    else (action.Ask (ask.Secure t.lane t.generation k n piece), hands_on t (phase.AsksSecure k n))
next_of_receiver (r.Ended k n piece) t =
    if is_done t.recv.last k then answers t (unit.EndAck k) (u.EndAck k)
    else (action.Ask (ask.Complete t.lane t.generation k n piece), hands_on t (phase.AsksComplete k n))
next_of_receiver (r.Asked k n) t =
    if stands t.recv.last k n then answers t (unit.ResumeAck k n) (u.ResumeAck k n)
    else answers t (unit.Abort 2) u.Unrecognized
next_of_receiver (r.Discards k) t =
    if is_partial_of t.recv.last k
    then (action.Ask (ask.DropActivity t.lane t.generation k), in_phase t (phase.AsksDrop k None))
    else (if is_done t.recv.last k then answers t (unit.Abort 7) u.Completed
    else answers t (unit.DiscardAck k) (u.DiscardAck k))
next_of_receiver (r.Found k) t = reads t
next_of_receiver (r.Skips k) t = reads t

-- A session that does not have the turn goes on so.
abbrev pub ListenersGoOn : Type 0
ListenersGoOn =
    (t : State) (a : Action) (new : State) → t.ours ≡ false → RecvFits t.checkpoint t.recv
    → IsOfHigh t.recv.high t.recv.last → GoesOn t a new
    → ◌≡◌ {A = Action × State} (a, new) (next_of_receiver t.recv.stage t)

-- ---- both

abbrev pub next : State → Action × State
next t = if t.ours then next_of_sender t.send.stage t else next_of_receiver t.recv.stage t

-- with the turn no activity is given up and nothing of the other end's is under way; without it what was taken fits
pub record MayGoOn (t : State) : Type 0 where
  pub sends : t.ours ≡ true → is_dropping t.send.state ≡ false
  pub free : t.ours ≡ true → is_free t.recv.stage ≡ true
  pub fits : t.ours ≡ false → RecvFits t.checkpoint t.recv
  pub high : t.ours ≡ false → IsOfHigh t.recv.high t.recv.last

-- A call that leads to a state from which the session goes on does what is next there.
abbrev pub CallsDoNext : Type 0
CallsDoNext =
    (t after : State) (e : Event) (a : Action) (new : State) → is_over t.phase ≡ false
    → wanted (counted t e) e ≡ Goes_on after → MayGoOn after → Follows t e a new
    → ◌≡◌ {A = Action × State} (a, new) (next after)

-- ---- units

-- a unit of the other end's transfers
abbrev pub is_transfer : AnyUnit → Bool
is_transfer (unit.Start k) = true
is_transfer (unit.Piece piece) = true
is_transfer (unit.Sync n) = true
is_transfer (unit.End k) = true
is_transfer (unit.Resume k n) = true
is_transfer (unit.Discard k) = true
is_transfer _ = false

-- A session that listens takes a unit that its receiving end takes, and goes on behind it.
abbrev pub ListenersTake : Type 0
ListenersTake =
    (t : State) (x : AnyUnit) (e : RecvEnd) → t.phase ≡ phase.Reads → t.ours ≡ false → 1 < t.left
    → is_transfer x ≡ true → taken t.checkpoint t.recv x ≡ Some e
    → wanted (counted t (event.Unit x)) (event.Unit x) ≡ Goes_on (record t { left = t.left - 1; recv = e })

-- A session that has the turn asks for the step that a unit calls for.
abbrev pub HoldersAsk : Type 0
HoldersAsk =
    (t : State) (x : AnyUnit) (step : OwnStep) → t.phase ≡ phase.Reads → t.ours ≡ true → 1 < t.left
    → called t.send x ≡ Some step
    → wanted (counted t (event.Unit x)) (event.Unit x)
    ≡ Asks (ask_of (record t { left = t.left - 1 }) step)
    (in_phase (record t { left = t.left - 1 }) (phase.AsksStep step))

-- ---- answers that the sending end calls for

-- an acknowledgement of a Sync that was put and is not confirmed
abbrev pub SyncAcksAreCalledFor : Type 0
SyncAcksAreCalledFor =
    (e : SendEnd) (n : ℕ) → goes_on e.state (last_of e.state) ≡ true → confirmed_of e.state < n
    → n ≤ s.synced e.stage → called e (unit.SyncAck n) ≡ Some (own.Confirm n)

abbrev pub EndAcksAreCalledFor : Type 0
EndAcksAreCalledFor =
    (e : SendEnd) (k n : ℕ) → is_ending e.state k ≡ true → e.stage ≡ s.End_put k n
    → called e (unit.EndAck k) ≡ Some own.Sent

-- the transfer goes on behind the answer to Resume
abbrev pub ResumeAcksAreHeard : Type 0
ResumeAcksAreHeard =
    (t : State) (k n : ℕ) → t.phase ≡ phase.Reads → t.ours ≡ true → 1 < t.left
    → t.send.stage ≡ s.Resume_put k n
    → wanted (counted t (event.Unit (unit.ResumeAck k n))) (event.Unit (unit.ResumeAck k n))
    ≡ Goes_on (record t { left = t.left - 1; send = record t.send { stage = s.Next k n } })

-- ---- steps that are made

-- the spool has made the step of the own half
abbrev pub is_made : OwnStep → Reply → Bool
is_made (own.Confirm n) (reply.Confirm (Ok x)) = true
is_made own.Ending (reply.Ending (Ok x)) = true
is_made own.Sent (reply.Sent (Ok x)) = true
is_made step x = false

abbrev pub MadeStepsGoOn : Type 0
MadeStepsGoOn =
    (t : State) (step : OwnStep) (x : Reply) → t.phase ≡ phase.AsksStep step → is_made step x ≡ true
    → wanted (counted t (event.Reply x)) (event.Reply x) ≡ Goes_on (record t { send = after_step t.send step })

abbrev pub StartsGoOn : Type 0
StartsGoOn =
    (t : State) (o : Carried) → t.phase ≡ phase.AsksStart
    → wanted (counted t (event.Reply (reply.Start (Ok o)))) (event.Reply (reply.Start (Ok o)))
    ≡ Goes_on (record t { send = s.made t.send (s.Start o.octets) })

abbrev pub SecuresGoOn : Type 0
SecuresGoOn =
    (t : State) (k n : ℕ) → t.phase ≡ phase.AsksSecure k n
    → wanted (counted t (event.Reply (reply.Secure (Ok tt)))) (event.Reply (reply.Secure (Ok tt)))
    ≡ Goes_on (record t { recv = r.made t.recv (r.Secure k n []) })

abbrev pub CompletesGoOn : Type 0
CompletesGoOn =
    (t : State) (k n item : ℕ) → t.phase ≡ phase.AsksComplete k n
    → wanted (counted t (event.Reply (reply.Complete (Ok item)))) (event.Reply (reply.Complete (Ok item)))
    ≡ Goes_on (record t { recv = r.made t.recv (r.Complete k n []) })

-- behind a unit that was wholly put
abbrev pub PutsGoOn : Type 0
PutsGoOn = (t : State) → t.phase ≡ phase.Puts → wanted (counted t event.Go) event.Go ≡ Goes_on t

-- ---- pieces

-- each piece of an activity has the octets that the other end admits
abbrev pub PiecesAreAdmitted : Type 0
PiecesAreAdmitted =
    (checkpoint k n : ℕ) (octets held : List ℕ) → 1 ≤ checkpoint → 1024 * checkpoint * n < length octets
    → n + 1 < 2 ^ 32
    → (admits checkpoint (r.Next k n) (piece_of (1024 * checkpoint) octets (n + 1)) ≡ true)
    × (admits checkpoint (r.Synced k n held) (piece_of (1024 * checkpoint) octets (n + 1)) ≡ true)
