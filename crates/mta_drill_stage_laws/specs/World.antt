-- Two agents of a drill and the link between them, and what one act of either makes of them. No want of memory appears:
-- where it comes, all of the drill ends.
use Rattle.std.specs.Prelude.{◌≡◌, ◌⊎◌, ◌<◌, ℕ, ◌+◌, ◌^◌, Bool, true, false, List, [], ◌∷◌, ◌++◌, length}
use Rattle.std.specs.Prelude.{Option, None, Some, Result, Ok, Err, IfOk}
use Rattle.std.specs.List.{concat}
use Rattle.std.specs.Option.{option_map}
use Rattle.mta_units.specs.declared.unit.Unit.{Unit as AnyUnit}
use Rattle.mta_lane_recv.specs.Half as recv
use Rattle.mta_lane_send.specs.Half.{is_idle, last_of}
use Rattle.mta_records.specs.Outgoing.{Carried}
use Rattle.mta_records.specs.Reference.{Identifier}
use Rattle.mta_records.specs.declared.fault.StepFault.{StepFault}
use Rattle.mta_records.specs.declared.lane.Batch.{Batch}
use Rattle.mta_records.specs.declared.lane.LaneRole.{LaneRole}
use Rattle.mta_records.specs.declared.lane.LaneValues.{LaneValues}
use Rattle.mta_records.specs.declared.step.Step.{Step}
use Rattle.mta_records.specs.declared.step.Step.TheVariants as step
use Rattle.mta_histories.specs.Due.{IsBatch, IsNoBatch}
use Rattle.mta_apdu.specs.Apdus.{ApduValue, apdu_of}
use Rattle.mta_histories.specs.History.{IsPossible, TakesPiece, after_step, transfer_of, with_piece}
use Rattle.mta_histories.specs.Lanes.{Lane, Transfer, lane_at}
use Rattle.mta_histories.specs.Lanes.{State as SpoolState}
use Rattle.mta_session.specs.declared.ask.Ask.{Ask}
use Rattle.mta_session.specs.declared.ask.Ask.TheVariants as ask
use Rattle.mta_session.specs.declared.ask.Reply.{Reply}
use Rattle.mta_session.specs.declared.ask.Reply.TheVariants as reply
use Rattle.mta_session.specs.declared.event.Action.{Action}
use Rattle.mta_session.specs.declared.event.Action.TheVariants as action
use Rattle.mta_session.specs.declared.event.Event.{Event}
use Rattle.mta_session.specs.declared.event.Event.TheVariants as event
use Rattle.mta_session.specs.Fits.{Answers}
use Rattle.mta_session.specs.Follows.{Follows}
use Rattle.mta_session.specs.State.{State}
use Rattle.mta_drill_laws.specs.Tables.{gold_1, second_text}
use Rattle.mta_drill_stage_laws.specs.Breaks.{Breaks, IsDue, IsDueIn, one_more}
use Rattle.mta_drill_stage_laws.specs.Lines.{line_of_first}

-- ---- the world

-- One side: what its spool holds, its session, what that wants next, and the units that came and are not read yet.
pub record Party : Type 0 where
  pub spool : SpoolState
  pub session : State
  pub wants : Action
  pub came : List AnyUnit

-- The link, on which each unit that is put has come at once, and the breaks so far.
pub record Link : Type 0 where
  pub is_broken : Bool
  pub breaks : Breaks

pub record World : Type 0 where
  pub calling : Party
  pub listening : Party
  pub link : Link

-- ---- what a spool answers

-- The step is made. It is refused only where it is not possible, or where no two numbers are left for items.
abbrev pub Made : {T E : Type 0} → SpoolState → Step → Result T E → SpoolState → Type 0
Made s made (Ok x) new = new ≡ after_step s made
Made s made (Err f) new = IsPossible s made → length s.machine.items + 2 < 2 ^ 32 → ⊥

-- the batch is the next one for the peer, or none is
abbrev pub IsNextBatch : SpoolState → List ℕ → Option Batch → Type 0
IsNextBatch s peer None = IsNoBatch s peer s.moment
IsNextBatch s peer (Some batch) = IsBatch s peer s.moment batch.item batch.recipients

-- the lane of this number
abbrev pub IsLane : SpoolState → ℕ → Lane → Type 0
IsLane s n lane = lane_at n s.lanes.open_lanes ≡ Some lane

-- the next activity of the lane, where there is a number for it, with what it transfers
pub record Started (s : SpoolState) (n g : ℕ) (batch : Batch) (x : Result Carried StepFault) (new : SpoolState)
    (lane : Lane) : Type 0 where
  pub made : last_of lane.sending + 1 < 2 ^ 32
      → Made s (step.Start n g (last_of lane.sending + 1) batch.item batch.recipients s.moment) x new
  pub activity : IfOk x (λ o. o.activity ≡ last_of lane.sending + 1)
  pub octets : IfOk x (λ o. o.octets ≡ (transfer_of s.machine batch.item batch.recipients s.moment).octets)

-- the next generation of the lane, where there is a number for it
pub record Bound (s : SpoolState) (n : ℕ) (x : Result ℕ StepFault) (new : SpoolState) (lane : Lane) : Type 0 where
  pub made : lane.generation + 1 < 2 ^ 64 → Made s (step.Bind n (lane.generation + 1)) x new
  pub generation : IfOk x (λ g. g ≡ lane.generation + 1)

-- The lane's activity is completed with this piece. It is refused only where the lane does not take the piece, or where
-- the octets are none of an APDU, or where no two numbers are left for items.
abbrev pub Completed : {T E : Type 0} → SpoolState → (n g k m : ℕ) → List ℕ → Result T E → SpoolState
    → Lane → Type 0
Completed s n g k m piece (Ok x) new lane = new ≡ after_step s (step.Complete n g k m piece s.moment)
Completed s n g k m piece (Err f) new lane =
    g ≡ lane.generation → TakesPiece lane (recv.Complete k m) m piece
    → (v : ApduValue) → apdu_of (concat (with_piece lane.pieces m piece)) ≡ Ok v
    → length s.machine.items + 2 < 2 ^ 32 → ⊥

-- the activity that is under way on the lane
abbrev pub Resumes : Option Carried → Lane → Transfer → Type 0
Resumes None lane t = ⊥
Resumes (Some o) lane t = (o.activity ≡ last_of lane.sending) × (o.octets ≡ t.octets)

abbrev pub values_of : Lane → LaneValues
values_of lane = record {
  checkpoint = lane.checkpoint;
  window = lane.window;
  twa = lane.twa;
  agreed = lane.agreed;
}

-- the one lane that is open is found, and no other
pub record Found (s : SpoolState) (role : LaneRole) (peer : List ℕ) (reference : Option Identifier) (x : Option ℕ)
    : Type 0 where
  pub none : s.lanes.open_lanes ≡ [] → x ≡ None
  pub one : (lane : Lane) → s.lanes.open_lanes ≡ lane ∷ [] → lane.role ≡ role → lane.peer ≡ peer
      → reference ≡ Some lane.reference → x ≡ Some lane.number

-- What a question is answered by a spool whose clock tells 0, and what it leaves, where there is memory for all.
abbrev pub Asked : Ask → SpoolState → Reply → SpoolState → Type 0
Asked (ask.BatchFor peer) s (reply.BatchFor x) new =
    (b : Option Batch) × (x ≡ Ok b) × IsNextBatch s peer b × (new ≡ s)
Asked (ask.LaneOpen role peer name twa size window) s (reply.LaneOpen x) new =
    Made s (step.LaneOpen role peer name twa size window s.moment) x new × IfOk x (λ n. n ≡ s.lanes.count + 1)
Asked (ask.LaneAgree n g size window) s (reply.LaneAgree x) new = Made s (step.LaneAgree n g size window) x new
Asked (ask.Bind n) s (reply.Bind x) new = (lane : Lane) → IsLane s n lane → Bound s n x new lane
Asked (ask.Start n g batch) s (reply.Start x) new = (lane : Lane) → IsLane s n lane → Started s n g batch x new lane
Asked (ask.Confirm n g k m) s (reply.Confirm x) new = Made s (step.Confirm n g k m) x new
Asked (ask.Ending n g k) s (reply.Ending x) new = Made s (step.Ending n g k) x new
Asked (ask.Sent n g k) s (reply.Sent x) new = Made s (step.Sent n g k s.moment) x new
Asked (ask.Secure n g k m piece) s (reply.Secure x) new = Made s (step.Secure n g k m piece) x new
Asked (ask.Complete n g k m piece) s (reply.Complete x) new =
    (lane : Lane) → IsLane s n lane → Completed s n g k m piece x new lane
Asked (ask.CloseLane n g) s (reply.CloseLane x) new = Made s (step.CloseLane n g) x new
Asked (ask.Resumed n) s (reply.Resumed x) new =
    ((lane : Lane) (t : Transfer) → IsLane s n lane → is_idle lane.sending ≡ false → lane.transfer ≡ Some t
    → IfOk x (λ o. Resumes o lane t)) × (o : Option Carried) × (x ≡ Ok o) × (new ≡ s)
Asked (ask.LaneOf role peer reference) s (reply.LaneOf x) new = Found s role peer reference x × (new ≡ s)
Asked (ask.Recovery n) s (reply.Recovery x) new =
    (x ≡ option_map (λ (l : Lane). l.sending) (lane_at n s.lanes.open_lanes)) × (new ≡ s)
Asked (ask.Receiving n) s (reply.Receiving x) new =
    (x ≡ option_map (λ (l : Lane). (l.high, l.last)) (lane_at n s.lanes.open_lanes)) × (new ≡ s)
Asked (ask.Values n) s (reply.Values x) new =
    (x ≡ option_map values_of (lane_at n s.lanes.open_lanes)) × (new ≡ s)
-- the second agent knows the first one
Asked (ask.Peer name) s (reply.Peer x) new =
    (name ≡ gold_1 → s.machine.tables ≡ second_text ∷ [] → x ≡ Ok (Some line_of_first)) × (new ≡ s)
-- nothing is said of what no drill asks
Asked (ask.Dropped n g k) s x new = Unit {0}
Asked (ask.Denied n g k) s x new = Unit {0}
Asked (ask.Refused n g k kind) s x new = Unit {0}
Asked (ask.DropActivity n g k) s x new = Unit {0}
Asked (ask.SpareLane role peer) s x new = Unit {0}
Asked _ s x new = ⊥

-- An activity starts where the lane's sending half is as the session knows it.
abbrev pub Replied : Ask → State → SpoolState → Reply → SpoolState → Type 0
Replied (ask.Start n g batch) t s x new =
    option_map (λ (l : Lane). l.sending) (lane_at n s.lanes.open_lanes) ≡ Some t.send.state
    → Asked (ask.Start n g batch) s x new
Replied q t s x new = Asked q s x new

-- ---- one act

-- the session is told what came of what it wanted
pub record IsTold (p : Party) (e : Event) (came : List AnyUnit) (q : Party) : Type 0 where
  pub follows : Follows p.session e q.wants q.session
  pub came_is : q.came ≡ came

-- the same at the link alone
pub record IsTalk (p : Party) (e : Event) (came put : List AnyUnit) (l : Link) (did : List AnyUnit) (q : Party)
    (m : Link)
    : Type 0 where
  pub told : IsTold p e came q
  pub spool : q.spool ≡ p.spool
  pub put_is : did ≡ put
  pub link : m ≡ l

-- the link is broken where its place is reached
abbrev pub IsTaken : Link → Ask → Link → Type 0
IsTaken l q m =
    ((activity : ℕ) × IsDueIn l.breaks q activity
    × (m ≡ record { is_broken = true; breaks = one_more l.breaks activity }))
    ⊎ ((IsDue l.breaks q → ⊥) × (m ≡ l))

-- the spool is asked, and the link broken behind it where that is due
pub record HasAsked (p : Party) (q : Ask) (l : Link) (did : List AnyUnit) (new : Party) (m : Link) : Type 0 where
  pub answer : Reply
  pub replied : Replied q p.session p.spool answer new.spool
  pub told : IsTold p (event.Reply answer) p.came new
  pub put : did ≡ []
  pub taken : IsTaken l q m

-- One act of a side by what it wants, whether the link is broken, and what came. Over a broken link nothing is put, and
-- what came and was not read is lost. A side that wants to read where nothing came waits, and one that is over does
-- nothing.
abbrev pub ActsAs : Action → Bool → List AnyUnit → Party → Link → List AnyUnit → Party → Link → Type 0
ActsAs (action.Put x) false came p l did q m = IsTalk p event.Go came (x ∷ []) l did q m
ActsAs (action.Put x) true came p l did q m = IsTalk p event.Over came [] l did q m
ActsAs action.Read false [] p l did q m = ⊥
ActsAs action.Read false (x ∷ rest) p l did q m = IsTalk p (event.Unit x) rest [] l did q m
ActsAs action.Read true came p l did q m = IsTalk p event.Over came [] l did q m
ActsAs (action.Ask x) broken came p l did q m = HasAsked p x l did q m
ActsAs (action.Finish e) broken came p l did q m = ⊥

abbrev pub Acts : Party → Link → List AnyUnit → Party → Link → Type 0
Acts p l did q m = ActsAs p.wants l.is_broken p.came p l did q m

-- the units came to this side
abbrev pub came_to : Party → List AnyUnit → Party
came_to p us = record p { came = p.came ++ us }

pub record CallerActs (w v : World) : Type 0 where
  pub did : List AnyUnit
  pub acts : Acts w.calling w.link did v.calling v.link
  pub other : v.listening ≡ came_to w.listening did

pub record ListenerActs (w v : World) : Type 0 where
  pub did : List AnyUnit
  pub acts : Acts w.listening w.link did v.listening v.link
  pub other : v.calling ≡ came_to w.calling did

-- ---- many acts

-- it is over, or it reads where nothing came over a whole link
abbrev pub RestsAs : Action → Bool → List AnyUnit → Type 0
RestsAs action.Read false [] = Unit {0}
RestsAs (action.Finish e) broken came = Unit {0}
RestsAs _ broken came = ⊥

abbrev pub ListenerRests : World → Type 0
ListenerRests w = RestsAs w.listening.wants w.link.is_broken w.listening.came

abbrev pub CallerRests : World → Type 0
CallerRests w = RestsAs w.calling.wants w.link.is_broken w.calling.came

-- acts of the listener, one behind the other
pub data ListenerGoes (w : World) : World → Type 0 where
  Not_yet : ListenerGoes w w
  One_more : (u v : World) → ListenerGoes w u → ListenerActs u v → ListenerGoes w v

-- one act of the caller, and then of the listener until it rests
pub record IsRound (w v : World) : Type 0 where
  pub between : World
  pub called : CallerActs w between
  pub listens : ListenerGoes between v
  pub rests : ListenerRests v

pub data Goes (w : World) : World → Type 0 where
  Not_yet : Goes w w
  One_more : (u v : World) → Goes w u → IsRound u v → Goes w v

-- a session that asks is told an answer that it waits for
abbrev pub IsHeardOf : Action → Party → Type 0
IsHeardOf (action.Ask q) p =
    (x : Reply) (new : SpoolState) → Replied q p.session p.spool x new → Answers p.session (event.Reply x)
IsHeardOf _ p = Unit {0}

abbrev pub IsHeard : Party → Type 0
IsHeard p = IsHeardOf p.wants p
