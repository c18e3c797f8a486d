-- One call of a session that follows its lane, and what it knows of the lane then.
use Rattle.std.specs.Prelude.{◌≡◌, ℕ, ◌||◌, Bool, true, false, List, [], Option, Some, None, Ok, if◌then◌else◌}
use Rattle.mta_units.specs.declared.unit.Unit.{Unit as AnyUnit}
use Rattle.mta_units.specs.declared.unit.Unit.TheVariants as unit
use Rattle.mta_lane_send.specs.declared.state.SendState.{SendState}
use Rattle.mta_lane_send.specs.declared.state.SendState.TheVariants.{Dropping}
use Rattle.mta_lane_send.specs.Half.{last_of}
use Rattle.mta_transfer_rules.specs.Sending.{SendEnd}
use Rattle.mta_transfer_rules.specs.Receiving.{RecvEnd}
use Rattle.mta_records.specs.declared.step.Step.{Step}
use Rattle.mta_histories.specs.Lanes.{Lane}
use Rattle.mta_histories.specs.Lanes as spool
use Rattle.mta_histories.specs.Classes.{LaneStep, agree, start, confirm, to_end, settle, secure, complete, drop_pieces}
use Rattle.mta_histories.specs.Classes.{was_sent, was_refused, was_dropped, on_lane, class_of}
use Rattle.mta_histories.specs.History.{IsPossible, after_step, when}
use Rattle.mta_session.specs.State.{State}
use Rattle.mta_session.specs.Sending.{heard}
use Rattle.mta_session.specs.Receiving.{taken}
use Rattle.mta_session.specs.Fits.{Fits}
use Rattle.mta_session.specs.Follows.{Does, Follows, counted}
use Rattle.mta_session.specs.Wanted.{Wanted, Aborts, Rejects, Ends, Puts, Asks, Reads, Goes_on, Excepts, Never, wanted}
use Rattle.mta_session.specs.Wanted.{is_given_up, is_refused_value}
use Rattle.mta_session.specs.declared.event.Event.{Event}
use Rattle.mta_session.specs.declared.event.Event.TheVariants as event
use Rattle.mta_session.specs.declared.event.Action.{Action}
use Rattle.mta_session.specs.declared.phase.Phase.{Phase}
use Rattle.mta_session.specs.declared.phase.Phase.TheVariants as phase
use Rattle.mta_session.specs.declared.phase.OwnStep.{OwnStep}
use Rattle.mta_session.specs.declared.phase.OwnStep.TheVariants as own
use Rattle.mta_session.specs.declared.ask.Reply.{Reply}
use Rattle.mta_session.specs.declared.ask.Reply.TheVariants as reply
use Rattle.mta_lane_match_laws.specs.Matches.{Known, known, follows_lane, Matches, MatchesIn}
use Rattle.mta_lane_match_laws.specs.Steps.{IsTold, learned}

-- What its worker keeps of the other end's activity: the pieces that stand, and the one that the session handed on.
pub record Pieces : Type 0 where
  pub stand : List (List ℕ)
  pub handed : List ℕ

-- ---- what the session learns

abbrev pub given_up : Pieces → State → Option SendState → Known
given_up p t (Some told) =
    if is_given_up t told then record (known t p.stand) { sending = Dropping (last_of t.send.state) }
    else known t p.stand
given_up p t None = known t p.stand

-- the step on the lane that is asked for
abbrev pub step_on : State → OwnStep → LaneStep
step_on t (own.Confirm n) = confirm (last_of t.send.state) n
step_on t own.Ending = to_end (last_of t.send.state)
step_on t own.Sent = settle was_sent (last_of t.send.state)
step_on t own.Dropped = settle was_dropped (last_of t.send.state)
step_on t (own.Refused kind) = settle (was_refused kind) (last_of t.send.state)

-- by a reply
abbrev pub learned_of : Phase → Pieces → State → Reply → Known
learned_of phase.AsksAgree p t (reply.LaneAgree (Ok x)) = learned (known t p.stand) [] (agree t.checkpoint t.window)
learned_of phase.AsksStart p t (reply.Start (Ok o)) = learned (known t p.stand) o.octets (start o.activity 0 [])
learned_of (phase.AsksStep (own.Confirm n)) p t (reply.Confirm (Ok x)) =
    learned (known t p.stand) [] (step_on t (own.Confirm n))
learned_of (phase.AsksStep own.Ending) p t (reply.Ending (Ok x)) = learned (known t p.stand) [] (step_on t own.Ending)
learned_of (phase.AsksStep own.Sent) p t (reply.Sent (Ok x)) = learned (known t p.stand) [] (step_on t own.Sent)
learned_of (phase.AsksStep own.Dropped) p t (reply.Dropped (Ok x)) =
    learned (known t p.stand) [] (step_on t own.Dropped)
learned_of (phase.AsksStep (own.Refused kind)) p t (reply.Refused (Ok x)) =
    learned (known t p.stand) [] (step_on t (own.Refused kind))
learned_of phase.AsksState p t (reply.Recovery x) = given_up p t x
learned_of (phase.AsksSecure k n) p t (reply.Secure (Ok x)) = learned (known t p.stand) [] (secure k n p.handed)
learned_of (phase.AsksComplete k n) p t (reply.Complete (Ok x)) = learned (known t p.stand) [] (complete k n p.handed)
learned_of (phase.AsksDrop k found) p t (reply.DropActivity (Ok x)) = learned (known t p.stand) [] (drop_pieces k)
learned_of _ p t x = known t p.stand

-- an Accept proposes values for a lane that is not agreed, which may be lower
abbrev pub proposed : Pieces → State → (checkpoint window : ℕ) → Known
proposed p t c w =
    if t.agreed || is_refused_value t c w then known t p.stand
    else record (known t p.stand) { checkpoint = c; window = w }

abbrev pub learned_of_unit : Phase → Pieces → State → AnyUnit → Known
learned_of_unit phase.ReadsAnswer p t (unit.Accept c w a) = proposed p t c w
learned_of_unit _ p t x = known t p.stand

abbrev pub learned_by : Pieces → State → Event → Known
learned_by p t (event.Reply x) = learned_of t.phase p t x
learned_by p t (event.Unit x) = learned_of_unit t.phase p t x
learned_by p t e = known t p.stand

-- ---- one call

abbrev pub KnowsBy : Bool → Known → State → Type 0
KnowsBy true k u = known u k.pieces ≡ k
KnowsBy false k u = Unit {0}

-- where the session goes on following its lane, it knows this
abbrev pub Knows : Known → State → Type 0
Knows k u = KnowsBy (follows_lane u.phase) k u

abbrev pub KnowsAs : Known → Wanted → Type 0
KnowsAs k (Goes_on u) = known u k.pieces ≡ k
KnowsAs k (Excepts u found) = known u k.pieces ≡ k
KnowsAs k (Asks a u) = Knows k u
KnowsAs k (Puts x u) = Knows k u
KnowsAs k (Reads u) = Knows k u
KnowsAs k (Aborts reason) = Unit {0}
KnowsAs k (Rejects reason) = Unit {0}
KnowsAs k (Ends e) = Unit {0}
KnowsAs k Never = Unit {0}

abbrev pub HeardAs : SendEnd → Option SendEnd → Type 0
HeardAs e (Some f) = (f.state ≡ e.state) × (f.octets ≡ e.octets)
HeardAs e None = Unit {0}

abbrev pub TakenAs : RecvEnd → Option RecvEnd → Type 0
TakenAs e (Some f) = (f.high ≡ e.high) × (f.last ≡ e.last)
TakenAs e None = Unit {0}

-- a unit changes nothing that is durable of the halves
abbrev pub HeardKeeps : Type 0
HeardKeeps = (e : SendEnd) (x : AnyUnit) → HeardAs e (heard e x)

abbrev pub TakenKeeps : Type 0
TakenKeeps = (checkpoint : ℕ) (e : RecvEnd) (x : AnyUnit) → TakenAs e (taken checkpoint e x)

-- what is wanted of a session that follows its lane
abbrev pub EventsKnow : Type 0
EventsKnow =
    (p : Pieces) (t : State) (e : Event) → follows_lane t.phase ≡ true
    → KnowsAs (learned_by p t e) (wanted (counted t e) e)

-- what is done for it
abbrev pub ActionsKnow : Type 0
ActionsKnow =
    (k : Known) (t : State) (w : Wanted) (a : Action) (new : State) → KnowsAs k w → Does t w a new → Knows k new

-- One call: behind it the session knows what it knew, and what the event told.
abbrev pub CallsKnow : Type 0
CallsKnow =
    (p : Pieces) (t : State) (e : Event) (a : Action) (new : State) → follows_lane t.phase ≡ true
    → Follows t e a new
    → Knows (learned_by p t e) new

-- a session that has a lane, from the looks behind its Bind down to its last step
abbrev pub has_lane : Phase → Bool
has_lane phase.AsksValues = true
has_lane phase.AsksRecovery = true
has_lane (phase.AsksReceiving state) = true
has_lane (phase.AsksResumed state) = true
has_lane phase.AsksDenied = true
has_lane phase.AsksClose = true
has_lane (phase.AsksLast end) = true
has_lane f = follows_lane f

-- It has the same lane in the same generation then.
abbrev pub LanesStay : Type 0
LanesStay =
    (t : State) (e : Event) (a : Action) (new : State) → has_lane t.phase ≡ true → Follows t e a new
    → (new.lane ≡ t.lane) × (new.generation ≡ t.generation)

-- ---- the spool's side

-- this step of the session's was made in the state s, and leads to the state after it
pub record Makes (t : State) (s : spool.State) (on : LaneStep) (octets : List ℕ) (after : spool.State) : Type 0 where
  pub step : Step
  pub step_is : class_of step ≡ on_lane t.lane (Some t.generation) on
  pub possible : IsPossible s step
  pub told : IsTold s on (when s step) octets
  pub after_is : after ≡ after_step s step

abbrev pub sending_of : Option Lane → Option SendState
sending_of (Some lane) = Some lane.sending
sending_of None = None

-- The reply is the spool's to a session that follows its lane, and the spool's state is this one then. A reply that
-- tells of no step leaves it.
abbrev pub IsReplyOf : Phase → (handed : List ℕ) → State → spool.State → Reply → spool.State → Type 0
IsReplyOf phase.AsksAgree handed t s (reply.LaneAgree (Ok x)) after = Makes t s (agree t.checkpoint t.window) [] after
IsReplyOf phase.AsksStart handed t s (reply.Start (Ok o)) after =
    (i : ℕ) × (rs : List ℕ) × Makes t s (start o.activity i rs) o.octets after
IsReplyOf (phase.AsksStep (own.Confirm n)) handed t s (reply.Confirm (Ok x)) after =
    Makes t s (step_on t (own.Confirm n)) [] after
IsReplyOf (phase.AsksStep own.Ending) handed t s (reply.Ending (Ok x)) after =
    Makes t s (step_on t own.Ending) [] after
IsReplyOf (phase.AsksStep own.Sent) handed t s (reply.Sent (Ok x)) after = Makes t s (step_on t own.Sent) [] after
IsReplyOf (phase.AsksStep own.Dropped) handed t s (reply.Dropped (Ok x)) after =
    Makes t s (step_on t own.Dropped) [] after
IsReplyOf (phase.AsksStep (own.Refused kind)) handed t s (reply.Refused (Ok x)) after =
    Makes t s (step_on t (own.Refused kind)) [] after
IsReplyOf phase.AsksState handed t s (reply.Recovery x) after =
    (x ≡ sending_of (spool.lane_at t.lane s.lanes.open_lanes)) × (after ≡ s)
IsReplyOf (phase.AsksSecure k n) handed t s (reply.Secure (Ok x)) after = Makes t s (secure k n handed) [] after
IsReplyOf (phase.AsksComplete k n) handed t s (reply.Complete (Ok x)) after = Makes t s (complete k n handed) [] after
IsReplyOf (phase.AsksDrop k found) handed t s (reply.DropActivity (Ok x)) after = Makes t s (drop_pieces k) [] after
IsReplyOf _ handed t s x after = after ≡ s

-- units and the like leave it too
abbrev pub IsTurn : (handed : List ℕ) → State → spool.State → Event → spool.State → Type 0
IsTurn handed t s (event.Reply x) after = IsReplyOf t.phase handed t s x after
IsTurn handed t s e after = after ≡ s

abbrev pub RepliesMatch : Type 0
RepliesMatch =
    (p : Pieces) (t : State) (s : spool.State) (e : Event) (after : spool.State) → Fits t
    → Matches (known t p.stand) s → IsTurn p.handed t s e after → Matches (learned_by p t e) after

-- One turn of a session that follows its lane: session and lane match behind it.
abbrev pub TurnsMatch : Type 0
TurnsMatch =
    (p : Pieces) (t : State) (s : spool.State) (e : Event) (after : spool.State) (a : Action) (new : State)
    → follows_lane t.phase ≡ true → Fits t → MatchesIn t p.stand s → IsTurn p.handed t s e after
    → Follows t e a new → MatchesIn new (learned_by p t e).pieces after
