-- What one session did, in its order, and when that keeps the rules of both halves of its lane and of the turn.
use Rattle.std.specs.Prelude.{◌≡◌, ◌<◌, ◌≤◌, ℕ, ◌+◌, ◌==◌, if◌then◌else◌, Bool, true}
use Rattle.std.specs.Prelude.{false, not, Some, slice_get, List, [], ◌∷◌, ◌++◌, length, take}
use Rattle.mta_lane_send.specs.Half.{is_sending, last_of}
use Rattle.mta_units.specs.declared.unit.Unit.{Unit as AnyUnit}
use Rattle.mta_units.specs.declared.unit.Unit.TheVariants.{Accept, Reject, Start, Piece, Sync, SyncAck, End, EndAck}
use Rattle.mta_units.specs.declared.unit.Unit.TheVariants.{Resume, ResumeAck, Discard, DiscardAck, Please, Give}
use Rattle.mta_units.specs.declared.unit.Unit.TheVariants.{Exception, Abort, Close, CloseAck}
use Rattle.mta_transfer_rules.specs.Units.{LaneUnit}
use Rattle.mta_transfer_rules.specs.Units as u
use Rattle.mta_transfer_rules.specs.Sending as s
use Rattle.mta_transfer_rules.specs.Sending.{SendEnd, SendEvent}
use Rattle.mta_transfer_rules.specs.Receiving as r
use Rattle.mta_transfer_rules.specs.Receiving.{RecvEnd, RecvEvent}
use Rattle.mta_transfer_rules.specs.Lanes.{Halves, SeenStep, Seen, On, lane_in}
use Rattle.mta_transfer_rules.specs.Lanes as h
use Rattle.mta_transfer_laws.specs.Sendings as sendings
use Rattle.mta_transfer_laws.specs.Sendings.{SendingList, IsGoodSending}
use Rattle.mta_transfer_laws.specs.Receivings as receivings
use Rattle.mta_transfer_laws.specs.Receivings.{ReceivingList, IsGoodReceiving}

-- what a unit is for a half: its transfer's units go from the sending end, the answers come from the receiving end
abbrev pub transfer_unit : AnyUnit → List LaneUnit
transfer_unit (Start k) = u.Start k ∷ []
transfer_unit (Piece octets) = u.Piece octets ∷ []
transfer_unit (Sync n) = u.Sync n ∷ []
transfer_unit (End k) = u.End k ∷ []
transfer_unit (Resume k n) = u.Resume k n ∷ []
transfer_unit (Discard k) = u.Discard k ∷ []
transfer_unit _ = []

abbrev pub abort_unit : (reason : ℕ) → List LaneUnit
abort_unit reason = if reason == 7 then u.Completed ∷ [] else (if reason == 2 then u.Unrecognized ∷ [] else [])

abbrev pub answer_unit : AnyUnit → List LaneUnit
answer_unit (SyncAck n) = u.SyncAck n ∷ []
answer_unit (EndAck k) = u.EndAck k ∷ []
answer_unit (ResumeAck k n) = u.ResumeAck k n ∷ []
answer_unit (DiscardAck k) = u.DiscardAck k ∷ []
answer_unit (Exception kind at) = u.Exception ∷ []
answer_unit (Abort reason) = abort_unit reason
answer_unit (Reject reason) = if reason == 1 then u.CannotRecover ∷ [] else []
answer_unit (Accept size window answer) = u.Accept ∷ []
answer_unit _ = []

-- A look is an answer of the spool without a step.
pub data Look : Type 0 where
  Finds : (activity number : ℕ) (piece : List ℕ) → Look  -- the octets up to this piece are none of a message
  At_sending : Look  -- the sending half was asked for, or a step of it refused
  No_batch : Look  -- nothing is to be sent
  Elsewhere : Look

pub data SessionEvent : Type 0 where
  Got : AnyUnit → SessionEvent
  -- got, and not taken: it is not allowed here or one too many, and an Abort at most follows
  Refused : AnyUnit → SessionEvent
  Put : AnyUnit → SessionEvent
  Made : (position : ℕ) → (lane : ℕ) → SeenStep → SessionEvent
  Looked : (length : ℕ) → Look → SessionEvent

-- The list of a session that has a lane: what came before its LaneOpen or Bind step, the position of that step, and
-- what followed.
pub record SessionList : Type 0 where
  pub opening : List SessionEvent
  pub at : ℕ
  pub events : List SessionEvent

-- For one half ----------------------------------------------------------------------------------------

abbrev pub puts_of : List LaneUnit → List SendEvent
puts_of [] = []
puts_of (x ∷ xs) = s.Put x ∷ puts_of xs

abbrev pub gots_of : List LaneUnit → List SendEvent
gots_of [] = []
gots_of (x ∷ xs) = s.Got x ∷ gots_of xs

-- a responder puts Accept, which is none of its sending half's
abbrev pub sending_step_of : SeenStep → List SendEvent
sending_step_of (h.Start g k octets) = s.Made (s.Start octets) ∷ []
sending_step_of (h.Confirm g k n) = s.Made (s.Confirm n) ∷ []
sending_step_of (h.To_end g k) = s.Made s.To_end ∷ []
sending_step_of (h.Sent g k) = s.Made s.Sent ∷ []
sending_step_of (h.Refused g k) = s.Made s.Refused ∷ []
sending_step_of (h.Denied g k) = s.Made s.Denied ∷ []
sending_step_of (h.Dropped g k) = s.Made s.Dropped ∷ []
sending_step_of (h.Abandon k) = s.Made s.Abandon ∷ []
sending_step_of _ = []

abbrev pub receiving_step_of : SeenStep → List RecvEvent
receiving_step_of (h.Secure g k n piece) = r.Made (r.Secure k n piece) ∷ []
receiving_step_of (h.Complete g k n piece) = r.Made (r.Complete k n piece) ∷ []
receiving_step_of (h.Drop g k) = r.Made (r.Drop k) ∷ []
receiving_step_of _ = []

abbrev pub sending_event : (lane : ℕ) → SessionEvent → List SendEvent
sending_event lane (Got x) = gots_of (answer_unit x)
sending_event lane (Refused x) = []
sending_event lane (Put x) = puts_of (transfer_unit x)
sending_event lane (Made p j step) = if j == lane then sending_step_of step else []
sending_event lane (Looked n look) = []

abbrev pub took_of : List LaneUnit → List RecvEvent
took_of [] = []
took_of (x ∷ xs) = r.Took x ∷ took_of xs

abbrev pub answers_of : List LaneUnit → List RecvEvent
answers_of [] = []
answers_of (x ∷ xs) = r.Put x ∷ answers_of xs

abbrev pub found_by : Look → List RecvEvent
found_by (Finds k n piece) = r.Finds k n piece ∷ []
found_by _ = []

abbrev pub receiving_event : (lane : ℕ) → SessionEvent → List RecvEvent
receiving_event lane (Got x) = took_of (transfer_unit x)
receiving_event lane (Refused x) = []
receiving_event lane (Put x) = answers_of (answer_unit x)
receiving_event lane (Made p j step) = if j == lane then receiving_step_of step else []
receiving_event lane (Looked n look) = found_by look

abbrev pub sending_events : (lane : ℕ) → List SessionEvent → List SendEvent
sending_events lane [] = []
sending_events lane (e ∷ es) = sending_event lane e ++ sending_events lane es

abbrev pub receiving_events : (lane : ℕ) → List SessionEvent → List RecvEvent
receiving_events lane [] = []
receiving_events lane (e ∷ es) = receiving_event lane e ++ receiving_events lane es

abbrev pub sending_list : (lane : ℕ) → SessionList → SendingList
sending_list lane l = record { at = l.at; events = sending_events lane l.events }

abbrev pub receiving_list : (lane : ℕ) → SessionList → ReceivingList
receiving_list lane l = record { at = l.at; events = receiving_events lane l.events }

-- The turn ------------------------------------------------------------------------------------------------

pub data Turn : Type 0 where
  Before_accept : Turn
  Own : Turn
  Theirs : Turn
  Own_closing : Turn  -- Close is put
  Their_closing : Turn  -- Close was got
  Acknowledged : Turn  -- CloseAck was got
  Over : Turn

abbrev pub first_turn : (initiator : Bool) → Turn
first_turn true = Own
first_turn false = Theirs

abbrev pub turn_put : Turn → AnyUnit → Turn
turn_put Before_accept (Accept size window answer) = Theirs
turn_put Own Give = Theirs
turn_put Own Close = Own_closing
turn_put Their_closing (Please priority) = Theirs
turn_put Their_closing CloseAck = Over
turn_put t (Abort reason) = Over
turn_put t x = t

abbrev pub turn_got : Turn → AnyUnit → Turn
turn_got Before_accept (Accept size window answer) = Own
turn_got Theirs Give = Own
turn_got Theirs Close = Their_closing
turn_got Own_closing (Please priority) = Own
-- a Please that was on its way answers the Close, and Give answers the Please
turn_got Their_closing Give = Own
turn_got Own_closing CloseAck = Acknowledged
turn_got t (Abort reason) = Over
turn_got t (Reject reason) = Over
turn_got t x = t

abbrev pub turn_after : Turn → SessionEvent → Turn
turn_after t (Got x) = turn_got t x
turn_after t (Put x) = turn_put t x
turn_after t _ = t

-- units of a transfer are put by the holder of the turn alone
abbrev pub IsNone : List LaneUnit → Type 0
IsNone [] = Unit {0}
IsNone (x ∷ xs) = ⊥

abbrev pub TurnAllows : Turn → SessionEvent → Type 0
TurnAllows Own (Got x) = IsNone (transfer_unit x)
TurnAllows Theirs (Put x) = IsNone (transfer_unit x)
TurnAllows Before_accept (Put x) = IsNone (transfer_unit x)
TurnAllows Own_closing (Put x) = IsNone (transfer_unit x)
TurnAllows Their_closing (Put x) = IsNone (transfer_unit x)
-- where the lane cannot be closed then, an Abort follows
TurnAllows Acknowledged (Put (Abort reason)) = Unit {0}
TurnAllows Acknowledged (Put x) = ⊥
TurnAllows Over (Put x) = ⊥
TurnAllows t e = Unit {0}

abbrev pub KeepsTurn : Turn → List SessionEvent → Type 0
KeepsTurn t [] = Unit {0}
KeepsTurn t (e ∷ es) = TurnAllows t e × KeepsTurn (turn_after t e) es

-- What is owed before a unit is got ---------------------------------------------------------------------------

abbrev pub send_all : SendEnd → List SendEvent → SendEnd
send_all e [] = e
send_all e (x ∷ xs) = send_all (s.send_after e x) xs

abbrev pub recv_all : RecvEnd → List RecvEvent → RecvEnd
recv_all e [] = e
recv_all e (x ∷ xs) = recv_all (r.recv_after e x) xs

-- Where the turn is this end's, a transfer goes on; where it is not, this end's half owes no more than the step that
-- the unit got last calls for.
abbrev pub SendOwesNothing : Turn → SendEnd → Type 0
SendOwesNothing Own e = (e.stage ≡ s.Quiet → ⊥) × s.OwesNothing e
SendOwesNothing t e = s.CallsForNothing e

abbrev pub RestsAt : Turn → SendEnd → RecvEnd → SessionEvent → Type 0
RestsAt t a b (Got x) = SendOwesNothing t a × r.OwesNothing b
RestsAt t a b (Refused x) = SendOwesNothing t a × r.OwesNothing b
RestsAt t a b e = Unit {0}

abbrev pub Rests : (lane : ℕ) → Turn → SendEnd → RecvEnd → List SessionEvent → Type 0
Rests lane t a b [] = Unit {0}
Rests lane t a b (e ∷ es) = RestsAt t a b e
    × Rests lane (turn_after t e) (send_all a (sending_event lane e)) (recv_all b (receiving_event lane e)) es

-- behind a unit that was not taken there is an Abort at most
abbrev pub EndsSo : List SessionEvent → Type 0
EndsSo [] = Unit {0}
EndsSo (Put (Abort reason) ∷ []) = Unit {0}
EndsSo _ = ⊥

abbrev pub RefusesLast : List SessionEvent → Type 0
RefusesLast [] = Unit {0}
RefusesLast (Refused x ∷ es) = EndsSo es
RefusesLast (e ∷ es) = RefusesLast es

-- Positions --------------------------------------------------------------------------------------------------------

-- the steps stand in the history, for each half in its order; an Abandon of another pass too
abbrev pub StandsAt : (history : List Seen) → ℕ → Seen → Type 0
StandsAt history p step = slice_get history p ≡ Some step

abbrev pub StepsStand : (history : List Seen) → List SessionEvent → Type 0
StepsStand history [] = Unit {0}
StepsStand history (Made p j step ∷ es) = StandsAt history p (On j step) × StepsStand history es
StepsStand history (Looked n look ∷ es) = (n ≤ length history) × StepsStand history es
StepsStand history (e ∷ es) = StepsStand history es

-- Positions and lengths never fall. An Abandon is another pass's, and stands where its half sees it: it may have its
-- position before that of a step of the other half.
abbrev pub IsNext : (from position : ℕ) → SeenStep → Type 0
IsNext from p (h.Abandon k) = Unit {0}
IsNext from p step = from ≤ p

abbrev pub risen_to : (from position : ℕ) → SeenStep → ℕ
risen_to from p (h.Abandon k) = from
risen_to from p step = p + 1

abbrev pub NeverFall : (from : ℕ) → List SessionEvent → Type 0
NeverFall from [] = Unit {0}
NeverFall from (Made p j step ∷ es) = IsNext from p step × NeverFall (risen_to from p step) es
NeverFall from (Looked n look ∷ es) = (from ≤ n) × NeverFall n es
NeverFall from (e ∷ es) = NeverFall from es

-- Where an Abandon of another pass stands: right before the first look or step of the half whose history has it
-- ---------

-- from one length of the history up to another this activity is not given up
abbrev pub IsKept : (history : List Seen) → (lane activity from upto : ℕ) → Type 0
IsKept history lane k from upto = (p : ℕ) → from ≤ p → p < upto
    → slice_get history p ≡ Some (On lane (h.Abandon k)) → ⊥

-- so it is while the list's half is sending it
abbrev pub IsSeen : (history : List Seen) → (lane from upto : ℕ) → SendEnd → Type 0
IsSeen history lane from upto e = is_sending e.state (last_of e.state) ≡ true
    → IsKept history lane (last_of e.state) from upto

abbrev pub step_seen : (from position : ℕ) → List SendEvent → ℕ
step_seen from p [] = from
step_seen from p (e ∷ es) = p + 1

abbrev pub StepSees : (history : List Seen) → (lane from position : ℕ) → SendEnd → List SendEvent → Type 0
StepSees history lane from p e [] = Unit {0}
StepSees history lane from p e (x ∷ xs) = (from ≤ p) × IsSeen history lane from p e

abbrev pub Sees : (history : List Seen) → (lane from : ℕ) → SendEnd → SessionEvent → Type 0
Sees history lane from e (Made p j step) = StepSees history lane from p e (sending_event lane (Made p j step))
Sees history lane from e (Looked n At_sending) = (from ≤ n) × IsSeen history lane from n e
Sees history lane from e _ = Unit {0}

abbrev pub seen_after : (lane from : ℕ) → SessionEvent → ℕ
seen_after lane from (Made p j step) = step_seen from p (sending_event lane (Made p j step))
seen_after lane from (Looked n At_sending) = n
seen_after lane from _ = from

abbrev pub PlacesAbandons : (history : List Seen) → (lane from : ℕ) → SendEnd → List SessionEvent → Type 0
PlacesAbandons history lane from e [] = Unit {0}
PlacesAbandons history lane from e (y ∷ ys) = Sees history lane from e y
    × PlacesAbandons history lane (seen_after lane from y) (send_all e (sending_event lane y)) ys

-- A good list --------------------------------------------------------------------------------------------------------

pub record IsGoodSession (spells : List ℕ → Bool) (history : List Seen) (lane size window : ℕ)
    (initiator : Bool) (l : SessionList) : Type 0 where
  pub begun : l.at < length history
  pub stands : StepsStand history l.events
  pub never_fall : NeverFall (l.at + 1) l.events
  pub sending : IsGoodSending history lane size window (not initiator) (sending_list lane l)
  pub receiving : IsGoodReceiving spells history lane (receiving_list lane l)
  pub turn : KeepsTurn Before_accept l.events
  pub rests :
      Rests lane Before_accept (sendings.end_on_link (lane_in lane (take (l.at + 1) history)) size window
      (not initiator))
      (receivings.end_on_link (lane_in lane (take (l.at + 1) history))) l.events
  pub refuses : RefusesLast l.events
  pub placed : PlacesAbandons history lane (l.at + 1)
      (sendings.end_on_link (lane_in lane (take (l.at + 1) history)) size window (not initiator)) l.events

-- An Abandon that the session did not see may stand before the step that settles its activity.
abbrev pub IsSettling : s.SendStep → Type 0
IsSettling s.Dropped = Unit {0}
IsSettling s.Refused = Unit {0}
IsSettling s.Denied = Unit {0}
IsSettling _ = ⊥

abbrev pub AbandonMayStandBefore : Type 0
AbandonMayStandBefore =
    (e : SendEnd) (step : s.SendStep) → IsSettling step → is_sending e.state (last_of e.state) ≡ true
    → s.MayMake e step
    → s.MayMake e s.Abandon × s.MayMake (s.made e s.Abandon) step
    × (s.made (s.made e s.Abandon) step ≡ s.made e step)

-- What is good over what a pass has seen is good over every longer history.
abbrev pub GoodSessionsGrow : Type 0
GoodSessionsGrow =
    (spells : List ℕ → Bool) (history more : List Seen) (lane size window : ℕ) (initiator : Bool)
    (l : SessionList)
    → IsGoodSession spells history lane size window initiator l
    → IsGoodSession spells (history ++ more) lane size window initiator l
