-- Laws of session lists, one for each thing that is asked of them.
use Rattle.std.specs.Prelude.{◌≡◌, ◌⊎◌, ◌<◌, ◌≤◌, ℕ, ◌+◌, Bool, false, Option, Some, None, slice_get}
use Rattle.std.specs.Prelude.{List, [], ◌∷◌, take}
use Rattle.mta_transfer_rules.specs.Sending.{SendEnd}
use Rattle.mta_transfer_rules.specs.Lanes as h
use Rattle.mta_transfer_rules.specs.Lanes.{SeenStep, Seen, On, lane_in}
use Rattle.mta_transfer_laws.specs.History.{IsOfLanes}
use Rattle.mta_transfer_rules.specs.Receiving as r
use Rattle.mta_transfer_rules.specs.Receiving.{RecvEnd}
use Rattle.mta_transfer_laws.specs.Sessions.{SessionEvent, seen_after, PlacesAbandons}
use Rattle.mta_transfer_laws.specs.Sessions.{StepsStand, Turn, KeepsTurn, RefusesLast}
use Rattle.mta_transfer_laws.specs.Sessions.{Got, Refused, Made, receiving_event, receiving_events}
use Rattle.mta_transfer_laws.specs.Sessions.{recv_all, IsGoodSession}
use Rattle.mta_transfer_laws.specs.Sessions.{SessionList, SendOwesNothing}
use Rattle.mta_transfer_laws.specs.Sessions.{sending_event, send_all}
use Rattle.mta_transfer_laws.specs.Sessions.{turn_after}
use Rattle.mta_session.specs.declared.event.Action.TheVariants as action
use Rattle.mta_session.specs.declared.event.Side.{Side}
use Rattle.mta_session.specs.declared.event.Side.TheVariants as side
use Rattle.mta_session.specs.State.{State, is_initiator}
use Rattle.mta_session_laws.specs.Whole.{AreCalls}
use Rattle.mta_session_list_laws.specs.Calls.{Call, turns_of, action_of}
use Rattle.mta_session_list_laws.specs.Abandons.{has_before, with_abandons}
use Rattle.mta_session_list_laws.specs.Lists.{IsListOf, completed, AreValues}
use Rattle.mta_session_list_laws.specs.Over.{EndsAs, list_over, Over, seen_of}

-- ---- Abandons that are put in

abbrev pub RisesBehind : (from : ℕ) → Option ℕ → Type 0
RisesBehind from None = Unit {0}
RisesBehind from (Some upto) = from ≤ upto

-- the steps of the sending half and the looks at it stand one behind the other
abbrev pub Rises : (lane from : ℕ) → List SessionEvent → Type 0
Rises lane from [] = Unit {0}
Rises lane from (y ∷ ys) = RisesBehind from (has_before lane y) × Rises lane (seen_after lane from y) ys

-- So each Abandon has its place.
abbrev pub AbandonsArePlaced : Type 0
AbandonsArePlaced =
    (history : List Seen) (lane from : ℕ) (e : SendEnd) (ys : List SessionEvent) → Rises lane from ys
    → PlacesAbandons history lane from e (with_abandons history lane from e ys)

-- It stands in the history, and concerns neither the turn nor what is refused.
abbrev pub AbandonsStand : Type 0
AbandonsStand =
    (history : List Seen) (lane from : ℕ) (e : SendEnd) (ys : List SessionEvent) → Rises lane from ys
    → StepsStand history ys → StepsStand history (with_abandons history lane from e ys)

abbrev pub AbandonsKeepTurns : Type 0
AbandonsKeepTurns =
    (history : List Seen) (lane from : ℕ) (e : SendEnd) (t : Turn) (ys : List SessionEvent) → KeepsTurn t ys
    → KeepsTurn t (with_abandons history lane from e ys)

abbrev pub AbandonsKeepRefusals : Type 0
AbandonsKeepRefusals =
    (history : List Seen) (lane from : ℕ) (e : SendEnd) (ys : List SessionEvent) → RefusesLast ys
    → RefusesLast (with_abandons history lane from e ys)

abbrev pub AbandonsKeepReceived : Type 0
AbandonsKeepReceived =
    (history : List Seen) (lane from : ℕ) (e : SendEnd) (ys : List SessionEvent)
    → receiving_events lane (with_abandons history lane from e ys) ≡ receiving_events lane ys

-- ---- the receiving half

-- where a unit is got, each unit that was taken has its answer
abbrev pub OwesAt : RecvEnd → SessionEvent → Type 0
OwesAt b (Got x) = r.OwesNothing b
OwesAt b (Refused x) = r.OwesNothing b
OwesAt b y = Unit {0}

abbrev pub OwesNothingAt : (lane : ℕ) → RecvEnd → List SessionEvent → Type 0
OwesNothingAt lane b [] = Unit {0}
OwesNothingAt lane b (y ∷ ys) = OwesAt b y × OwesNothingAt lane (recv_all b (receiving_event lane y)) ys

-- ---- the sending half

-- where a unit is got, the unit before it calls for no step, and an end that has the turn has put all that it may
abbrev pub SendOwesAt : Turn → SendEnd → SessionEvent → Type 0
SendOwesAt v a (Got x) = SendOwesNothing v a
SendOwesAt v a (Refused x) = SendOwesNothing v a
SendOwesAt v a y = Unit {0}

abbrev pub SendOwesNothingAt : (lane : ℕ) → Turn → SendEnd → List SessionEvent → Type 0
SendOwesNothingAt lane v a [] = Unit {0}
SendOwesNothingAt lane v a (y ∷ ys) = SendOwesAt v a y
    × SendOwesNothingAt lane (turn_after v y) (send_all a (sending_event lane y)) ys

-- ---- what is found of octets

-- a step of this generation that concerns the pieces of the other end's activity
abbrev pub IsPiece : (generation : ℕ) → SeenStep → Type 0
IsPiece g (h.Secure j k n piece) = j ≡ g
IsPiece g (h.Complete j k n piece) = j ≡ g
IsPiece g (h.Drop j k) = j ≡ g
IsPiece g step = ⊥

abbrev pub IsIn : SessionEvent → List SessionEvent → Type 0
IsIn y [] = ⊥
IsIn y (z ∷ zs) = (y ≡ z) ⊎ IsIn y zs

-- The list has each such step of the generation in which it has the lane: no other session has the lane in that one.
abbrev pub OwnsPieces : List Seen → (lane : ℕ) → SessionList → Type 0
OwnsPieces history lane l =
    (q : ℕ) (step : SeenStep) → l.at < q → slice_get history q ≡ Some (On lane step)
    → IsPiece (lane_in lane (take (l.at + 1) history)).generation step → IsIn (Made q lane step) l.events

-- the lane that an initiator opens is in its first generation
abbrev pub OpensFirst : Side → Type 0
OpensFirst (side.Initiator p) = p.recovering ≡ false → p.generation ≡ 1
OpensFirst (side.Responder own) = Unit {0}

-- ---- all of it

-- The list of a session that has a lane, with the Abandons of other passes, is a good one, however the session is over:
-- each of its steps stands in the history, and they never fall; it keeps the rules of both halves and of the turn, owes
-- nothing where a unit is got, and behind a unit that is not taken there is an Abort at most; and octets that it finds
-- to be none of a message are so.
abbrev pub ListsAreGood : Type 0
ListsAreGood =
    (spells : List ℕ → Bool) (history : List Seen) (first u : State) (calls : List Call) (lane size window : ℕ)
    (l : SessionList) (x : Over) → IsOfLanes spells history → IsListOf spells history first calls lane l
    → AreValues history lane size window → OpensFirst first.side
    → OwnsPieces history lane (completed history lane size window (is_initiator first.side) (list_over calls l x))
    → AreCalls first (turns_of calls) u
    → EndsAs spells history (seen_of (l.at + 1) calls) (action_of action.Read calls) u x
    → IsGoodSession spells history lane size window (is_initiator first.side)
    (completed history lane size window (is_initiator first.side) (list_over calls l x))
