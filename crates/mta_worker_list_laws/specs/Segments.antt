-- Whose the steps of a lane's generation are. Each session makes entries of its own, and no two make the same one.
use Rattle.std.specs.Prelude.{◌≡◌, ◌⊎◌, ◌<◌, ◌≤◌, ℕ, ◌+◌, ◌-◌, Bool, Option, None, Some}
use Rattle.std.specs.Prelude.{List, [], ◌∷◌, ◌++◌, false, length, slice_get}
use Rattle.mta_transfer_rules.specs.Lanes.{Seen, On, SeenStep}
use Rattle.mta_transfer_rules.specs.Lanes as h
use Rattle.mta_transfer_laws.specs.History.{IsOfLanes}
use Rattle.mta_session.specs.State.{is_initiator, State}
use Rattle.mta_session.specs.declared.event.Action.{Action}
use Rattle.mta_session.specs.declared.event.Action.TheVariants as action
use Rattle.mta_lane_match_laws.specs.Generations.{BeginsAt}
use Rattle.mta_transfer_laws.specs.Sessions.{IsGoodSession, Made, SessionEvent, SessionList}
use Rattle.mta_session_list_laws.specs.Calls.{Call, look_told, step_told, told_as}
use Rattle.mta_session_list_laws.specs.Laws.{IsIn}
use Rattle.mta_session_list_laws.specs.Lists.{AreValues, completed, IsListOf}
use Rattle.mta_shared.specs.Counts.{times}
use Rattle.mta_worker_list_laws.specs.Begun.{begun_by, Ended, GiveNone, IsNewAt, IsOver, made_over, Stopped}
use Rattle.mta_worker_list_laws.specs.Begun.{Untold}
use Rattle.mta_worker_list_laws.specs.Good.{IsListOver}
use Rattle.mta_worker_list_laws.specs.Leads.{Leads, made_in}

-- The list of a session that has a lane in a generation, which began at this position of the history.
pub record OnLane : Type 0 where
  pub lane : ℕ
  pub generation : ℕ
  pub at : ℕ
  pub events : List SessionEvent

-- the entries that were made for a session, and its list, where it has a lane
pub record Segment : Type 0 where
  pub own : List ℕ
  pub list : Option OnLane

abbrev pub owned : List Segment → List ℕ
owned [] = []
owned (s ∷ ss) = s.own ++ owned ss

abbrev pub IsOne : Segment → List Segment → Type 0
IsOne s [] = ⊥
IsOne s (x ∷ xs) = (s ≡ x) ⊎ IsOne s xs

-- the entry stands in the list, whose lane and generation are those of the step
pub record IsListed (l : OnLane) (position lane : ℕ) (step : SeenStep) (generation : ℕ) : Type 0 where
  pub lane_is : lane ≡ l.lane
  pub generation_is : generation ≡ l.generation
  pub listed : IsIn (Made position lane step) l.events

abbrev pub IsListedIn : Option OnLane → (position lane : ℕ) → SeenStep → (generation : ℕ) → Type 0
IsListedIn None p lane step g = ⊥
IsListedIn (Some l) p lane step g = IsListed l p lane step g

-- its generation begins in an entry of its own
pub record BeginsIn (history : List Seen) (before : ℕ) (own : List ℕ) (l : OnLane) : Type 0 where
  pub begins : BeginsAt history l.at l.lane l.generation
  pub later : before ≤ l.at
  pub owned : 0 < times (l.at - before) own

abbrev pub Begins : List Seen → (before : ℕ) → List ℕ → Option OnLane → Type 0
Begins history n own None = Unit {0}
Begins history n own (Some l) = BeginsIn history n own l

-- A step that a session makes on its lane, in this generation.
abbrev pub IsOwnStep : (generation : ℕ) → SeenStep → Type 0
IsOwnStep g (h.Start j k octets) = j ≡ g
IsOwnStep g (h.Confirm j k n) = j ≡ g
IsOwnStep g (h.To_end j k) = j ≡ g
IsOwnStep g (h.Sent j k) = j ≡ g
IsOwnStep g (h.Refused j k) = j ≡ g
IsOwnStep g (h.Denied j k) = j ≡ g
IsOwnStep g (h.Dropped j k) = j ≡ g
IsOwnStep g (h.Secure j k n piece) = j ≡ g
IsOwnStep g (h.Complete j k n piece) = j ≡ g
IsOwnStep g (h.Drop j k) = j ≡ g
IsOwnStep g step = ⊥

-- the list is of this lane, and begins there; nothing is said where there is none
abbrev pub IsBegunAt : Option OnLane → (position lane : ℕ) → Type 0
IsBegunAt None p lane = Unit {0}
IsBegunAt (Some l) p lane = (lane ≡ l.lane) × (p ≡ l.at)

-- Each of its entries that is such a step stands in its list. One by which a generation of a lane begins is that by
-- which the list begins.
pub record IsSegment (history : List Seen) (before : ℕ) (s : Segment) : Type 0 where
  pub begins : Begins history before s.own s.list
  pub lists : (k lane g : ℕ) (step : SeenStep) → 0 < times k s.own
      → slice_get history (before + k) ≡ Some (On lane step) → IsOwnStep g step
      → IsListedIn s.list (before + k) lane step g
  pub once : (k lane g : ℕ) → 0 < times k s.own → BeginsAt history (before + k) lane g
      → IsBegunAt s.list (before + k) lane

abbrev pub AreSegments : List Seen → (before : ℕ) → List Segment → Type 0
AreSegments history n [] = Unit {0}
AreSegments history n (s ∷ ss) = IsSegment history n s × AreSegments history n ss

-- No entry was made twice, and each one from some on was made for a session, or is no such step.
pub record AreAll (history : List Seen) (before low : ℕ) (ss : List Segment) : Type 0 where
  pub segments : AreSegments history before ss
  pub once : (k : ℕ) → times k (owned ss) ≤ 1
  pub all : (k lane g : ℕ) (step : SeenStep) → low ≤ k → slice_get history (before + k) ≡ Some (On lane step)
      → IsOwnStep g step → 0 < times k (owned ss)

-- So the list of a session has each such step of its generation.
abbrev pub ListsOwnSteps : Type 0
ListsOwnSteps =
    (spells : List ℕ → Bool) (history : List Seen) (before low : ℕ) (ss : List Segment) (s : Segment) (l : OnLane)
    → h.LanesAllow spells history → AreAll history before low ss → IsOne s ss → s.list ≡ Some l
    → before + low ≤ l.at → (q : ℕ) (step : SeenStep) → l.at < q
    → slice_get history q ≡ Some (On l.lane step) → IsOwnStep l.generation step
    → IsIn (Made q l.lane step) l.events

-- ---- sessions

-- what stands in the list for a reply that is not told
abbrev pub told_over : {spells : List ℕ → Bool} {history : List Seen} {from upto : ℕ} {u : State} {b : Action}
    → IsOver spells history from upto u b → List SessionEvent
told_over (Ended e is same) = []
told_over (Stopped came aborts at may going same) = []
told_over {upto = upto} (Untold q x aborts is comes answers going) =
    told_as upto (step_told q x) (look_told q x) ∷ []

-- it is the list of these calls, with that reply; none where a responder has no lane
abbrev pub ListsAs : (spells : List ℕ → Bool) → List Seen → State → List Call → List SessionEvent
    → Option OnLane → Type 0
ListsAs spells history t calls over None = (is_initiator t.side ≡ false) × GiveNone calls
ListsAs spells history t calls over (Some x) =
    (l : SessionList) × IsListOf spells history t calls x.lane l × (x.at ≡ l.at) × (x.events ≡ l.events ++ over)

-- the entries and the list of a session
pub record IsOf {spells : List ℕ → Bool} {history : List Seen} {from mid upto : ℕ} {t u : State} {b : Action}
    (before : ℕ) (new : IsNewAt history from t) (calls : List Call) (over : IsOver spells history mid upto u b)
    (s : Segment) : Type 0 where
  pub own : s.own ≡ begun_by before new ++ (made_in before action.Read calls ++ made_over before over)
  pub list : ListsAs spells history t calls (told_over over) s.list

-- All that a session did is such a segment of the history.
abbrev pub SessionsAreSegments : Type 0
SessionsAreSegments =
    (spells : List ℕ → Bool) (history : List Seen) (before from mid upto : ℕ) (t u : State) (b : Action)
    (calls : List Call) (new : IsNewAt history from t) (over : IsOver spells history mid upto u b)
    → before + length (begun_by before new) ≤ from → Leads spells history from t action.Read calls mid u b
    → (s : Segment) × IsOf before new calls over s × IsSegment history before s

-- The list of a session whose part of the history is one of these, with what came of its last action and with the
-- Abandons of other passes, is a good one.
abbrev pub SegmentsAreGood : Type 0
SegmentsAreGood =
    (spells : List ℕ → Bool) (history : List Seen) (before low from mid upto : ℕ) (ss : List Segment)
    (s : Segment) (t u : State) (b : Action) (calls : List Call) (new : IsNewAt history from t)
    (over : IsOver spells history mid upto u b) (x : OnLane) (l m : SessionList) (size window : ℕ)
    → IsOfLanes spells history → AreAll history before low ss → IsOne s ss → IsOf before new calls over s
    → s.list ≡ Some x → before + low ≤ x.at → Leads spells history from t action.Read calls mid u b
    → IsListOf spells history t calls x.lane l → x.at ≡ l.at → x.events ≡ l.events ++ told_over over
    → IsListOver calls l over m → AreValues history x.lane size window
    → IsGoodSession spells history x.lane size window (is_initiator t.side)
    (completed history x.lane size window (is_initiator t.side) m)
