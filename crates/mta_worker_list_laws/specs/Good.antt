-- The list of a session that a worker served, and when it is a good one.
use Rattle.std.specs.Prelude.{◌≡◌, ◌⊎◌, ℕ, Bool, false, List}
use Rattle.mta_transfer_rules.specs.Lanes.{Seen}
use Rattle.mta_transfer_laws.specs.History.{IsOfLanes}
use Rattle.mta_session.specs.State.{State, is_initiator}
use Rattle.mta_session.specs.declared.event.Action.{Action}
use Rattle.mta_session.specs.declared.event.Action.TheVariants as action
use Rattle.mta_session.specs.declared.event.Event.TheVariants as event
use Rattle.mta_transfer_laws.specs.Sessions.{IsGoodSession, SessionList}
use Rattle.mta_session_list_laws.specs.Calls.{Call}
use Rattle.mta_session_list_laws.specs.Laws.{OwnsPieces}
use Rattle.mta_session_list_laws.specs.Lists.{AreValues, completed, IsListOf}
use Rattle.mta_session_list_laws.specs.Over.{list_over}
use Rattle.mta_worker_list_laws.specs.Begun.{GiveNone, IsNewAt, IsOver, over_as}
use Rattle.mta_worker_list_laws.specs.Leads.{Leads}

-- The list of these calls with what came of the last action, and with the Abort that was put.
abbrev pub IsListOver : {spells : List ℕ → Bool} {history : List Seen} {from upto : ℕ} {u : State} {b : Action}
    → List Call → SessionList → IsOver spells history from upto u b → SessionList → Type 0
IsListOver calls l o m = m ≡ list_over calls l (over_as o)

-- A new session has a list, where it has a lane. A responder has none before a call tells it so.
abbrev pub SessionsHaveLists : Type 0
SessionsHaveLists =
    (spells : List ℕ → Bool) (history : List Seen) (from upto : ℕ) (t u : State) (b : Action) (calls : List Call)
    → IsNewAt history from t → Leads spells history from t action.Read calls upto u b
    → ((lane : ℕ) × (l : SessionList) × IsListOf spells history t calls lane l)
    ⊎ ((is_initiator t.side ≡ false) × GiveNone calls)

-- The list, with the Abandons of other passes, is a good one, where each step of its generation that concerns pieces
-- stands in it.
abbrev pub SessionsAreGood : Type 0
SessionsAreGood =
    (spells : List ℕ → Bool) (history : List Seen) (from mid upto : ℕ) (t u : State) (b : Action)
    (calls : List Call) (lane : ℕ) (l m : SessionList) (size window : ℕ) → IsOfLanes spells history
    → IsNewAt history from t
    → Leads spells history from t action.Read calls mid u b → (over : IsOver spells history mid upto u b)
    → IsListOf spells history t calls lane l → IsListOver calls l over m → AreValues history lane size window
    → OwnsPieces history lane (completed history lane size window (is_initiator t.side) m)
    → IsGoodSession spells history lane size window (is_initiator t.side)
    (completed history lane size window (is_initiator t.side) m)
