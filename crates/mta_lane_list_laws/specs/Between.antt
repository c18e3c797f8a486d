-- Where the steps of a session's list stand in the history.
use Rattle.std.specs.Prelude.{◌≤◌, ℕ, ◌+◌, Bool, Option, None, Some, List}
use Rattle.mta_transfer_rules.specs.Lanes.{Seen}
use Rattle.mta_transfer_laws.specs.Sessions.{SessionList}
use Rattle.mta_session.specs.State.{State}
use Rattle.mta_session.specs.declared.event.Action.{Action}
use Rattle.mta_session.specs.declared.event.Action.TheVariants as action
use Rattle.mta_session.specs.declared.event.Event.{Event}
use Rattle.mta_session.specs.declared.phase.Phase.{Phase}
use Rattle.mta_session_list_laws.specs.Calls.{action_of, Call}
use Rattle.mta_session_list_laws.specs.Lists.{completed, IsListOf}
use Rattle.mta_session_list_laws.specs.Over.{list_over, Over, seen_of}
use Rattle.mta_session_list_laws.specs.Standing.{ComesTrue}
use Rattle.mta_lane_list_laws.specs.Turns.{StandsBetween}

-- What came of the last action is so in the history of that length. Where nothing came, no more of it was seen before.
abbrev pub IsSeen : (spells : List ℕ → Bool) → List Seen → (from seen : ℕ) → Phase → Action → Option Event
    → Type 0
IsSeen spells history from seen p a None = from ≤ seen
IsSeen spells history from seen p a (Some e) = ComesTrue spells history from seen p a e

-- The steps of a session's list, with what came of its last action, and the Abandons of other passes in it, stand
-- behind
-- the step that begins it, and before the length of the history at which the session was over.
abbrev pub ListsStandBetween : Type 0
ListsStandBetween =
    (spells : List ℕ → Bool) (history : List Seen) (t : State) (calls : List Call) (lane size window : ℕ)
    (initiator : Bool) (l : SessionList) (p : Phase) (x : Over) → IsListOf spells history t calls lane l
    → IsSeen spells history (seen_of (l.at + 1) calls) x.seen p (action_of action.Read calls) x.untold
    → StandsBetween lane l.at x.seen (completed history lane size window initiator (list_over calls l x))
