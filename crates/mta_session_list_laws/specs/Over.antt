-- How the list of a session is over. Behind the calls that the session was told stands what came of its last action,
-- where memory was wanted to tell it, and the Abort that its worker puts, where it puts one. Of a session that comes to
-- its end by itself neither stands there.
use Rattle.std.specs.Prelude.{◌≡◌, ℕ, Bool, true, false, Option, None, Some, List, [], ◌∷◌, ◌++◌}
use Rattle.mta_units.specs.declared.unit.Unit.TheVariants as unit
use Rattle.mta_transfer_rules.specs.Lanes.{Seen}
use Rattle.mta_session.specs.declared.event.Action.{Action}
use Rattle.mta_session.specs.declared.event.Action.TheVariants as action
use Rattle.mta_session.specs.declared.event.Event.{Event}
use Rattle.mta_session.specs.declared.event.Event.TheVariants as event
use Rattle.mta_session.specs.Fits.{Fits, Answers}
use Rattle.mta_session.specs.Groups.{has_turned}
use Rattle.mta_session.specs.State.{State}
use Rattle.mta_transfer_laws.specs.Sessions.{SessionEvent, SessionList, Refused, Put}
use Rattle.mta_session_list_laws.specs.Calls.{Call, step_told, look_told, told_as, action_of}
use Rattle.mta_session_list_laws.specs.Standing.{ComesTrue}

-- the event that the session was not told, if one came, the length of the history then, and whether an Abort is put
pub record Over : Type 0 where
  pub untold : Option Event
  pub seen : ℕ
  pub aborts : Bool

-- what came of the last action: a unit that is got then is not taken
abbrev pub came_of : Action → (seen : ℕ) → Event → List SessionEvent
came_of (action.Put x) seen e = Put x ∷ []
came_of action.Read seen (event.Unit x) = Refused x ∷ []
came_of (action.Ask a) seen (event.Reply x) = told_as seen (step_told a x) (look_told a x) ∷ []
came_of a seen e = []

abbrev pub untold_of : Action → (seen : ℕ) → Option Event → List SessionEvent
untold_of a seen None = []
untold_of a seen (Some e) = came_of a seen e

-- localSystemProblem
abbrev pub abort_of : Bool → List SessionEvent
abort_of true = Put (unit.Abort 0) ∷ []
abort_of false = []

abbrev pub tail_of : Action → Over → List SessionEvent
tail_of a x = untold_of a x.seen x.untold ++ abort_of x.aborts

-- the length of the history once the last event was made
abbrev pub seen_of : (from : ℕ) → List Call → ℕ
seen_of from [] = from
seen_of from (c ∷ cs) = seen_of c.seen cs

-- the event answers the last action, and what it tells is so in the history
pub record ComesLast (spells : List ℕ → Bool) (history : List Seen) (from : ℕ) (a : Action) (u : State)
    (seen : ℕ) (e : Event) : Type 0 where
  pub fits : Fits u
  pub answers : Answers u e
  pub stands : ComesTrue spells history from seen u.phase a e

abbrev pub MayComeLast : (spells : List ℕ → Bool) → List Seen → (from : ℕ) → Action → State
    → (seen : ℕ) → Option Event → Type 0
MayComeLast spells history from a u seen None = Unit {0}
MayComeLast spells history from a u seen (Some e) = ComesLast spells history from a u seen e

-- So it is of what was not told, if anything came. An Abort is put only where the session has not turned to its end.
pub record EndsAs (spells : List ℕ → Bool) (history : List Seen) (from : ℕ) (a : Action) (u : State) (x : Over)
    : Type 0 where
  pub came : MayComeLast spells history from a u x.seen x.untold
  pub going : x.aborts ≡ true → has_turned u.phase ≡ false

-- the list of these calls, with what stands behind them
abbrev pub list_over : List Call → SessionList → Over → SessionList
list_over calls l x = record {
  opening = l.opening;
  at = l.at;
  events = l.events ++ tail_of (action_of action.Read calls) x;
}
