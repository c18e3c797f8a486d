-- What the history has of a session's calls: each step that was made, and what each look told. Nothing is asked of what
-- other workers did.
use Rattle.std.specs.Prelude.{◌≡◌, ◌<◌, ◌≤◌, ℕ, ◌-◌, ◌*◌, Bool, false, Option, Some, None, Ok, Err}
use Rattle.std.specs.Prelude.{slice_get, List, [], ◌∷◌, length, take}
use Rattle.mta_records.specs.declared.fault.CompleteFault.TheVariants.{Bad}
use Rattle.mta_transfer_rules.specs.Lanes.{Seen, On, Halves, IsHeld, lane_in}
use Rattle.mta_transfer_rules.specs.Pieces.{octets_with}
use Rattle.mta_world.specs.Steps.{SpellsNothing}
use Rattle.mta_session.specs.declared.ask.Ask.{Ask}
use Rattle.mta_session.specs.declared.ask.Ask.TheVariants as ask
use Rattle.mta_session.specs.declared.ask.Reply.{Reply}
use Rattle.mta_session.specs.declared.ask.Reply.TheVariants as reply
use Rattle.mta_session.specs.declared.event.Event.{Event}
use Rattle.mta_session.specs.declared.event.Event.TheVariants as event
use Rattle.mta_session.specs.declared.event.Action.{Action}
use Rattle.mta_session.specs.declared.event.Action.TheVariants as action
use Rattle.mta_session.specs.declared.phase.Phase.{Phase}
use Rattle.mta_session.specs.declared.phase.Phase.TheVariants as phase
use Rattle.mta_session_list_laws.specs.Calls.{Call, StepOn, step_told}

-- the step is the last entry of so much of the history, and was made behind this length
pub record Stands (history : List Seen) (from seen : ℕ) (x : StepOn) : Type 0 where
  pub later : from < seen
  pub entry : slice_get history (seen - 1) ≡ Some (On x.lane x.step)

-- the spool tells values of a lane in units of 1,024 octets
pub record HasValues (lane : Halves) (agreed : Bool) (checkpoint window : ℕ) : Type 0 where
  pub agreed_is : lane.agreed ≡ agreed
  pub size_is : lane.size ≡ 1024 * checkpoint
  pub window_is : lane.window ≡ window

-- The reply is true of this history: a lane's values, its halves, and that octets are none of a message.
abbrev pub IsTrue : (spells : List ℕ → Bool) → List Seen → Ask → Reply → Type 0
IsTrue spells history (ask.Values lane) (reply.Values (Some v)) =
    HasValues (lane_in lane history) v.agreed v.checkpoint v.window
IsTrue spells history (ask.Recovery lane) (reply.Recovery (Some state)) = (lane_in lane history).state ≡ state
IsTrue spells history (ask.Receiving lane) (reply.Receiving (Some x)) =
    ((lane_in lane history).high ≡ x.0) × ((lane_in lane history).last ≡ x.1)
IsTrue spells history (ask.Resumed lane) (reply.Resumed (Ok (Some o))) = (lane_in lane history).octets ≡ o.octets
IsTrue spells history (ask.Secure lane g k n piece) (reply.Secure (Err (Bad f))) =
    IsHeld (lane_in lane history) g × SpellsNothing spells (octets_with (lane_in lane history).pieces n piece)
IsTrue spells history (ask.Complete lane g k n piece) (reply.Complete (Err (Bad f))) =
    IsHeld (lane_in lane history) g × (spells (octets_with (lane_in lane history).pieces n piece) ≡ false)
IsTrue spells history a x = Unit {0}

-- a look that is answered at this length of the history, behind that one
pub record Looks (spells : List ℕ → Bool) (history : List Seen) (from seen : ℕ) (a : Ask)
    (x : Reply) : Type 0 where
  pub later : from ≤ seen
  pub within : seen ≤ length history
  pub told : IsTrue spells (take seen history) a x

abbrev pub StandsAs : (List ℕ → Bool) → List Seen → (from seen : ℕ) → Ask → Reply → Option StepOn
    → Type 0
StandsAs spells history from seen a x (Some step) = Stands history from seen step
StandsAs spells history from seen a x None = Looks spells history from seen a x

-- the looks right behind a Bind are answered in its turn of the lock
abbrev pub IsInTurn : Phase → (from seen : ℕ) → Type 0
IsInTurn phase.AsksValues from seen = seen ≡ from
IsInTurn phase.AsksRecovery from seen = seen ≡ from
IsInTurn (phase.AsksReceiving state) from seen = seen ≡ from
IsInTurn (phase.AsksResumed state) from seen = seen ≡ from
IsInTurn p from seen = Unit {0}

-- What came of an action is so in the history. What is put and got sees no more of it than was seen before.
abbrev pub ComesTrue : (List ℕ → Bool) → List Seen → (from seen : ℕ) → Phase → Action → Event → Type 0
ComesTrue spells history from seen p (action.Ask a) (event.Reply x) =
    IsInTurn p from seen × StandsAs spells history from seen a x (step_told a x)
ComesTrue spells history from seen p a e = seen ≡ from

-- So it is of calls one after the other, the first of which tells what came of this action.
abbrev pub AllComeTrue : (List ℕ → Bool) → List Seen → (from : ℕ) → Action → List Call → Type 0
AllComeTrue spells history from a [] = Unit {0}
AllComeTrue spells history from a (c ∷ cs) =
    ComesTrue spells history from c.seen c.turn.before.phase a c.turn.event
    × AllComeTrue spells history c.seen c.turn.action cs
