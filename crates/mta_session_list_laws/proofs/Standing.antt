-- The events of calls stand in the history, one behind the other.
use Rattle.std.proofs.Common.{◌≤◌, ℕ, ◌+◌, ◌-◌, Bool, Option, Some, None, List, [], ◌∷◌, ◌++◌, arith}
use Rattle.mta_units.specs.declared.unit.Unit.{Unit as AnyUnit}
use Rattle.mta_transfer_rules.specs.Sending.{SendEvent}
use Rattle.mta_transfer_rules.specs.Lanes.{Seen}
use Rattle.mta_session.specs.declared.ask.Ask.{Ask}
use Rattle.mta_session.specs.declared.ask.Reply.{Reply}
use Rattle.mta_session.specs.declared.event.Event.{Event}
use Rattle.mta_session.specs.declared.event.Event.TheVariants as event
use Rattle.mta_session.specs.declared.event.Action.{Action}
use Rattle.mta_session.specs.declared.event.Action.TheVariants as action
use Rattle.mta_session.specs.declared.phase.Phase.{Phase}
use Rattle.mta_session.specs.Wanted.{Wanted, Aborts}
use Rattle.mta_session_laws.specs.Turning.{called_for}
use Rattle.mta_session_laws.specs.Runs.{Turn}
use Rattle.mta_transfer_laws.specs.Sessions as x
use Rattle.mta_transfer_laws.specs.Sessions.{SessionEvent, Looked, Made, Got, Refused, Put, Look, sending_event}
use Rattle.mta_transfer_laws.specs.Sessions.{step_seen}
use Rattle.mta_transfer_laws.specs.Sessions.{seen_after, StepsStand}
use Rattle.mta_session_list_laws.specs.Calls.{Call, StepOn, step_told, look_told, told_as, got_as, come_of}
use Rattle.mta_session_list_laws.specs.Abandons.{step_upto, has_before}
use Rattle.mta_session_list_laws.specs.Standing.{StandsAs, ComesTrue, AllComeTrue}
use Rattle.mta_session_list_laws.specs.Laws.{RisesBehind, Rises}

module _ (spells : List ℕ → Bool) (history : List Seen) (lane : ℕ) where
  -- ---- one event

  made_rises : (low p : ℕ) (events : List SendEvent) → low ≤ p
      → RisesBehind low (step_upto p events) × (step_seen low p events ≤ p + 1)
  made_rises low p [] le = (tt, omega (arith, le))
  made_rises low p (v ∷ vs) le = (le, omega arith)

  looked_rises : (low seen : ℕ) (look : Look) → low ≤ seen
      → RisesBehind low (has_before lane (Looked seen look)) × (seen_after lane low (Looked seen look) ≤ seen)
  looked_rises low seen x.At_sending le = (le, omega arith)
  looked_rises low seen any2 le = (tt, le)

  abbrev From : (seen : ℕ) → List SessionEvent → Type 0
  From seen rest = (low : ℕ) → low ≤ seen → Rises lane low rest

  pub told_rises : (low from seen : ℕ) (a : Ask) (y : Reply) (o : Option StepOn) (look : Look) (rest : List
      SessionEvent)
      → low ≤ from → StandsAs spells history from seen a y o → From seen rest
      → Rises lane low (told_as seen o look ∷ rest)
  told_rises low from seen a y (Some step) look rest le is more =
      let first = made_rises low (seen - 1) (sending_event lane (Made (seen - 1) step.lane step.step))
      (omega (arith, le, is.later)) in
      (first.0, more _ (omega (arith, first.1, is.later)))
  told_rises low from seen a y None look rest le is more =
      let first = looked_rises low seen look (omega (arith, le, is.later)) in
      (first.0, more _ first.1)

  got_rises : (low : ℕ) (w : Wanted) (u : AnyUnit) (rest : List SessionEvent) → Rises lane low rest
      → Rises lane low (got_as w u ∷ rest)
  got_rises low (Aborts reason) u rest r = (tt, r)
  got_rises low any1 u rest r = (tt, r)

  pub come_rises : (low from seen : ℕ) (p : Phase) (a : Action) (t : Turn) (e : Event) (rest : List SessionEvent)
      → low ≤ from → ComesTrue spells history from seen p a e → From seen rest
      → Rises lane low (come_of a t seen e ++ rest)
  come_rises low from seen p (action.Put u) t e rest le is more = (tt, more low (omega (arith, le, is)))
  come_rises low from seen p action.Read t (event.Unit u) rest le is more =
      got_rises low (called_for t.before.phase t.before u) u rest (more low (omega (arith, le, is)))
  come_rises low from seen p action.Read t any6 rest le is more = more low (omega (arith, le, is))
  come_rises low from seen p (action.Ask a) t (event.Reply y) rest le is more =
      told_rises low from seen a y (step_told a y) (look_told a y) rest le is.1 more
  come_rises low from seen p (action.Ask a) t any6 rest le is more = more low (omega (arith, le, is))
  come_rises low from seen p (action.Finish y) t e rest le is more = more low (omega (arith, le, is))

  -- ---- in the history

  pub told_stands : (from seen : ℕ) (a : Ask) (y : Reply) (o : Option StepOn) (look : Look) (rest : List SessionEvent)
      → StandsAs spells history from seen a y o → StepsStand history rest
      → StepsStand history (told_as seen o look ∷ rest)
  told_stands from seen a y (Some step) look rest is more = (is.entry, more)
  told_stands from seen a y None look rest is more = (is.within, more)

  got_stands : (w : Wanted) (u : AnyUnit) (rest : List SessionEvent) → StepsStand history rest
      → StepsStand history (got_as w u ∷ rest)
  got_stands (Aborts reason) u rest k = k
  got_stands any0 u rest k = k

  pub come_stands : (from seen : ℕ) (p : Phase) (a : Action) (t : Turn) (e : Event) (rest : List SessionEvent)
      → ComesTrue spells history from seen p a e → StepsStand history rest
      → StepsStand history (come_of a t seen e ++ rest)
  come_stands from seen p action.Read t (event.Unit u) rest is more =
      got_stands (called_for t.before.phase t.before u) u rest more
  come_stands from seen p action.Read t any5 rest is more = more
  come_stands from seen p (action.Ask a) t (event.Reply y) rest is more =
      told_stands from seen a y (step_told a y) (look_told a y) rest is.1 more
  come_stands from seen p (action.Ask a) t any5 rest is more = more
  come_stands from seen p any3 t e rest is more = more

-- ---- a list of calls in two parts

pub later_true : (spells : List ℕ → Bool) (history : List Seen) (before cs : List Call) (c : Call) (from : ℕ)
    (a : Action) → AllComeTrue spells history from a (before ++ c ∷ cs)
    → (low : ℕ) × (b : Action) × ComesTrue spells history low c.seen c.turn.before.phase b c.turn.event
    × AllComeTrue spells history c.seen c.turn.action cs
later_true spells history [] cs c from a is = (from, a, is.0, is.1)
later_true spells history (d ∷ ds) cs c from a is = later_true spells history ds cs c d.seen d.turn.action is.1
