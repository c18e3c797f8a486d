-- The steps and looks of calls never fall in the history.
use Rattle.std.proofs.Common.{ℕ, ◌+◌, ◌-◌, ◌≤◌, Bool, true, false, Option, Some, None, List, [], ◌∷◌, ◌++◌}
use Rattle.std.proofs.Common.{append_assoc, subst, sym, arith}
use Rattle.mta_units.specs.declared.unit.Unit.{Unit as AnyUnit}
use Rattle.mta_transfer_rules.specs.Lanes as h
use Rattle.mta_transfer_rules.specs.Lanes.{Seen, SeenStep}
use Rattle.mta_transfer_rules.specs.Sending.{SendEnd}
use Rattle.mta_session.specs.declared.ask.Ask.{Ask}
use Rattle.mta_session.specs.declared.ask.Reply.{Reply}
use Rattle.mta_session.specs.declared.event.Event.{Event}
use Rattle.mta_session.specs.declared.event.Event.TheVariants as event
use Rattle.mta_session.specs.declared.event.Action.{Action}
use Rattle.mta_session.specs.declared.event.Action.TheVariants as action
use Rattle.mta_session.specs.declared.phase.Phase.{Phase}
use Rattle.mta_session.specs.State.{State}
use Rattle.mta_session.specs.Wanted.{Wanted, Aborts}
use Rattle.mta_session_laws.specs.Turning.{called_for}
use Rattle.mta_session_laws.specs.Runs.{Turn}
use Rattle.mta_transfer_laws.specs.Sessions as x
use Rattle.mta_transfer_laws.specs.Sessions.{SessionEvent, Look, IsNext, NeverFall, risen_to, seen_after, sending_event}
use Rattle.mta_transfer_laws.specs.Sessions.{send_all}
use Rattle.mta_session_list_laws.specs.Calls.{Call, StepOn, step_told, look_told, told_as, got_as, come_of, list_of}
use Rattle.mta_session_list_laws.specs.Calls.{action_of, event_of}
use Rattle.mta_session_list_laws.specs.Abandons.{abandon_at, abandoned_upto, given_up, has_before, with_abandons}
use Rattle.mta_session_list_laws.specs.Over.{abort_of, came_of, MayComeLast, Over, seen_of, tail_of, untold_of}
use Rattle.mta_session_list_laws.specs.Standing.{StandsAs, ComesTrue, AllComeTrue}

-- ---- of any events

made-lower : (low from p : ℕ) (step : SeenStep) (es : List SessionEvent) → low ≤ from
    → ((a b : ℕ) → a ≤ b → NeverFall b es → NeverFall a es)
    → IsNext from p step × NeverFall (risen_to from p step) es → IsNext low p step × NeverFall (risen_to low p step) es
made-lower low from p (h.Abandon k) es le more r = (tt, more low from le r.1)
made-lower low from p any es le more r = (omega (arith, le, r.0), r.1)

-- so they do from an earlier length
pub lower : (es : List SessionEvent) (low from : ℕ) → low ≤ from → NeverFall from es → NeverFall low es
lower [] low from le r = tt
lower (x.Made p j step ∷ es) low from le r = made-lower low from p step es le (lower es) r
lower (x.Looked n look ∷ es) low from le r = (omega (arith, le, r.0), r.1)
lower (x.Got u ∷ es) low from le r = lower es low from le r
lower (x.Refused u ∷ es) low from le r = lower es low from le r
lower (x.Put u ∷ es) low from le r = lower es low from le r

-- ---- Abandons that are put in

module _ (history : List Seen) (lane : ℕ) where
  given-up : (from : ℕ) (e : SendEnd) (o : Option ℕ) (zs : List SessionEvent) → NeverFall from zs
      → NeverFall from (abandon_at lane e o ++ zs)
  given-up from e None zs r = r
  given-up from e (Some p) zs r = (tt, r)

  behind-it : (y : SessionEvent) (xs zs : List SessionEvent) (from : ℕ)
      → ((to : ℕ) → NeverFall to xs → NeverFall to zs) → NeverFall from (y ∷ xs) → NeverFall from (y ∷ zs)
  behind-it (x.Made p j step) xs zs from more r = (r.0, more (risen_to from p step) r.1)
  behind-it (x.Looked n look) xs zs from more r = (r.0, more n r.1)
  behind-it (x.Got u) xs zs from more r = more from r
  behind-it (x.Refused u) xs zs from more r = more from r
  behind-it (x.Put u) xs zs from more r = more from r

  pub never_with : (ys : List SessionEvent) (from sees : ℕ) (e : SendEnd) → NeverFall from ys
      → NeverFall from (with_abandons history lane sees e ys)
  never_with [] from sees e r = tt
  never_with (y ∷ ys) from sees e r =
      let found = abandoned_upto history lane sees e (has_before lane y) in
      let next = send_all (given_up e found) (sending_event lane y) in
      given-up from e found (y ∷ with_abandons history lane (seen_after lane sees y) next ys)
      (behind-it y ys (with_abandons history lane (seen_after lane sees y) next ys) from
      (λ to more. never_with ys to (seen_after lane sees y) next more) r)

-- ---- of calls

module _ (spells : List ℕ → Bool) (history : List Seen) where
  abbrev From : (seen : ℕ) → List SessionEvent → Type 0
  From seen rest = (low : ℕ) → low ≤ seen → NeverFall low rest

  made-falls : (low p : ℕ) (step : SeenStep) (rest : List SessionEvent) → low ≤ p → From (p + 1) rest
      → IsNext low p step × NeverFall (risen_to low p step) rest
  made-falls low p (h.Abandon k) rest le more = (tt, more low (omega (arith, le)))
  made-falls low p any rest le more = (le, more (p + 1) (omega arith))

  told-falls : (low from seen : ℕ) (a : Ask) (y : Reply) (o : Option StepOn) (look : Look) (rest : List SessionEvent)
      → low ≤ from → StandsAs spells history from seen a y o → From seen rest
      → NeverFall low (told_as seen o look ∷ rest)
  told-falls low from seen a y (Some step) look rest le is more =
      made-falls low (seen - 1) step.step rest (omega (arith, le, is.later))
      (λ to less. more to (omega (arith, less, is.later)))
  told-falls low from seen a y None look rest le is more = (omega (arith, le, is.later), more seen (omega arith))

  got-falls : (low : ℕ) (w : Wanted) (u : AnyUnit) (rest : List SessionEvent) → NeverFall low rest
      → NeverFall low (got_as w u ∷ rest)
  got-falls low (Aborts reason) u rest r = r
  got-falls low any1 u rest r = r

  come-falls : (low from seen : ℕ) (p : Phase) (a : Action) (t : Turn) (e : Event) (rest : List SessionEvent)
      → low ≤ from → ComesTrue spells history from seen p a e → From seen rest
      → NeverFall low (come_of a t seen e ++ rest)
  come-falls low from seen p (action.Put u) t e rest le is more = more low (omega (arith, le, is))
  come-falls low from seen p action.Read t (event.Unit u) rest le is more =
      got-falls low (called_for t.before.phase t.before u) u rest (more low (omega (arith, le, is)))
  come-falls low from seen p action.Read t any6 rest le is more = more low (omega (arith, le, is))
  come-falls low from seen p (action.Ask a) t (event.Reply y) rest le is more =
      told-falls low from seen a y (step_told a y) (look_told a y) rest le is.1 more
  come-falls low from seen p (action.Ask a) t any6 rest le is more = more low (omega (arith, le, is))
  come-falls low from seen p (action.Finish y) t e rest le is more = more low (omega (arith, le, is))

  -- ---- and of what came of the last action

  abort-falls : (low : ℕ) (b : Bool) → NeverFall low (abort_of b)
  abort-falls low true = tt
  abort-falls low false = tt

  came-falls : (low from seen : ℕ) (p : Phase) (aborts : Bool) (a : Action) (e : Event) → low ≤ from
      → ComesTrue spells history from seen p a e → NeverFall low (came_of a seen e ++ abort_of aborts)
  came-falls low from seen p aborts (action.Put u) e le is = abort-falls low aborts
  came-falls low from seen p aborts action.Read (event.Unit u) le is = abort-falls low aborts
  came-falls low from seen p aborts action.Read any5 le is = abort-falls low aborts
  came-falls low from seen p aborts (action.Ask q) (event.Reply z) le is =
      told-falls low from seen q z (step_told q z) (look_told q z) (abort_of aborts) le is.1
      (λ to more. abort-falls to aborts)
  came-falls low from seen p aborts (action.Ask q) any5 le is = abort-falls low aborts
  came-falls low from seen p aborts (action.Finish z) e le is = abort-falls low aborts

  tail-falls : (low from seen : ℕ) (u : State) (aborts : Bool) (a : Action) (o : Option Event) → low ≤ from
      → MayComeLast spells history from a u seen o → NeverFall low (untold_of a seen o ++ abort_of aborts)
  tail-falls low from seen u aborts a None le is = abort-falls low aborts
  tail-falls low from seen u aborts a (Some e) le is = came-falls low from seen u.phase aborts a e le is.stands

  pub calls_never_fall : (cs : List Call) (low from : ℕ) (a : Action) (u : State) (y : Over) → low ≤ from
      → AllComeTrue spells history from a cs
      → MayComeLast spells history (seen_of from cs) (action_of a cs) u y.seen y.untold
      → NeverFall low (list_of a cs ++ tail_of (action_of a cs) y)
  calls_never_fall [] low from a u y le is last = tail-falls low from y.seen u y.aborts a y.untold le last
  calls_never_fall (c ∷ cs) low from a u y le is last =
      let tail : List SessionEvent = tail_of (action_of c.turn.action cs) y in
      subst (λ z. NeverFall low z) (sym (append_assoc (event_of a c) (list_of c.turn.action cs) tail))
      (come-falls low from c.seen c.turn.before.phase a c.turn c.turn.event (list_of c.turn.action cs ++ tail) le is.0
      (λ to more. calls_never_fall cs to c.seen c.turn.action u y more is.1 last))
