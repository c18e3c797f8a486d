-- The list of a session, however the session is over: where it stands in the history, its turn, and what it refuses.
use Rattle.std.proofs.Common.{◌≡◌, ℕ, ◌≤◌, Bool, true, false, Option, Some, None}
use Rattle.std.proofs.Common.{List, [], ◌∷◌, ◌++◌, refl, sym, ap, subst, ◌∙◌, append_assoc}
use Rattle.mta_units.specs.declared.unit.Unit.{Unit as AnyUnit}
use Rattle.mta_units.specs.declared.unit.Unit.TheVariants as unit
use Rattle.mta_transfer_rules.specs.Lanes.{Seen}
use Rattle.mta_session.specs.declared.event.Action.{Action}
use Rattle.mta_session.specs.declared.event.Action.TheVariants as action
use Rattle.mta_session.specs.declared.event.Event.{Event}
use Rattle.mta_session.specs.declared.event.Event.TheVariants as event
use Rattle.mta_session.specs.declared.event.SessionEnd.{SessionEnd}
use Rattle.mta_session.specs.declared.event.SessionEnd.TheVariants as end
use Rattle.mta_session.specs.declared.event.Side.{Side}
use Rattle.mta_session.specs.declared.event.Side.TheVariants as side
use Rattle.mta_session.specs.declared.phase.Phase.{Phase}
use Rattle.mta_session.specs.declared.phase.Phase.TheVariants as phase
use Rattle.mta_session.specs.Groups.{has_turned}
use Rattle.mta_session.specs.State.{State}
use Rattle.mta_session.specs.Wanted.{Wanted, Aborts}
use Rattle.mta_session.specs.Follows.{Does, counted}
use Rattle.mta_session_laws.specs.Runs.{IsTurn}
use Rattle.mta_session_laws.specs.Turning.{called_for}
use Rattle.mta_session_laws.specs.Whole.{AreCalls}
use Rattle.mta_transfer_laws.specs.Sessions as x
use Rattle.mta_transfer_laws.specs.Sessions.{SessionEvent, Got, Refused, Put, Made, Looked, KeepsTurn, TurnAllows}
use Rattle.mta_transfer_laws.specs.Sessions.{turn_after, turn_put}
use Rattle.mta_transfer_laws.specs.Sessions.{StepsStand, RefusesLast, EndsSo}
use Rattle.mta_session_list_laws.specs.Calls.{Call, turns_of, step_told, look_told, got_as, come_of, list_of}
use Rattle.mta_session_list_laws.specs.Calls.{event_of, action_of}
use Rattle.mta_session_list_laws.specs.Laws.{Rises}
use Rattle.mta_session_list_laws.specs.Over.{abort_of, came_of, MayComeLast, Over, seen_of, tail_of, untold_of}
use Rattle.mta_session_list_laws.specs.Standing.{ComesTrue, AllComeTrue}
use Rattle.mta_session_list_laws.proofs.Found.{never}
use Rattle.mta_session_list_laws.proofs.Waiting.{goes_with, Ready, ready_next, reading_going}
use Rattle.mta_session_list_laws.proofs.Standing.{come_rises, told_rises, come_stands, told_stands}
use Rattle.mta_session_list_laws.proofs.Refusing.{over_says, last_turn, told_refuses, unit_does}
use Rattle.mta_session_list_laws.proofs.Turns.{Holds, Closes, abort_allowed}
use Rattle.mta_session_list_laws.proofs.TurnsUnits.{refused_allowed}
use Rattle.mta_session_list_laws.proofs.TurnsReplies.{PutAllowed, turned}
use Rattle.mta_session_list_laws.proofs.TurnsCalls.{come_turns, told_turns}

-- ---- positions

module _ (spells : List ℕ → Bool) (history : List Seen) (lane : ℕ) where
  abort_rises : (low : ℕ) (b : Bool) → Rises lane low (abort_of b)
  abort_rises low true = (tt, tt)
  abort_rises low false = tt

  came_rises : (low from seen : ℕ) (p : Phase) (aborts : Bool) (a : Action) (e : Event) → low ≤ from
      → ComesTrue spells history from seen p a e → Rises lane low (came_of a seen e ++ abort_of aborts)
  came_rises low from seen p aborts (action.Put u) e le is = (tt, abort_rises low aborts)
  came_rises low from seen p aborts action.Read (event.Unit u) le is = (tt, abort_rises low aborts)
  came_rises low from seen p aborts action.Read any6 le is = abort_rises low aborts
  came_rises low from seen p aborts (action.Ask q) (event.Reply z) le is =
      told_rises spells history lane low from seen q z (step_told q z) (look_told q z) (abort_of aborts) le is.1
      (λ to more. abort_rises to aborts)
  came_rises low from seen p aborts (action.Ask q) any6 le is = abort_rises low aborts
  came_rises low from seen p aborts (action.Finish z) e le is = abort_rises low aborts

  tail_rises : (low from seen : ℕ) (u : State) (aborts : Bool) (a : Action) (o : Option Event) → low ≤ from
      → MayComeLast spells history from a u seen o → Rises lane low (untold_of a seen o ++ abort_of aborts)
  tail_rises low from seen u aborts a None le is = abort_rises low aborts
  tail_rises low from seen u aborts a (Some e) le is = came_rises low from seen u.phase aborts a e le is.stands

  pub calls_rise : (cs : List Call) (low from : ℕ) (a : Action) (u : State) (y : Over) → low ≤ from
      → AllComeTrue spells history from a cs
      → MayComeLast spells history (seen_of from cs) (action_of a cs) u y.seen y.untold
      → Rises lane low (list_of a cs ++ tail_of (action_of a cs) y)
  calls_rise [] low from a u y le is last = tail_rises low from y.seen u y.aborts a y.untold le last
  calls_rise (c ∷ cs) low from a u y le is last =
      let tail : List SessionEvent = tail_of (action_of c.turn.action cs) y in
      subst (λ z. Rises lane low z) (sym (append_assoc (event_of a c) (list_of c.turn.action cs) tail))
      (come_rises spells history lane low from c.seen c.turn.before.phase a c.turn c.turn.event
      (list_of c.turn.action cs ++ tail) le is.0
      (λ to more. calls_rise cs to c.seen c.turn.action u y more is.1 last))

  -- ---- in the history

  abort_stands : (b : Bool) → StepsStand history (abort_of b)
  abort_stands true = tt
  abort_stands false = tt

  came_stands : (from seen : ℕ) (p : Phase) (aborts : Bool) (a : Action) (e : Event)
      → ComesTrue spells history from seen p a e → StepsStand history (came_of a seen e ++ abort_of aborts)
  came_stands from seen p aborts action.Read (event.Unit u) is = abort_stands aborts
  came_stands from seen p aborts action.Read any5 is = abort_stands aborts
  came_stands from seen p aborts (action.Ask q) (event.Reply z) is =
      told_stands spells history lane from seen q z (step_told q z) (look_told q z) (abort_of aborts) is.1
      (abort_stands aborts)
  came_stands from seen p aborts (action.Ask q) any5 is = abort_stands aborts
  came_stands from seen p aborts any4 e is = abort_stands aborts

  tail_stands : (from seen : ℕ) (u : State) (aborts : Bool) (a : Action) (o : Option Event)
      → MayComeLast spells history from a u seen o → StepsStand history (untold_of a seen o ++ abort_of aborts)
  tail_stands from seen u aborts a None is = abort_stands aborts
  tail_stands from seen u aborts a (Some e) is = came_stands from seen u.phase aborts a e is.stands

  pub calls_stand : (cs : List Call) (from : ℕ) (a : Action) (u : State) (y : Over)
      → AllComeTrue spells history from a cs
      → MayComeLast spells history (seen_of from cs) (action_of a cs) u y.seen y.untold
      → StepsStand history (list_of a cs ++ tail_of (action_of a cs) y)
  calls_stand [] from a u y is last = tail_stands from y.seen u y.aborts a y.untold last
  calls_stand (c ∷ cs) from a u y is last =
      let tail : List SessionEvent = tail_of (action_of c.turn.action cs) y in
      subst (λ z. StepsStand history z) (sym (append_assoc (event_of a c) (list_of c.turn.action cs) tail))
      (come_stands spells history lane from c.seen c.turn.before.phase a c.turn c.turn.event
      (list_of c.turn.action cs ++ tail) is.0 (calls_stand cs c.seen c.turn.action u y is.1 last))

-- ---- the turn

closes_abort : (z : Side) (v : x.Turn) → Closes z v → TurnAllows v (Put (unit.Abort 0))
closes_abort (side.Initiator p) v k = subst (λ w. TurnAllows w (Put (unit.Abort 0))) (sym k) tt
closes_abort (side.Responder own) v k = subst (λ w. TurnAllows w (Put (unit.Abort 0))) (sym k) tt

abort_at : (v w : x.Turn) → v ≡ w → TurnAllows w (Put (unit.Abort 0)) → TurnAllows v (Put (unit.Abort 0))
abort_at v w e k = subst (λ z. TurnAllows z (Put (unit.Abort 0))) (sym e) k

-- an Abort may be put wherever the session has not turned to its end
holds_abort : (p : Phase) (t : State) (v : x.Turn) → has_turned p ≡ false → Holds p t v
    → TurnAllows v (Put (unit.Abort 0))
holds_abort phase.Begin t v i k = abort_at v x.Before_accept k.0 tt
holds_abort phase.AsksValues t v i k = abort_at v x.Before_accept k tt
holds_abort phase.AsksRecovery t v i k = abort_at v x.Before_accept k tt
holds_abort (phase.AsksReceiving st) t v i k = abort_at v x.Before_accept k tt
holds_abort (phase.AsksResumed st) t v i k = abort_at v x.Before_accept k tt
holds_abort phase.PutsOpen t v i k = abort_at v x.Before_accept k tt
holds_abort phase.ReadsAnswer t v i k = abort_at v x.Before_accept k tt
holds_abort phase.AsksAgree t v i k = abort_at v x.Own k tt
holds_abort phase.PutsAccept t v i k = abort_at v x.Theirs k tt
holds_abort phase.AsksDue t v i k = abort_at v x.Theirs k tt
holds_abort phase.PutsClose t v i k = abort_at v x.Own_closing k.0 tt
holds_abort phase.ReadsCloseAck t v i k = abort_at v x.Own_closing k.0 tt
holds_abort phase.AsksClose t v i k = closes_abort t.side v k
holds_abort phase.AsksDenied t v i k = absurd (never (sym i))
holds_abort (phase.AsksLast y) t v i k = absurd (never (sym i))
holds_abort (phase.PutsLast y) t v i k = absurd (never (sym i))
holds_abort (phase.Ended y) t v i k = absurd (never (sym i))
holds_abort phase.Puts t v i k = abort_allowed t.ours t.please v 0 k
holds_abort phase.Reads t v i k = abort_allowed t.ours t.please v 0 k
holds_abort phase.AsksBatch t v i k = abort_allowed t.ours t.please v 0 k
holds_abort phase.AsksStart t v i k = abort_allowed t.ours t.please v 0 k
holds_abort phase.AsksStillIdle t v i k = abort_allowed t.ours t.please v 0 k
holds_abort (phase.AsksStep step) t v i k = abort_allowed t.ours t.please v 0 k
holds_abort phase.AsksState t v i k = abort_allowed t.ours t.please v 0 k
holds_abort (phase.AsksSecure j n) t v i k = abort_allowed t.ours t.please v 0 k
holds_abort (phase.AsksComplete j n) t v i k = abort_allowed t.ours t.please v 0 k
holds_abort (phase.AsksDrop j found) t v i k = abort_allowed t.ours t.please v 0 k
holds_abort p t v i k = absurd k

abort_turns : (v : x.Turn) (b : Bool) → (b ≡ true → TurnAllows v (Put (unit.Abort 0))) → KeepsTurn v (abort_of b)
abort_turns v true k = (k refl, tt)
abort_turns v false k = tt

-- where it may be put behind a unit, it may take its place
over_put : (u : AnyUnit) → turn_put x.Over u ≡ x.Over
over_put (unit.Abort reason) = refl
over_put u = refl

abort_before : (a : Action) (v : x.Turn) → TurnAllows (turned a v) (Put (unit.Abort 0))
    → TurnAllows v (Put (unit.Abort 0))
abort_before (action.Put u) x.Over k = subst (λ z. TurnAllows z (Put (unit.Abort 0))) (over_put u) k
abort_before a x.Over k = k
abort_before a any1 k = tt

came_turns : (a : Action) (y : Over) (e : Event) (v : x.Turn) → PutAllowed a v
    → (y.aborts ≡ true → TurnAllows (turned a v) (Put (unit.Abort 0)))
    → KeepsTurn v (came_of a y.seen e ++ abort_of y.aborts)
came_turns (action.Put u) y e v allowed k = (allowed, abort_turns (turned (action.Put u) v) y.aborts k)
came_turns action.Read y (event.Unit u) v allowed k = (refused_allowed v u, abort_turns v y.aborts k)
came_turns action.Read y any2 v allowed k = abort_turns v y.aborts k
came_turns (action.Ask q) y (event.Reply z) v allowed k =
    told_turns v y.seen (step_told q z) (look_told q z) (abort_of y.aborts) (abort_turns v y.aborts k)
came_turns (action.Ask q) y any2 v allowed k = abort_turns v y.aborts k
came_turns (action.Finish z) y e v allowed k = abort_turns v y.aborts k

tail_turns : (a : Action) (y : Over) (o : Option Event) (v : x.Turn) → PutAllowed a v
    → (y.aborts ≡ true → TurnAllows (turned a v) (Put (unit.Abort 0)))
    → KeepsTurn v (untold_of a y.seen o ++ abort_of y.aborts)
tail_turns a y None v allowed k = abort_turns v y.aborts (λ e. abort_before a v (k e))
tail_turns a y (Some e) v allowed k = came_turns a y e v allowed k

pub calls_turn : (cs : List Call) (a : Action) (t u : State) (v : x.Turn) (y : Over) → Ready a t → PutAllowed a v
    → Holds t.phase t (turned a v) → AreCalls t (turns_of cs) u → (y.aborts ≡ true → has_turned u.phase ≡ false)
    → KeepsTurn v (list_of a cs ++ tail_of (action_of a cs) y)
calls_turn [] a t u v y k p h run i =
    tail_turns a y y.untold v p
    (λ w. holds_abort t.phase t (turned a v) (subst (λ z. has_turned z.phase ≡ false) run (i w)) h)
calls_turn (c ∷ cs) a t u v y k p h run i =
    let tail : List SessionEvent = tail_of (action_of c.turn.action cs) y in
    let here : Ready a c.turn.before = subst (Ready a) (sym run.0) k in
    let holds : Holds c.turn.before.phase c.turn.before (turned a v) = subst (λ z. Holds z.phase z (turned a v))
    (sym run.0) h in
    subst (λ z. KeepsTurn v z) (sym (append_assoc (event_of a c) (list_of c.turn.action cs) tail))
    (come_turns a c.turn c.seen c.turn.event v (list_of c.turn.action cs ++ tail)
    (record { is = run.1; waits = here.waits; allowed = p; holds = holds }) refl
    (λ z d. calls_turn cs c.turn.action c.turn.after u z y (ready_next c.turn run.1 here.due) d.allowed d.holds run.2
    i))

-- ---- refusals

over_turned : (cs : List Call) (t u : State) (y : SessionEnd) → t.phase ≡ phase.Ended y → AreCalls t (turns_of cs) u
    → has_turned u.phase ≡ true
over_turned [] t u y q run = ap (λ (z : State). has_turned z.phase) run ∙ ap has_turned q
over_turned (c ∷ cs) t u y q run =
    let here : c.turn.before.phase ≡ phase.Ended y = ap {A = State} (λ z. z.phase) run.0 ∙ q in
    let says = over_says y c.turn here run.1 in
    over_turned cs c.turn.after u y (ap {A = State} (λ z. z.phase) says.1 ∙ here) run.2

last_turned : (cs : List Call) (t u : State) (y : SessionEnd) → t.phase ≡ phase.PutsLast y → AreCalls t (turns_of cs) u
    → has_turned u.phase ≡ true
last_turned [] t u y q run = ap (λ (z : State). has_turned z.phase) run ∙ ap has_turned q
last_turned (c ∷ cs) t u y q run =
    let here : c.turn.before.phase ≡ phase.PutsLast y = ap {A = State} (λ z. z.phase) run.0 ∙ q in
    let last = last_turn y c.turn here run.1 in
    over_turned cs c.turn.after u last.0 last.2 run.2

-- an end that has turned puts no Abort
none_aborts : (b : Bool) (u : State) → (b ≡ true → has_turned u.phase ≡ false) → has_turned u.phase ≡ true → b ≡ false
none_aborts true u i k = absurd (never (sym (i refl) ∙ k))
none_aborts false u i k = refl

finish_untold : (e : SessionEnd) (seen : ℕ) (o : Option Event) → untold_of (action.Finish e) seen o ≡ []
finish_untold e seen None = refl
finish_untold e seen (Some came) = refl

over_tail : (cs : List Call) (t u : State) (e : SessionEnd) (a : Action) (y : Over) → a ≡ action.Finish e
    → t.phase ≡ phase.Ended e → AreCalls t (turns_of cs) u → (y.aborts ≡ true → has_turned u.phase ≡ false)
    → list_of a cs ++ tail_of (action_of a cs) y ≡ []
over_tail [] t u e a y f q run i =
    ap {A = Action} (λ b. tail_of b y) f
    ∙ ap (λ (zs : List SessionEvent). zs ++ abort_of y.aborts) (finish_untold e y.seen y.untold)
    ∙ ap abort_of (none_aborts y.aborts u i (over_turned [] t u e q run))
over_tail (c ∷ cs) t u e a y f q run i =
    let here : c.turn.before.phase ≡ phase.Ended e = ap {A = State} (λ z. z.phase) run.0 ∙ q in
    let says = over_says e c.turn here run.1 in
    let ended : c.turn.after.phase ≡ phase.Ended e = ap {A = State} (λ z. z.phase) says.1 ∙ here in
    let rest = over_tail cs c.turn.after u e c.turn.action y says.0 ended run.2 i in
    ap {A = Action} (λ b. (event_of b c ++ list_of c.turn.action cs) ++ tail_of (action_of c.turn.action cs) y) f ∙ rest

last_ends : (cs : List Call) (t u : State) (e : SessionEnd) (reason : ℕ) (y : Over) → t.phase ≡ phase.PutsLast e
    → AreCalls t (turns_of cs) u → (y.aborts ≡ true → has_turned u.phase ≡ false)
    → EndsSo (list_of (action.Put (unit.Abort reason)) cs ++ tail_of (action_of (action.Put (unit.Abort reason)) cs) y)
last_ends [] t u e reason y q run i =
    last_alone reason y.untold y.aborts (none_aborts y.aborts u i (last_turned [] t u e q run))
  where
    last_alone : (reason : ℕ) (o : Option Event) (b : Bool) → b ≡ false
        → EndsSo (untold_of (action.Put (unit.Abort reason)) y.seen o ++ abort_of b)
    last_alone reason o true none = absurd (never (sym none))
    last_alone reason None false none = tt
    last_alone reason (Some came) false none = tt
last_ends (c ∷ cs) t u e reason y q run i =
    let here : c.turn.before.phase ≡ phase.PutsLast e = ap {A = State} (λ z. z.phase) run.0 ∙ q in
    let last = last_turn e c.turn here run.1 in
    let rest = over_tail cs c.turn.after u last.0 c.turn.action y last.1 last.2 run.2 i in
    subst (λ z. EndsSo (Put (unit.Abort reason) ∷ z)) (sym rest) tt

abbrev Behind_calls : Action → List Call → Over → List SessionEvent
Behind_calls a cs y = list_of a cs ++ tail_of (action_of a cs) y

got_refuses : (w : Wanted) (u : AnyUnit) (t : State) (a : Action) (new v : State) (cs : List Call) (y : Over)
    → Does t w a new → AreCalls new (turns_of cs) v → (y.aborts ≡ true → has_turned v.phase ≡ false)
    → RefusesLast (Behind_calls a cs y) → RefusesLast (got_as w u ∷ Behind_calls a cs y)
got_refuses (Aborts reason) u t a new v cs y d run i k =
    subst (λ b. EndsSo (Behind_calls b cs y)) (sym d.0)
    (last_ends cs new v (end.Aborted reason) reason y (ap {A = State} (λ z. z.phase) d.1) run i)
got_refuses any0 u t a new v cs y d run i k = k

come_refuses : (a : Action) (c : Call) (e : Event) (cs : List Call) (v : State) (y : Over)
    → c.turn.event ≡ e → IsTurn c.turn → goes_with a c.turn.before.phase ≡ true → AreCalls c.turn.after (turns_of cs) v
    → (y.aborts ≡ true → has_turned v.phase ≡ false) → RefusesLast (Behind_calls c.turn.action cs y)
    → RefusesLast (come_of a c.turn c.seen e ++ Behind_calls c.turn.action cs y)
come_refuses action.Read c (event.Unit u) cs v y q is r run i k =
    got_refuses (called_for c.turn.before.phase c.turn.before u) u (counted c.turn.before (event.Unit u)) c.turn.action
    c.turn.after v cs y (unit_does c.turn u is q (reading_going c.turn.before.phase r)) run i k
come_refuses action.Read c any2 cs v y q is r run i k = k
come_refuses (action.Ask a) c (event.Reply z) cs v y q is r run i k =
    told_refuses c.seen (step_told a z) (look_told a z) (Behind_calls c.turn.action cs y) k
come_refuses (action.Ask a) c any2 cs v y q is r run i k = k
come_refuses any0 c e cs v y q is r run i k = k

abort_refuses : (b : Bool) → RefusesLast (abort_of b)
abort_refuses true = tt
abort_refuses false = tt

abort_ends : (b : Bool) → EndsSo (abort_of b)
abort_ends true = tt
abort_ends false = tt

came_refuses : (a : Action) (seen : ℕ) (aborts : Bool) (e : Event) → RefusesLast (came_of a seen e ++ abort_of aborts)
came_refuses action.Read seen aborts (event.Unit u) = abort_ends aborts
came_refuses action.Read seen aborts any3 = abort_refuses aborts
came_refuses (action.Ask q) seen aborts (event.Reply z) =
    told_refuses seen (step_told q z) (look_told q z) (abort_of aborts) (abort_refuses aborts)
came_refuses (action.Ask q) seen aborts any3 = abort_refuses aborts
came_refuses any0 seen aborts e = abort_refuses aborts

tail_refuses : (a : Action) (seen : ℕ) (aborts : Bool) (o : Option Event)
    → RefusesLast (untold_of a seen o ++ abort_of aborts)
tail_refuses a seen aborts None = abort_refuses aborts
tail_refuses a seen aborts (Some e) = came_refuses a seen aborts e

pub calls_refuse : (cs : List Call) (a : Action) (t u : State) (y : Over) → Ready a t → AreCalls t (turns_of cs) u
    → (y.aborts ≡ true → has_turned u.phase ≡ false) → RefusesLast (list_of a cs ++ tail_of (action_of a cs) y)
calls_refuse [] a t u y k run i = tail_refuses a y.seen y.aborts y.untold
calls_refuse (c ∷ cs) a t u y k run i =
    let tail : List SessionEvent = tail_of (action_of c.turn.action cs) y in
    let here : Ready a c.turn.before = subst (Ready a) (sym run.0) k in
    let next = ready_next c.turn run.1 here.due in
    subst (λ z. RefusesLast z) (sym (append_assoc (event_of a c) (list_of c.turn.action cs) tail))
    (come_refuses a c c.turn.event cs u y refl run.1 here.waits run.2 i
    (calls_refuse cs c.turn.action c.turn.after u y next run.2 i))
