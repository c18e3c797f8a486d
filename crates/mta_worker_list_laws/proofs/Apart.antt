-- A session without a lane puts Reject or Abort alone, and so does one before it has its lane.
use Rattle.std.proofs.Common.{◌≡◌, ℕ, Bool, true, false, Option, None, Some, List, [], ◌∷◌, ◌++◌, append_assoc}
use Rattle.std.proofs.Common.{inl, inr, refl, sym, ap, subst, ◌∙◌}
use Rattle.mta_units.specs.declared.unit.Unit.{Unit as AnyUnit}
use Rattle.mta_transfer_rules.specs.Lanes.{Seen}
use Rattle.mta_transfer_rules.specs.Sending.{SendEnd}
use Rattle.mta_session.specs.Fits.{Answers}
use Rattle.mta_session.specs.Follows.{counted, Does, Follows}
use Rattle.mta_session.specs.Session.{new_responder}
use Rattle.mta_session.specs.State.{is_initiator, State}
use Rattle.mta_session.specs.Wanted.{Wanted, Aborts, Rejects, Ends, Puts, Asks, Reads, Goes_on, Excepts, Never}
use Rattle.mta_session.specs.declared.event.Action.{Action}
use Rattle.mta_session.specs.declared.event.Action.TheVariants as action
use Rattle.mta_session.specs.declared.event.Event.{Event}
use Rattle.mta_session.specs.declared.event.Event.TheVariants as event
use Rattle.mta_session.specs.declared.phase.Phase.{Phase}
use Rattle.mta_session_laws.specs.Order.{awaits}
use Rattle.mta_session_laws.specs.Runs.{IsTurn, Turn}
use Rattle.mta_session_laws.specs.Turning.{called_for}
use Rattle.mta_session_laws.specs.Whole.{AreCalls}
use Rattle.mta_session_laws.proofs.Opening.{wanted_in}
use Rattle.mta_session_laws.proofs.OrderedCalls.{call_after}
use Rattle.mta_session_laws.proofs.Whole.{is_ended}
use Rattle.mta_transfer_laws.specs.Acknowledged.{HasPut}
use Rattle.mta_transfer_laws.specs.Sessions as x
use Rattle.mta_transfer_laws.specs.Sessions.{Look, Put, seen_after, send_all, sending_event, SessionEvent, SessionList}
use Rattle.mta_session_list_laws.specs.Abandons.{abandon_at, abandoned_upto, given_up, has_before, with_abandons}
use Rattle.mta_session_list_laws.specs.Calls.{action_of, Call, come_of, event_of, got_as, list_of, look_told, step_told}
use Rattle.mta_session_list_laws.specs.Calls.{StepOn, told_as, turns_of}
use Rattle.mta_session_list_laws.specs.Lists.{Initiates, IsListOf, Responds, step_by}
use Rattle.mta_session_list_laws.specs.Over.{abort_of, came_of, Over, untold_of}
use Rattle.mta_session_list_laws.proofs.Found.{never}
use Rattle.mta_session_list_laws.proofs.Ordering.{begins_done, is_some, IsSome}
use Rattle.mta_session_list_laws.proofs.TurnsReplies.{turned}
use Rattle.mta_session_list_laws.proofs.Waiting.{does_at, is_finish, over_says, Ready, ready_next}
use Rattle.mta_worker_list_laws.specs.Apart.{events_over, IsApart, PutsApart}
use Rattle.mta_worker_list_laws.specs.Begun.{Calls, GiveNone, IsNewAt, IsOver, Listens, over_as}
use Rattle.mta_worker_list_laws.specs.Leads.{Leads}
use Rattle.mta_worker_list_laws.proofs.Calm.{ended_over}
use Rattle.mta_worker_list_laws.proofs.Keeping.{Listed, listed_next, not_first}
use Rattle.mta_worker_list_laws.proofs.Once.{held_none}
use Rattle.mta_worker_list_laws.proofs.Sessions.{first_none}
use Rattle.mta_worker_list_laws.proofs.Unlisted.{has_none, Unlisted, unlisted_next, wanted_so}
use Rattle.mta_worker_list_laws.proofs.Waits.{asked_next}

abbrev IsApartAction : Action → Type 0
IsApartAction (action.Put u) = IsApart u
IsApartAction a = Unit {0}

-- ---- what one call wants

does_apart : (t : State) (w : Wanted) (a : Action) (new : State) → Unlisted w → Does t w a new → IsApartAction a
does_apart t (Aborts reason) a new i d = subst IsApartAction (sym d.0) tt
does_apart t (Rejects reason) a new i d = subst IsApartAction (sym d.0) tt
does_apart t (Ends e) a new i d = subst IsApartAction (sym d.0) tt
does_apart t (Asks q u) a new i d = subst IsApartAction (sym d.0) tt
does_apart t (Reads u) a new i d = subst IsApartAction (sym d.0) tt
does_apart t (Puts u v) a new i d = absurd i
does_apart t (Goes_on u) a new i d = absurd i
does_apart t (Excepts u found) a new i d = absurd i
does_apart t Never a new i d = absurd d

finish_apart : (a : Action) → is_finish a ≡ true → IsApartAction a
finish_apart (action.Put u) i = absurd (never i)
finish_apart any i = tt

next_apart : (t : Turn) → IsTurn t → has_none t.before.phase ≡ true → step_by t.before.phase t.event t.after ≡ None
    → IsApartAction t.action
next_apart t is i none = by_end (is_ended t.before.phase) refl
  where
    by_end : (b : Bool) → is_ended t.before.phase ≡ b → IsApartAction t.action
    by_end false e =
        does_apart (counted t.before t.event) (wanted_in t.before.phase (counted t.before t.event) t.event) t.action
        t.after (wanted_so t.before.phase (counted t.before t.event) t.event t.after i none)
        (does_at t t.event refl is e)
    by_end true e =
        finish_apart t.action (over_says t.before.phase t (ended_over t.before.phase e) is.follows).0

first_apart : (own : List ℕ) (units : ℕ) (e : Event) (a : Action) (new : State)
    → Answers (new_responder own units) e → Follows (new_responder own units) e a new → IsApartAction a
first_apart own units event.Go a new i f = subst IsApartAction (sym f.0) tt
first_apart own units any2 a new i f = absurd (never i)

-- ---- its events

told_apart : (seen : ℕ) (o : Option StepOn) (look : Look) (rest : List SessionEvent) → PutsApart rest
    → PutsApart (told_as seen o look ∷ rest)
told_apart seen (Some step) look rest r = r
told_apart seen None look rest r = r

got_apart : (w : Wanted) (u : AnyUnit) (rest : List SessionEvent) → PutsApart rest → PutsApart (got_as w u ∷ rest)
got_apart (Aborts reason) u rest r = r
got_apart any u rest r = r

come_apart : (a : Action) (t : Turn) (seen : ℕ) (e : Event) (rest : List SessionEvent) → IsApartAction a
    → PutsApart rest → PutsApart (come_of a t seen e ++ rest)
come_apart (action.Put u) t seen e rest i r = (i, r)
come_apart action.Read t seen (event.Unit u) rest i r = got_apart (called_for t.before.phase t.before u) u rest r
come_apart action.Read t seen any3 rest i r = r
come_apart (action.Ask q) t seen (event.Reply y) rest i r = told_apart seen (step_told q y) (look_told q y) rest r
come_apart (action.Ask q) t seen any3 rest i r = r
come_apart (action.Finish y) t seen e rest i r = r

-- ---- behind the last call

abort_apart : (b : Bool) → PutsApart (abort_of b)
abort_apart true = (tt, tt)
abort_apart false = tt

came_apart : (b : Action) (seen : ℕ) (e : Event) (aborts : Bool) → IsApartAction b
    → PutsApart (came_of b seen e ++ abort_of aborts)
came_apart (action.Put u) seen e aborts i = (i, abort_apart aborts)
came_apart action.Read seen (event.Unit u) aborts i = abort_apart aborts
came_apart action.Read seen any2 aborts i = abort_apart aborts
came_apart (action.Ask q) seen (event.Reply y) aborts i =
    told_apart seen (step_told q y) (look_told q y) (abort_of aborts) (abort_apart aborts)
came_apart (action.Ask q) seen any2 aborts i = abort_apart aborts
came_apart (action.Finish y) seen e aborts i = abort_apart aborts

untold_apart : (b : Action) (seen : ℕ) (o : Option Event) (aborts : Bool) → IsApartAction b
    → PutsApart (untold_of b seen o ++ abort_of aborts)
untold_apart b seen None aborts i = abort_apart aborts
untold_apart b seen (Some e) aborts i = came_apart b seen e aborts i

tail_apart : (spells : List ℕ → Bool) (history : List Seen) (from upto : ℕ) (u : State) (b : Action)
    (o : IsOver spells history from upto u b) → IsApartAction b → PutsApart (events_over o)
tail_apart spells history from upto u b o i =
    let x : Over = over_as o in untold_apart b x.seen x.untold x.aborts i

-- ---- calls of which none gives it a lane

calls_apart : (cs : List Call) (a : Action) (t u : State) (rest : List SessionEvent) → IsApartAction a
    → has_none t.phase ≡ true → AreCalls t (turns_of cs) u → GiveNone cs
    → (IsApartAction (action_of a cs) → PutsApart rest) → PutsApart (list_of a cs ++ rest)
calls_apart [] a t u rest i h run none base = base i
calls_apart (d ∷ ds) a t u rest i h run none base =
    let there : has_none d.turn.before.phase ≡ true = ap (λ (z : State). has_none z.phase) run.0 ∙ h in
    subst PutsApart (sym (append_assoc (event_of a d) (list_of d.turn.action ds) rest))
    (come_apart a d.turn d.seen d.turn.event (list_of d.turn.action ds ++ rest) i
    (calls_apart ds d.turn.action d.turn.after u rest (next_apart d.turn run.1 there none.0)
    (unlisted_next d.turn run.1 there none.0) run.2 none.1 base))

responder_apart : (own : List ℕ) (units : ℕ) (cs : List Call) (u : State) (rest : List SessionEvent)
    → AreCalls (new_responder own units) (turns_of cs) u → GiveNone cs
    → (IsApartAction (action_of action.Read cs) → PutsApart rest) → PutsApart (list_of action.Read cs ++ rest)
responder_apart own units [] u rest run none base = base tt
responder_apart own units (d ∷ ds) u rest run none base =
    let answers = subst (λ (z : State). Answers z d.turn.event) run.0 run.1.answers in
    let follows = subst (λ (z : State). Follows z d.turn.event d.turn.action d.turn.after) run.0 run.1.follows in
    subst PutsApart (sym (append_assoc (event_of action.Read d) (list_of d.turn.action ds) rest))
    (come_apart action.Read d.turn d.seen d.turn.event (list_of d.turn.action ds ++ rest) tt
    (calls_apart ds d.turn.action d.turn.after u rest
    (first_apart own units d.turn.event d.turn.action d.turn.after answers follows)
    (first_none own units d.turn.event d.turn.action d.turn.after answers follows) run.2 none.1 base))

initiates : {A : Type 0} → true ≡ false → A
initiates e = absurd cc

pub session_apart : (spells : List ℕ → Bool) (history : List Seen) {from mid upto : ℕ} {t u : State} {b : Action}
    (new : IsNewAt history from t) (calls : List Call) (over : IsOver spells history mid upto u b)
    → Leads spells history from t action.Read calls mid u b → is_initiator t.side ≡ false → GiveNone calls
    → PutsApart (list_of action.Read calls ++ events_over over)
session_apart spells history (Calls p units at from is has opens) calls over leads responds none = initiates responds
session_apart spells history {mid = mid} {upto = upto} {u = u} {b = b} (Listens own units from) calls over leads
    responds none =
    responder_apart own units calls u (events_over over) leads.calls_are none
    (λ i. tail_apart spells history mid upto u b over (subst IsApartAction leads.wanted i))

-- ---- before the call that gives it its lane

module _ (lane generation : ℕ) where
  -- behind one there is no other
  gives_once : (ds cs : List Call) (c : Call) (a : Action) (t u : State) → Listed lane generation a t
      → AreCalls t (turns_of (ds ++ c ∷ cs)) u
      → IsSome (step_by c.turn.before.phase c.turn.event c.turn.after) → ⊥
  gives_once [] cs c a t u l run some =
      let here : Listed lane generation a c.turn.before =
      subst (λ (z : State). Listed lane generation a z) (sym run.0) l in
      held_none c.turn.before.phase c.turn.before (turned a here.turn) c.turn.event c.turn.after here.holds some
  gives_once (d ∷ ds) cs c a t u l run some =
      gives_once ds cs c d.turn.action d.turn.after u
      (listed_next lane generation d.turn a run.1
      (subst (λ (z : State). Listed lane generation a z) (sym run.0) l)) run.2 some

listed_then : (t : Turn) (a : Action) → IsTurn t → Ready a t.before
    → IsSome (step_by t.before.phase t.event t.after) → Listed t.after.lane t.after.generation t.action t.after
listed_then t a is ready some =
    let done = begins_done t is some in
    let awaited = (call_after t.before t.event t.action t.after is.fits ready.due is.follows).awaited in
    record {
      ready = ready_next t is ready.due;
      asked = asked_next t.action t.before t.event t.after is.follows;
      turn = x.Before_accept;
      allowed = done.allowed;
      holds = done.holds;
      on = λ e. absurd (not_first t.action (subst (λ (p : Phase). awaits t.action p ≡ true) e awaited));
      is_on = λ j. (refl, refl);
    }

before_apart : (before cs : List Call) (c : Call) (a : Action) (t u : State) → Ready a t → IsApartAction a
    → has_none t.phase ≡ true → AreCalls t (turns_of (before ++ c ∷ cs)) u
    → IsSome (step_by c.turn.before.phase c.turn.event c.turn.after) → PutsApart (list_of a before)
before_apart [] cs c a t u ready i h run some = tt
before_apart (d ∷ ds) cs c a t u ready i h run some =
    by_step
    (λ apart none.
    before_apart ds cs c d.turn.action d.turn.after u
    (ready_next d.turn run.1 (subst (λ (z : State). Ready a z) (sym run.0) ready).due) apart none run.2 some)
    (step_by d.turn.before.phase d.turn.event d.turn.after) refl
  where
    here : Ready a d.turn.before
    here = subst (λ (z : State). Ready a z) (sym run.0) ready

    there : has_none d.turn.before.phase ≡ true
    there = ap (λ (z : State). has_none z.phase) run.0 ∙ h

    by_step : (IsApartAction d.turn.action → has_none d.turn.after.phase ≡ true
        → PutsApart (list_of d.turn.action ds)) → (o : Option StepOn)
        → step_by d.turn.before.phase d.turn.event d.turn.after ≡ o → PutsApart (list_of a (d ∷ ds))
    by_step more None e =
        come_apart a d.turn d.seen d.turn.event (list_of d.turn.action ds) i
        (more (next_apart d.turn run.1 there e) (unlisted_next d.turn run.1 there e))
    by_step more (Some y) e =
        absurd (gives_once d.turn.after.lane d.turn.after.generation ds cs c d.turn.action d.turn.after u
        (listed_then d.turn a run.1 here (is_some (step_by d.turn.before.phase d.turn.event d.turn.after) y e)) run.2
        some)

opened_apart : (own : List ℕ) (units : ℕ) (before cs : List Call) (c : Call) (u : State)
    → AreCalls (new_responder own units) (turns_of (before ++ c ∷ cs)) u
    → IsSome (step_by c.turn.before.phase c.turn.event c.turn.after) → PutsApart (list_of action.Read before)
opened_apart own units [] cs c u run some = tt
opened_apart own units (d ∷ ds) cs c u run some =
    let answers = subst (λ (z : State). Answers z d.turn.event) run.0 run.1.answers in
    let follows = subst (λ (z : State). Follows z d.turn.event d.turn.action d.turn.after) run.0 run.1.follows in
    let new : Ready action.Read (new_responder own units) = record { due = refl; waits = refl } in
    let here : Ready action.Read d.turn.before = subst (λ (z : State). Ready action.Read z) (sym run.0) new in
    come_apart action.Read d.turn d.seen d.turn.event (list_of d.turn.action ds) tt
    (before_apart ds cs c d.turn.action d.turn.after u (ready_next d.turn run.1 here.due)
    (first_apart own units d.turn.event d.turn.action d.turn.after answers follows)
    (first_none own units d.turn.event d.turn.action d.turn.after answers follows) run.2 some)

pub opening_apart : (spells : List ℕ → Bool) (history : List Seen) (t u : State) (calls : List Call) (lane : ℕ)
    (l : SessionList) → IsListOf spells history t calls lane l → AreCalls t (turns_of calls) u → PutsApart l.opening
opening_apart spells history t u calls lane l (Initiates p units at cs is true_) run = tt
opening_apart spells history t u calls lane l (Responds own units at before cs c y by seen is true_) run =
    opened_apart own units before cs c u run
    (is_some (step_by c.turn.before.phase c.turn.event c.turn.after) y by)

-- ---- with the Abandons of other passes

module _ (history : List Seen) (lane : ℕ) (u : AnyUnit) where
  put_behind : (e : SendEnd) (o : Option ℕ) (zs : List SessionEvent) → HasPut u zs
      → HasPut u (abandon_at lane e o ++ zs)
  put_behind e None zs put = put
  put_behind e (Some p) zs put = inr put

  pub put_with : (ys : List SessionEvent) (from : ℕ) (e : SendEnd) → HasPut u ys
      → HasPut u (with_abandons history lane from e ys)
  put_with [] from e put = put
  put_with (y ∷ ys) from e put =
      let found = abandoned_upto history lane from e (has_before lane y) in
      let next = send_all (given_up e found) (sending_event lane y) in
      let rest = with_abandons history lane (seen_after lane from y) next ys in
      put_behind e found (y ∷ rest)
      (elim put [ inl is ↦ inl is | inr more ↦ inr (put_with ys (seen_after lane from y) next more) ])
