-- A session that has a lane keeps it, in its generation, and does not go back to the opening.
use Rattle.std.proofs.Common.{◌≡◌, ℕ, ◌-◌, Bool, true, false, cond, refl, ap, subst, ◌∙◌, None}
use Rattle.mta_session.specs.Fits.{AnswersAt}
use Rattle.mta_session.specs.Follows.{counted, Does}
use Rattle.mta_session.specs.State.{in_phase, State}
use Rattle.mta_session.specs.Wanted.{Asks, begins, opens}
use Rattle.mta_session.specs.declared.ask.Ask.TheVariants as ask
use Rattle.mta_session.specs.declared.event.Action.{Action}
use Rattle.mta_session.specs.declared.event.Action.TheVariants as action
use Rattle.mta_session.specs.declared.event.Event.{Event}
use Rattle.mta_session.specs.declared.event.Event.TheVariants as event
use Rattle.mta_session.specs.declared.event.Side.{Side}
use Rattle.mta_session.specs.declared.event.Side.TheVariants as side
use Rattle.mta_session.specs.declared.phase.Phase.{Phase}
use Rattle.mta_session.specs.declared.phase.Phase.TheVariants as phase
use Rattle.mta_session_laws.specs.Runs.{IsTurn, Turn}
use Rattle.mta_session_laws.proofs.Opening.{wanted_in}
use Rattle.mta_session_laws.proofs.Whole.{is_ended}
use Rattle.mta_session_laws.specs.Order.{awaits}
use Rattle.mta_session_laws.proofs.OrderedCalls.{call_after}
use Rattle.mta_transfer_laws.specs.Sessions as x
use Rattle.mta_lane_match_laws.specs.Calls.{has_lane}
use Rattle.mta_lane_match_laws.proofs.Lanes.{lanes_stay}
use Rattle.mta_session_list_laws.specs.Lists.{step_by}
use Rattle.mta_session_list_laws.proofs.Found.{never}
use Rattle.mta_session_list_laws.proofs.Turns.{Holds}
use Rattle.mta_session_list_laws.proofs.TurnsCalls.{bad_done, done_by, Here, less_holds, over_done, quiet_done}
use Rattle.mta_session_list_laws.proofs.TurnsCalls.{reads_here}
use Rattle.mta_session_list_laws.proofs.TurnsReplies.{Done, PutAllowed, turned}
use Rattle.mta_session_list_laws.proofs.TurnsUnits.{reads_list, unit_goes}
use Rattle.mta_session_list_laws.proofs.Waiting.{does_at, none_asked, none_put, Ready, ready_next}
use Rattle.mta_worker_list_laws.proofs.Unlisted.{has_none, unlisted_next}
use Rattle.mta_worker_list_laws.proofs.Waits.{Asked, asked_next}

-- ---- the turn, which an opening has not yet

next_turn : (a : Action) (t : Turn) (e : Event) (v : x.Turn) → Here a t v → t.event ≡ e
    → (z : x.Turn) × Done t.action t.after z
next_turn (action.Put u) t event.Go v k q = (_, quiet_done (action.Put u) t event.Go v k refl q refl)
next_turn (action.Put u) t event.Over v k q = (_, quiet_done (action.Put u) t event.Over v k refl q refl)
next_turn (action.Put u) t (event.Reply y) v k q = (_, quiet_done (action.Put u) t (event.Reply y) v k refl q refl)
next_turn (action.Put u) t (event.Unit w) v k q =
    absurd (none_put t.before.phase t.before (event.Unit w) k.waits
    (subst (λ z. AnswersAt t.before.phase t.before z) q k.is.answers) refl)
next_turn (action.Put u) t event.BadUnit v k q =
    absurd (none_put t.before.phase t.before event.BadUnit k.waits
    (subst (λ z. AnswersAt t.before.phase t.before z) q k.is.answers) refl)
next_turn action.Read t (event.Unit u) v k q =
    let e : Event = event.Unit u in
    let answers : AnswersAt t.before.phase t.before e = subst (λ z. AnswersAt t.before.phase t.before z) q
    k.is.answers in
    let reads : reads_list t.before.phase ≡ true = reads_here t.before.phase t.before e v k.waits answers refl k.holds
    in
    let goes = unit_goes t.before.phase (counted t.before e) v u reads
    (less_holds t.before.phase t.before (t.before.left - 1) v k.holds) in
    (_, done_by action.Read t e v _ k refl q goes.1)
next_turn action.Read t event.BadUnit v k q = (v, bad_done t v k q)
next_turn action.Read t event.Go v k q = (_, quiet_done action.Read t event.Go v k refl q refl)
next_turn action.Read t event.Over v k q = (_, quiet_done action.Read t event.Over v k refl q refl)
next_turn action.Read t (event.Reply y) v k q = (_, quiet_done action.Read t (event.Reply y) v k refl q refl)
next_turn (action.Ask a) t (event.Reply y) v k q = (_, quiet_done (action.Ask a) t (event.Reply y) v k refl q refl)
next_turn (action.Ask a) t event.Go v k q = (_, quiet_done (action.Ask a) t event.Go v k refl q refl)
next_turn (action.Ask a) t event.Over v k q = (_, quiet_done (action.Ask a) t event.Over v k refl q refl)
next_turn (action.Ask a) t (event.Unit u) v k q =
    absurd (none_asked t.before.phase t.before (event.Unit u) k.waits
    (subst (λ z. AnswersAt t.before.phase t.before z) q k.is.answers) refl)
next_turn (action.Ask a) t event.BadUnit v k q =
    absurd (none_asked t.before.phase t.before event.BadUnit k.waits
    (subst (λ z. AnswersAt t.before.phase t.before z) q k.is.answers) refl)
next_turn (action.Finish y) t e v k q = (v, over_done y t v k)

-- ---- the lane

-- where it has a lane it is this one, in this generation
abbrev pub IsOn : (lane generation : ℕ) → State → Type 0
IsOn n g t = has_lane t.phase ≡ true → (t.lane ≡ n) × (t.generation ≡ g)

-- a session whose list has begun
pub record Listed (lane generation : ℕ) (a : Action) (t : State) : Type 0 where
  pub ready : Ready a t
  pub asked : Asked a t
  pub turn : x.Turn
  pub allowed : PutAllowed a turn
  pub holds : Holds t.phase t (turned a turn)
  pub on : t.phase ≡ phase.Begin → (t.lane ≡ lane) × (t.generation ≡ generation)
  pub is_on : IsOn lane generation t

-- where it stands then
data Where (p : Phase) : Type 0 where
  begins_there : p ≡ phase.Begin → Where p
  has_one : has_lane p ≡ true → Where p
  ends_there : has_none p ≡ true → ((e : Event) (new : State) → step_by p e new ≡ None) → Where p

where_is : (p : Phase) (t : State) (v : x.Turn) → Holds p t v → Where p
where_is phase.Begin t v h = begins_there refl
where_is (phase.PutsLast e) t v h = ends_there refl (λ e new. refl)
where_is (phase.Ended e) t v h = ends_there refl (λ e new. refl)
where_is phase.ReadsOpen t v h = absurd h
where_is phase.AsksPeer t v h = absurd h
where_is phase.AsksStands t v h = absurd h
where_is (phase.AsksNewLane again) t v h = absurd h
where_is phase.AsksSpare t v h = absurd h
where_is phase.AsksRoom t v h = absurd h
where_is phase.AsksOldLane t v h = absurd h
where_is phase.AsksBind t v h = absurd h
where_is p t v h = has_one refl

pub not_both : (p : Phase) → has_none p ≡ true → has_lane p ≡ true → ⊥
not_both phase.ReadsOpen i j = never j
not_both phase.AsksPeer i j = never j
not_both phase.AsksStands i j = never j
not_both (phase.AsksNewLane again) i j = never j
not_both phase.AsksSpare i j = never j
not_both phase.AsksRoom i j = never j
not_both phase.AsksOldLane i j = never j
not_both phase.AsksBind i j = never j
not_both (phase.PutsLast e) i j = never j
not_both (phase.Ended e) i j = never j
not_both p i j = never i

-- ---- one call

begins_keeps : (s : Side) (t : State) (a : Action) (new : State) → Does t (begins s t) a new
    → (new.lane ≡ t.lane) × (new.generation ≡ t.generation)
begins_keeps (side.Initiator p) t a new d = by_plan p.recovering d
  where
    by_plan : (b : Bool) → Does t (cond b (Asks (ask.Values t.lane) (in_phase t phase.AsksValues)) (opens p t)) a new
        → (new.lane ≡ t.lane) × (new.generation ≡ t.generation)
    by_plan true d = (ap (λ (z : State). z.lane) d.1, ap (λ (z : State). z.generation) d.1)
    by_plan false d = (ap (λ (z : State). z.lane) d.1, ap (λ (z : State). z.generation) d.1)
begins_keeps (side.Responder own) t a new d =
    (ap (λ (z : State). z.lane) d.1, ap (λ (z : State). z.generation) d.1)

first_keeps : (t : State) (e : Event) (a : Action) (new : State) → AnswersAt phase.Begin t e
    → Does (counted t e) (wanted_in phase.Begin (counted t e) e) a new
    → (new.lane ≡ t.lane) × (new.generation ≡ t.generation)
first_keeps t event.Go a new i d = begins_keeps t.side t a new d
first_keeps t any1 a new i d = absurd (never i)

pub not_first : (a : Action) → awaits a phase.Begin ≡ true → ⊥
not_first (action.Put u) i = never i
not_first any0 i = never i

module _ (lane generation : ℕ) where
  on_next : (t : Turn) → IsTurn t → Where t.before.phase
      → (t.before.phase ≡ phase.Begin → (t.before.lane ≡ lane) × (t.before.generation ≡ generation))
      → IsOn lane generation t.before → IsOn lane generation t.after
  on_next t is (begins_there e) on has j =
      let does = does_at t t.event refl is (ap is_ended e) in
      let keeps = first_keeps t.before t.event t.action t.after
      (subst (λ (p : Phase). AnswersAt p t.before t.event) e is.answers)
      (subst (λ (p : Phase). Does (counted t.before t.event) (wanted_in p (counted t.before t.event) t.event) t.action
      t.after) e does) in
      (keeps.0 ∙ (on e).0, keeps.1 ∙ (on e).1)
  on_next t is (has_one i) on has j =
      let stays = lanes_stay t.before t.event t.action t.after i is.follows in
      (stays.0 ∙ (has i).0, stays.1 ∙ (has i).1)
  on_next t is (ends_there i none) on has j =
      absurd (not_both t.after.phase (unlisted_next t is i (none t.event t.after)) j)

  pub listed_next : (t : Turn) (a : Action) → IsTurn t → Listed lane generation a t.before
      → Listed lane generation t.action t.after
  listed_next t a is l =
      let next = next_turn a t t.event l.turn
      (record { is = is; waits = l.ready.waits; allowed = l.allowed; holds = l.holds }) refl in
      let awaited = (call_after t.before t.event t.action t.after is.fits l.ready.due is.follows).awaited in
      record {
        ready = ready_next t is l.ready.due;
        asked = asked_next t.action t.before t.event t.after is.follows;
        turn = next.0;
        allowed = next.1.allowed;
        holds = next.1.holds;
        on = λ e. absurd (not_first t.action (subst (λ (p : Phase). awaits t.action p ≡ true) e awaited));
        is_on = on_next t is (where_is t.before.phase t.before (turned a l.turn) l.holds) l.on l.is_on;
      }
