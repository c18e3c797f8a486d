-- Behind a unit that is not taken there is an Abort at most.
use Rattle.std.proofs.Common.{◌≡◌, ℕ, true, false, Option, Some, None, List, ◌∷◌, ap, subst}
use Rattle.mta_units.specs.declared.unit.Unit.{Unit as AnyUnit}
use Rattle.mta_session.specs.declared.event.Event.{Event}
use Rattle.mta_session.specs.declared.event.Event.TheVariants as event
use Rattle.mta_session.specs.declared.event.Action.{Action}
use Rattle.mta_session.specs.declared.event.Action.TheVariants as action
use Rattle.mta_session.specs.declared.event.SessionEnd.{SessionEnd}
use Rattle.mta_session.specs.declared.phase.Phase.TheVariants as phase
use Rattle.mta_session.specs.State.{State}
use Rattle.mta_session.specs.Wanted.{Ends}
use Rattle.mta_session.specs.Wanted.{cut_short, wanted_of_go, wanted_of_over}
use Rattle.mta_session.specs.Follows.{Does, FollowsAt, counted}
use Rattle.mta_session.specs.Fits.{AnswersAt, answers_put}
use Rattle.mta_session_laws.specs.Turning.{called_for}
use Rattle.mta_session_laws.specs.Runs.{Turn, IsTurn}
use Rattle.mta_session_laws.proofs.Whole.{is_ended, follows_does}
use Rattle.mta_transfer_laws.specs.Sessions.{SessionEvent, Look, RefusesLast}
use Rattle.mta_session_list_laws.specs.Calls.{StepOn, told_as}
use Rattle.mta_session_list_laws.proofs.Found.{never}

-- ---- at the end

pub over_says : (y : SessionEnd) (x : Turn) → x.before.phase ≡ phase.Ended y → IsTurn x
    → (x.action ≡ action.Finish y) × (x.after ≡ x.before)
over_says y x q is = subst (λ p. FollowsAt p x.before x.event x.action x.after) q is.follows

-- it finishes when its last unit was put
abbrev pub Finishes : State → Event → Action → State → Type 0
Finishes t e a new = (y : SessionEnd) × (a ≡ action.Finish y) × (new.phase ≡ phase.Ended y)

put_finishes : (y : SessionEnd) (t : State) (e : Event) (a : Action) (new : State) → answers_put e ≡ true
    → t.phase ≡ phase.PutsLast y → FollowsAt (phase.PutsLast y) t e a new → Finishes t e a new
put_finishes y t event.Go a new i q d =
    let does : Does t (Ends y) a new =
    subst (λ p. Does t (wanted_of_go p t) a new) q d in
    (y, does.0, ap {A = State} (λ z. z.phase) does.1)
put_finishes y t event.Over a new i q d =
    let does : Does t (Ends (cut_short y)) a new =
    subst (λ p. Does t (wanted_of_over p) a new) q d in
    (cut_short y, does.0, ap {A = State} (λ z. z.phase) does.1)
put_finishes y t any2 a new i q d = absurd (never i)

pub last_turn : (y : SessionEnd) (x : Turn) → x.before.phase ≡ phase.PutsLast y → IsTurn x
    → Finishes x.before x.event x.action x.after
last_turn y x q is =
    let answers : AnswersAt (phase.PutsLast y) x.before x.event =
    subst (λ p. AnswersAt p x.before x.event) q is.answers in
    let follows : FollowsAt (phase.PutsLast y) x.before x.event x.action x.after =
    subst (λ p. FollowsAt p x.before x.event x.action x.after) q is.follows in
    put_finishes y x.before x.event x.action x.after answers q follows

-- ---- a unit

pub told_refuses : (seen : ℕ) (o : Option StepOn)
    (look : Look) (rest : List SessionEvent) → RefusesLast rest
    → RefusesLast (told_as seen o look ∷ rest)
told_refuses seen (Some x) look rest k = k
told_refuses seen None look rest k = k

pub unit_does : (x : Turn) (u : AnyUnit) → IsTurn x → x.event ≡ event.Unit u → is_ended x.before.phase ≡ false
    → Does (counted x.before (event.Unit u)) (called_for x.before.phase x.before u) x.action x.after
unit_does x u is e i =
    follows_does x.before.phase x.before (event.Unit u) x.action x.after i
    (subst (λ z. FollowsAt x.before.phase x.before z x.action x.after) e is.follows)
