-- A session that is not over follows the table at each call.
use Rattle.std.proofs.Common.{◌≡◌, Bool, true, false, refl, sym}
use Rattle.mta_session.specs.declared.event.Action.{Action}
use Rattle.mta_session.specs.declared.event.Event.{Event}
use Rattle.mta_session.specs.declared.event.Event.TheVariants as event
use Rattle.mta_session.specs.declared.phase.Phase.{Phase}
use Rattle.mta_session.specs.declared.phase.Phase.TheVariants as phase
use Rattle.mta_session.specs.State.{State}
use Rattle.mta_session.specs.Wanted.{wanted}
use Rattle.mta_session.specs.Follows.{counted, Does, FollowsAt}
use Rattle.mta_session_laws.proofs.Events.{never}
use Rattle.mta_session_laws.proofs.Opening.{wanted_in}

abbrev pub is_ended : Phase → Bool
is_ended (phase.Ended y) = true
is_ended p = false

pub in_phase_wanted : (t : State) (e : Event) → wanted (counted t e) e ≡ wanted_in t.phase (counted t e) e
in_phase_wanted t event.Go = refl
in_phase_wanted t any1 = refl

pub follows_does : (p : Phase) (t : State) (e : Event) (a : Action) (new : State) → is_ended p ≡ false
    → FollowsAt p t e a new → Does (counted t e) (wanted (counted t e) e) a new
follows_does (phase.Ended y) t e a new i f = absurd (never (sym i))
follows_does p t e a new i f = f
