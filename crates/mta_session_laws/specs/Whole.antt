-- A session from its first call to its end.
use Rattle.std.specs.Prelude.{◌≡◌, ℕ, List, [], ◌∷◌}
use Rattle.mta_session.specs.declared.event.InitiatorPlan.{InitiatorPlan}
use Rattle.mta_session.specs.State.{State}
use Rattle.mta_session.specs.Session.{new_initiator, new_responder}
use Rattle.mta_session_laws.specs.Runs.{Turn, IsTurn}

-- a session as it begins
pub data IsNew : State → Type 0 where
  Initiates : (plan : InitiatorPlan) (units : ℕ) → IsNew (new_initiator plan units)
  Responds : (own : List ℕ) (units : ℕ) → IsNew (new_responder own units)

-- the calls of a session, each from the state that the one before it left
abbrev pub AreCalls : State → List Turn → State → Type 0
AreCalls t [] u = u ≡ t
AreCalls t (x ∷ xs) u = (x.before ≡ t) × IsTurn x × AreCalls x.after xs u
