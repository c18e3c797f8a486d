-- A session that waits for an answer is not over.
use Rattle.std.proofs.Common.{◌≡◌, true, false, refl}
use Rattle.mta_session.specs.declared.phase.Phase.{Phase}
use Rattle.mta_session.specs.declared.phase.Phase.TheVariants as phase
use Rattle.mta_session.specs.Rank.{is_over}
use Rattle.mta_session_laws.specs.Order.{is_asking}

never : false ≡ true → ⊥
never i = cc

pub asking_goes : (p : Phase) → is_asking p ≡ true → is_over p ≡ false
asking_goes (phase.Ended x) i = absurd (never i)
asking_goes p i = refl
