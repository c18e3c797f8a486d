use Rattle.std.proofs.Common.{ℕ, List, subst}
use Rattle.mta_apdu.specs.Apdus.{apdu_value, SpellsApdu}
use Rattle.mta_commands.proofs.inputs.check_apdu.Goals as goal

pub returns-in-Ok : goal.returns-in-Ok
returns-in-Ok c = (
  apdu_value c.in-Ok.apdu,
  subst (λ (b : List ℕ). SpellsApdu b (apdu_value c.in-Ok.apdu))
      c.as_slice.ensures c.in-Ok.ensures.found,
)
