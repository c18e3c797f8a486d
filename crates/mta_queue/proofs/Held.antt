-- One recipient.
use Rattle.std.proofs.Common.{◌≡◌, ◌≢◌, ℕ, zero, suc, Bool, [], ◌∷◌, refl}
use Rattle.mta_queue.specs.declared.mark.Mark.{Mark}
use Rattle.mta_queue.specs.Marks.{set_waits}

-- of another number nothing is put down
pub set_one : (mark : Mark) (r : ℕ) (waits : Bool) → r ≢ 0 → r ≢ 1 → set_waits (mark ∷ []) r waits ≡ mark ∷ []
set_one mark zero waits some more = absurd (some refl)
set_one mark (suc zero) waits some more = absurd (more refl)
set_one mark (suc (suc n)) waits some more = refl
