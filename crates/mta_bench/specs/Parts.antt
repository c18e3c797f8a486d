-- The passes of threads that take turns.
use Rattle.std.specs.Prelude.{◌≡◌, ℕ}
use Rattle.mta_shared.specs.Held.{Held, LockId}
use Rattle.mta_shared.specs.Passes.{IsReady}

-- it has one part of this lock, and no turn
pub record IsPart (at : LockId) (p : Held ℕ) : Type 0 where
  pub ready : IsReady at p
  pub one : p.parts ≡ 1
