-- Threads may share the lock that holds a value which may go to another thread.
use mathlib.Core.List.{List, [], ◌∷◌}
use Prim.Native.Nat.{ℕ}
use denote.RattleType.{RattleType}
use denote.Struct.Tuple.{TupleAt}
use denote.Param.Send.{IsSend, IsSync, sendable, struct_sync}
use denote.Struct.Declared.{shape}
use Rattle.std.proofs.Crossing.{crosses}
use Rattle.mta_shared.specs.contracts.lock.Shared as shared
use Rattle.mta_shared.specs.declared.history.Historied as historied
use Rattle.atomic_table.proofs.shared.Shared.TheSendSync as cells
use Rattle.atomic_table.proofs.send_lease.SendLease.TheSendSync as lease

module _ (V E : RattleType) (h : historied.Ghosts V.Denot E.Denot) where
  pub shared_sync : IsSend V → IsSync (shared.the_field V E h).row
  shared_sync s = struct_sync (shape (shared.the_type V E h)) (
    search (cells.the_sync, lease.the_sync, crosses, sendable) depth 80 fits 100000,
    (search (crosses, sendable) depth 80 fits 100000, tt),
  )

-- A closure that captures four things may be shared where each of them may.
pub captures_sync : (n : List ℕ) (A B C D : RattleType) → IsSync A → IsSync B → IsSync C → IsSync D
    → IsSync (TupleAt n (A ∷ B ∷ C ∷ D ∷ []))
captures_sync n A B C D a b c d = search sendable depth 20
