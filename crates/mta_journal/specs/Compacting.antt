-- What the two calls leave that write a journal anew.
use Rattle.std.specs.Prelude.{◌≡◌, ◌≢◌, ◌⊎◌, ◌↔◌, ◌≤◌, ℕ, true, false, List, [], ◌∷◌, Some, Result, IsOk, IsErr}
use Rattle.std.specs.Prelude.{IsErrOf}
use Rattle.mta_edge.specs.Causes.{Rose}
use Rattle.mta_edge.specs.Views.{DiskView, StaysTold}
use Rattle.mta_edge.specs.Crashes.{AtAnyMoment}
use Rattle.mta_journal.specs.Stages.{HasEither}
use Rattle.mta_journal.specs.Shown.{Shown, Holds}
use Rattle.mta_journal.specs.declared.journal.AppendFault.{AppendFault}
use Rattle.mta_journal.specs.declared.journal.AppendFault.TheVariants as Faults

-- What a call answers and leaves that writes a journal anew, where this stands in the place of its bodies.
pub record Rewrites {D T : Type 0} (model : DiskView D) (after : List (List ℕ) → List (List ℕ))
    (old new : Shown D)
    (result : Result T AppendFault) : Type 0 where
  -- at Ok those stand in the place of the bodies that the journal held, also after a crash
  pub done : IsOk result → (bodies : List (List ℕ)) → Holds model old bodies → Holds model new (after bodies)
  -- in the first area, but where there is one alone, which stays as it was; and the journal has not ended
  pub place : IsOk result → ((old.first ≡ 8) × (new ≡ old)) ⊎ ((old.first ≢ 8) × (new.first ≡ 23))
  pub going : IsOk result → new.ended ≡ false
  -- the disk tells what it holds where it told it, at every answer
  pub told : StaysTold model old.disk new.disk
  -- a crash at any moment of the call leaves the bodies that the journal held, where they stood, or those
  pub images : (f : List ℕ) → model.content old.disk ≡ Some f → (bodies : List (List ℕ))
      → Holds model old bodies
      → AtAnyMoment model (HasEither old.first bodies (after bodies)) old.disk new.disk
  -- at a refusal but the disk's all is as it was
  pub kept : IsErr result → (IsErrOf result Faults.Disk → ⊥) → new ≡ old
  -- Ended comes exactly where an earlier call answered Disk
  pub ended : IsErrOf result Faults.Ended ↔ (old.ended ≡ true)
  pub marked : IsErrOf result Faults.Disk → new.ended ≡ true
  -- Full never comes
  pub not_full : (size need : ℕ) → IsErrOf result (Faults.Full size need) → ⊥
  -- the disk's count of faults does not fall, and Disk comes only where it rose
  pub later : model.faults old.disk ≤ model.faults new.disk
  pub disk : IsErrOf result Faults.Disk → Rose (model.faults old.disk) (model.faults new.disk)

-- the same bodies are held in the first area, or in the only one
abbrev pub Settles : {D T : Type 0} → DiskView D → Shown D → Shown D → Result T AppendFault → Type 0
Settles model old new result = Rewrites model (λ bodies. bodies) old new result

-- this body stands in the place of them all
abbrev pub Compacts : {D T : Type 0} → DiskView D → List ℕ → Shown D → Shown D → Result T AppendFault
    → Type 0
Compacts model body old new result = Rewrites model (λ bodies. body ∷ []) old new result
