-- What an append leaves.
use Rattle.std.specs.Prelude.{◌≡◌, ◌⊎◌, ◌↔◌, ◌+◌, ◌≤◌, ◌<◌, ℕ, true, false, List, [], ◌∷◌, ◌++◌, length, Some, Result}
use Rattle.std.specs.Prelude.{IsOk, IsErr, IsErrOf}
use Rattle.mta_edge.specs.Causes.{Rose}
use Rattle.mta_edge.specs.Views.{DiskView, StaysTold}
use Rattle.mta_edge.specs.Outside.{ContentGoes}
use Rattle.mta_edge.specs.Crashes.{AtAnyMoment}
use Rattle.mta_journal.specs.Bodies.{longest_body, longest_first, most_behind, need_of, records, HasBodiesAt}
use Rattle.mta_journal.specs.Bodies.{HasOrOneMore}
use Rattle.mta_journal.specs.Shown.{Shown, Holds, IsPlain}
use Rattle.mta_journal.specs.declared.journal.AppendFault.{AppendFault}
use Rattle.mta_journal.specs.declared.journal.AppendFault.TheVariants as Faults

-- the most octets of a journal
abbrev pub journal_limit : ℕ
journal_limit = 536870912

-- the body is not too long for a journal of this size, whose area begins at this gate
abbrev pub IsShortEnough : ℕ → ℕ → List ℕ → Type 0
IsShortEnough gate size body = (length body ≤ longest_body)
    ⊎ ((length body ≤ longest_first) × (size ≡ gate + 1))

-- The body may stand behind these, which stand between `first` and `gate` in the only area or the first one. The only
-- area has bodies already.
pub record CanFollow (first gate : ℕ) (bodies : List (List ℕ)) (body : List ℕ) : Type 0 where
  pub plain : IsPlain first
  pub place : gate ≡ first + length (records bodies)
  pub some : first ≡ 8 → 8 < gate
  pub short : length body ≤ most_behind longest_first bodies

-- With its gate behind the records of these bodies, the disk that had them has this body too.
abbrev pub PutsBehind : {D : Type 0} → DiskView D → ℕ → List ℕ → D → D → Type 0
PutsBehind model gate body old new =
    (first : ℕ) (bodies : List (List ℕ)) → CanFollow first gate bodies body
    → ContentGoes model (λ f g. HasBodiesAt first bodies f → HasBodiesAt first (bodies ++ body ∷ []) g) old new

-- A crash at any moment leaves the bodies that the disk had in front of this gate, or those and this one.
abbrev pub CrashLeavesBehind : {D : Type 0} → DiskView D → ℕ → List ℕ → D → D → Type 0
CrashLeavesBehind model gate body old new =
    (f : List ℕ) → model.content old ≡ Some f → (first : ℕ) (bodies : List (List ℕ))
    → CanFollow first gate bodies body
    → HasBodiesAt first bodies f → AtAnyMoment model (HasOrOneMore first bodies body) old new

-- what an append of this body answers and leaves
pub record Appends {D T : Type 0} (model : DiskView D) (body : List ℕ) (old new : Shown D)
    (result : Result T AppendFault) : Type 0 where
  -- at Ok the body stands behind those that the journal held, also after a crash
  pub done : IsOk result → (bodies : List (List ℕ)) → Holds model old bodies
      → Holds model new (bodies ++ body ∷ [])
  -- in the same area, and the journal has not ended
  pub place : new.first ≡ old.first
  pub going : IsOk result → new.ended ≡ false
  -- the disk tells what it holds where it told it, at every answer
  pub told : StaysTold model old.disk new.disk
  -- a crash at any moment of the call leaves, in the same area, the bodies that the journal held, or those and this one
  pub images : (f : List ℕ) → model.content old.disk ≡ Some f → (bodies : List (List ℕ))
      → Holds model old bodies
      → AtAnyMoment model (HasOrOneMore old.first bodies body) old.disk new.disk
  -- at a refusal but the disk's all is as it was
  pub kept : IsErr result → (IsErrOf result Faults.Disk → ⊥) → new ≡ old
  -- Ended comes exactly where an earlier call answered Disk
  pub ended : IsErrOf result Faults.Ended ↔ (old.ended ≡ true)
  pub marked : IsErrOf result Faults.Disk → new.ended ≡ true
  -- Full comes exactly where the record would pass the limit and no earlier call answered Disk
  pub full : (size need : ℕ) → IsErrOf result (Faults.Full size need)
      → (size ≡ old.size) × (need ≡ need_of body) × (journal_limit < size + need)
  pub full_where : old.ended ≡ false → journal_limit < old.size + need_of body
      → IsErrOf result (Faults.Full old.size (need_of body))
  -- the disk's count of faults does not fall, and Disk comes only where it rose
  pub later : model.faults old.disk ≤ model.faults new.disk
  pub disk : IsErrOf result Faults.Disk → Rose (model.faults old.disk) (model.faults new.disk)
