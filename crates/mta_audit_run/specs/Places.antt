-- Where the account of a lane stands.
use Rattle.std.specs.Prelude.{◌≡◌, ◌≢◌, ℕ, ◌<◌, List, length, slice_index_or, Option, Some, None}
use Rattle.mta_audit_run.specs.declared.account.Account.{Account}

-- the lane of this number stands there
pub record StandsAt (n : ℕ) (known : List Account) (place : ℕ) : Type 0 where
  pub within : place < length known
  pub number : (d : Account) → (slice_index_or known place d).number ≡ n

-- where the lane of this number stands; there is none where none is found
abbrev pub IsPlaceOf : ℕ → List Account → Option ℕ → Type 0
IsPlaceOf n known (Some place) = StandsAt n known place
IsPlaceOf n known None = (k : ℕ) (d : Account) → k < length known → (slice_index_or known k d).number ≢ n
