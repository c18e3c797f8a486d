-- Where bodies may stand on a disk.
use Rattle.std.specs.Prelude.{◌≡◌, ◌⊎◌, ℕ, List, [], ◌∷◌}
use Rattle.mta_journal.specs.Shown.{IsPlain}

-- the kind octet of a snapshot stands first
abbrev pub BeginsAsSnapshot : List ℕ → Type 0
BeginsAsSnapshot body = (rest : List ℕ) × (body ≡ 24 ∷ rest)

-- there is one body, which begins so
abbrev pub IsOneSnapshot : List (List ℕ) → Type 0
IsOneSnapshot bodies = (body : List ℕ) × (bodies ≡ body ∷ []) × BeginsAsSnapshot body

-- these bodies may stand from this gate on: in a second area that of a snapshot alone
abbrev pub MayStand : ℕ → List (List ℕ) → Type 0
MayStand gate bodies = IsPlain gate ⊎ IsOneSnapshot bodies
