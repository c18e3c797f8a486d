-- One half of a lane at its two ends: whether the receiver completed what the sender sent, once.
use Rattle.std.specs.Prelude.{◌≡◌, ◌≢◌, ◌⊎◌, ℕ, suc, ◌+◌, ◌-◌, ◌≤◌, ◌==◌, ◌||◌, ◌&&◌, Bool, true, false, List, [], ◌∷◌}
use Rattle.std.specs.Prelude.{◌++◌}
use Rattle.std.specs.Prelude.{length, take, slice_get, bytes_eq, if◌then◌else◌}
use Rattle.mta_audit_run.specs.declared.half.Half.{Half}
use Rattle.mta_audit_run.specs.declared.verdict.Verdict.{Verdict}
use Rattle.mta_audit_run.specs.declared.verdict.Verdict.TheVariants.{Agrees, Differs}

-- The octets of the completed activities are those of the sent ones, in order, or these followed by those of the one
-- in Ending.
abbrev pub IsAudited : Half → Type 0
IsAudited h = (h.completed ≡ h.sent) ⊎ (h.completed ≡ h.sent ++ h.ending)

-- the first position, from 1, at which the octets differ or one of the lists has ended
pub record FirstDiffers (xs ys : List (List ℕ)) (at : ℕ) : Type 0 where
  pub counted : 1 ≤ at
  pub same : take (at - 1) xs ≡ take (at - 1) ys
  pub differs : slice_get xs (at - 1) ≢ slice_get ys (at - 1)

-- what is said of a half
abbrev pub IsVerdict : Half → Verdict → Type 0
IsVerdict h Agrees = IsAudited h
IsVerdict h (Differs at) = (IsAudited h → ⊥) × FirstDiffers (h.sent ++ h.ending) h.completed at

-- ---- how it is found

-- how many activities at the front of both have the same octets
abbrev pub common : List (List ℕ) → List (List ℕ) → ℕ
common [] ys = 0
common (x ∷ xs) [] = 0
common (x ∷ xs) (y ∷ ys) = if bytes_eq x y then suc (common xs ys) else 0

abbrev pub verdict_by : (same sent ending completed : ℕ) → Verdict
verdict_by same sent ending completed =
    if (same == completed) && ((same == sent) || (same == (sent + ending))) then Agrees else Differs (same + 1)

abbrev pub verdict_of : Half → Verdict
verdict_of h =
    verdict_by (common (h.sent ++ h.ending) h.completed) (length h.sent) (length h.ending) (length h.completed)

abbrev pub agrees : Verdict → Bool
agrees Agrees = true
agrees (Differs at) = false

-- it is the one
abbrev pub VerdictsAreExact : Type 0
VerdictsAreExact = (h : Half) → IsVerdict h (verdict_of h)
