-- When an APDU may be accepted, and when a recipient may be settled.
use Rattle.std.specs.Prelude.{◌≡◌, ◌≢◌, ℕ, ◌+◌, ◌<◌, ◌≤◌, ◌^◌, Bool, true, false, [], length}
use Rattle.std.specs.Prelude.{Option, Some, None}
use Rattle.mta_procedures.specs.declared.verdict.Verdict.{Verdict}
use Rattle.mta_procedures.specs.declared.verdict.Verdict.TheVariants as Verdicts
use Rattle.mta_machine.specs.Machine.{verdict_at}
use Rattle.mta_histories.specs.Lanes.{State}
use Rattle.mta_histories.specs.Classes.{Settling, deliver, expand, report, affirm, discard, back}
use Rattle.mta_histories.specs.Due.{IsWaiting}

-- tables are recorded, the moment is not before the last one, and the next item has a number
pub record MayAccept (s : State) (moment : ℕ) : Type 0 where
  pub recorded : s.machine.tables ≢ []
  pub in_time : s.machine.moment ≤ moment
  pub timely : s.moment ≤ moment
  pub numbered : length s.machine.items + 1 < 2 ^ 32

-- the recipient is pending and in no activity, and the moment is not before the last one
pub record MaySettle (s : State) (i r moment : ℕ) : Type 0 where
  pub waiting : IsWaiting s i r
  pub in_time : s.machine.moment ≤ moment
  pub timely : s.moment ≤ moment

-- the recipient may be settled, and this is the verdict
pub record IsReady (s : State) (i r moment : ℕ) (v : Verdict) : Type 0 where
  pub may : MaySettle s i r moment
  pub verdict_is : verdict_at s.machine i r moment ≡ Some v

-- the recipient may be settled, and is a list that is expanded
abbrev pub IsReadyToExpand : State → (i r moment : ℕ) → Type 0
IsReadyToExpand s i r moment = (place : ℕ) × IsReady s i r moment (Verdicts.Expand place)

-- the verdict on a recipient who may be settled, or none where there is no such recipient
abbrev pub IsReadyBy : State → (i r moment : ℕ) → Option Verdict → Type 0
IsReadyBy s i r moment None = (v : Verdict) → IsReady s i r moment v → ⊥
IsReadyBy s i r moment (Some v) = IsReady s i r moment v

-- the verdict calls for a recipient to be settled so
abbrev pub calls : Settling → Verdict → Bool
calls deliver (Verdicts.Deliver place) = true
calls expand (Verdicts.Expand place) = true
calls report (Verdicts.NonDeliver reason diagnostic) = true
calls affirm Verdicts.Affirm = true
calls discard Verdicts.Discard = true
calls back Verdicts.Back = true
calls how v = false

abbrev pub calls_for : Settling → Option Verdict → Bool
calls_for how None = false
calls_for how (Some v) = calls how v
