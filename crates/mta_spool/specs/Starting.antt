-- An activity that is started or goes on.
use Rattle.std.specs.Prelude.{◌≡◌, ℕ, ◌+◌, ◌-◌, ◌^◌, true, false, List, Option, None, Some, Result, Err}
use Rattle.mta_records.specs.declared.fault.StepFault.{StepFault}
use Rattle.mta_records.specs.declared.fault.StepFault.TheVariants as Faults
use Rattle.mta_records.specs.Outgoing.{Carried}
use Rattle.mta_lane_send.specs.Half.{is_idle, last_of}
use Rattle.mta_histories.specs.Classes.{on_lane, start}
use Rattle.mta_histories.specs.Lanes.{Transfer, Lane, State, lane_at}
use Rattle.mta_replay.specs.Starting.{MayStartNext}
use Rattle.mta_spool.specs.Refusals.{IsRefused}
use Rattle.mta_spool.specs.Shown.{Shown}
use Rattle.mta_spool.specs.Turning.{IsUnchanged}

-- the number of the next activity of the lane
abbrev pub next_activity : Option Lane → ℕ
next_activity None = 1
next_activity (Some lane) = last_of lane.sending + 1

-- it carries what is transferred
abbrev pub Carries : Option Transfer → ℕ → Carried → Type 0
Carries None activity outgoing = ⊥
Carries (Some t) activity outgoing = (outgoing.activity ≡ activity) × (outgoing.octets ≡ t.octets)

-- the activity of a lane's sending half, or none where it is idle or there is no lane
abbrev pub IsResumed : Option Lane → Option Carried → Type 0
IsResumed None None = Unit {0}
IsResumed None (Some outgoing) = ⊥
IsResumed (Some lane) None = is_idle lane.sending ≡ true
IsResumed (Some lane) (Some outgoing) =
    (is_idle lane.sending ≡ false) × Carries lane.transfer (last_of lane.sending) outgoing

-- Why no activity is started on a lane on which each number was given: a refusal for the lane, or where it might be
-- started the want of a number; or there was no memory to find that out.
abbrev pub IsPastLast : State → (n generation i : ℕ) → List ℕ → (moment : ℕ) → StepFault → Type 0
IsPastLast s n g i rs moment (Faults.Spent last) = (last ≡ 2 ^ 32 - 1) × MayStartNext s n g i rs moment
IsPastLast s n g i rs moment Faults.Memory = Unit {0}
IsPastLast s n g i rs moment fault =
    IsRefused s (on_lane n (Some g) (start (next_activity (lane_at n s.lanes.open_lanes)) i rs)) moment fault

-- no number of an activity is left on the lane, and all is as it was
pub record StartsPastLast {D C T : Type 0} (n generation i : ℕ) (rs : List ℕ) (moment : ℕ) (old new : Shown D C)
    (result : Result T StepFault) : Type 0 where
  pub same : IsUnchanged old new
  pub fault : StepFault
  pub refused : result ≡ Err fault
  pub ended : old.journal.ended ≡ true → fault ≡ Faults.Ended
  pub why : old.journal.ended ≡ false → IsPastLast old.current n generation i rs moment fault
