-- How the recipients of an activity that failed are discharged.
use Rattle.std.specs.Prelude.{◌≡◌, ℕ, ◌+◌, ◌<◌, ◌≤◌, ◌^◌, List, [], ◌∷◌, length, map}
use Rattle.std.specs.Prelude.{Option, Some, None, option_map, option_to_list}
use Rattle.std.specs.Global.{Vec}
use Rattle.mta_apdu.specs.Apdus.{ApduValue}
use Rattle.mta_machine.specs.Apdu.{is_report, value_of}
use Rattle.mta_machine.specs.Items.{ItemValue, Machine}
use Rattle.mta_machine.specs.Rules.{Failure, denied, diagnostic_of, expired, non_delivery_report, reason_of}
use Rattle.mta_machine.specs.Rules.{too_long, violated}
use Rattle.mta_machine.specs.Machine.{MachineStep, discharge, failed, machine_run, own_item, status_after}
use Rattle.mta_state.specs.declared.change.Settlement.{Settlement}
use Rattle.mta_replay.specs.declared.failure.Failure.{Failure as Cause}
use Rattle.mta_replay.specs.declared.failure.Failure.TheVariants as cause
use Rattle.mta_replay.specs.Changes.{settled_in_order}

-- the failure that its value in memory is
abbrev pub failure_of : Cause → Failure
failure_of cause.TooLong = too_long
failure_of cause.Violated = violated
failure_of cause.Denied = denied
failure_of cause.Expired = expired

-- the report on a recipient, as the item behind so many
abbrev pub report_of : (text : List ℕ) (count : ℕ) (item : ItemValue) (r : ℕ) → Failure → Option ApduValue
report_of text count item r failure =
    non_delivery_report text (count + 1) item r (reason_of failure) (diagnostic_of failure)

-- how a recipient is discharged whose activity failed, where there are so many items
pub record IsFailed (text : List ℕ) (count : ℕ) (item : ItemValue) (r : ℕ) (failure : Failure) (moment : ℕ)
    (s : Settlement) : Type 0 where
  pub recipient : s.recipient ≡ r
  pub status : s.status ≡ status_after (is_report (value_of item.octets)) (failed failure) moment
  pub made : s.made ≡ option_map (own_item moment) (report_of text count item r failure)
  pub numbers : count + length (option_to_list s.made) < 2 ^ 32

-- this, or none where the number of the report is too great
abbrev pub Fails : (text : List ℕ) (count : ℕ) (item : ItemValue) (r : ℕ) → Failure → (moment : ℕ)
    → Option Settlement → Type 0
Fails text count item r failure moment None =
    2 ^ 32 ≤ count + length (option_to_list (report_of text count item r failure))
Fails text count item r failure moment (Some s) = IsFailed text count item r failure moment s

-- the recipients of an item, of whom each fails
abbrev pub fail_each : Failure → (moment i : ℕ) → List ℕ → List MachineStep
fail_each failure moment i rs = map (λ r. discharge i (r ∷ []) (failed failure) moment) rs

-- recipients of an item are discharged in their order, and there are so many items then
pub record AreFailed (m : Machine) (i : ℕ) (rs : List ℕ) (failure : Failure) (moment count : ℕ)
    (settlements : List Settlement) : Type 0 where
  pub same : settled_in_order m i settlements moment ≡ machine_run m (fail_each failure moment i rs)
  pub count_is : count ≡ length (machine_run m (fail_each failure moment i rs)).items

-- how all recipients are discharged, or none where the number of an item is too great
abbrev pub FailAll : Machine → (i : ℕ) → List ℕ → Failure → ℕ → Option (Vec Settlement) → Type 0
FailAll m i rs failure moment None = 2 ^ 32 ≤ length (machine_run m (fail_each failure moment i rs)).items
FailAll m i rs failure moment (Some settlements) =
    (settled_in_order m i settlements.items moment ≡ machine_run m (fail_each failure moment i rs))
    × (length (machine_run m (fail_each failure moment i rs)).items < 2 ^ 32)
