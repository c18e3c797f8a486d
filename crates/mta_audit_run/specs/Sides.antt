-- What replaying bodies gives for an audit.
use Rattle.std.specs.Prelude.{◌≡◌, ℕ, Bool, List, map, Result, Ok, IsErrOf}
use Rattle.mta_records.specs.declared.step.Step.{Step}
use Rattle.mta_records.specs.Body.{body_of, HasFields}
use Rattle.mta_histories.specs.Classes.{class_of}
use Rattle.mta_histories.specs.Lanes.{State}
use Rattle.mta_histories.specs.History.{IsHistory, IsPossible, after_step}
use Rattle.mta_images.specs.Image.{AreRecords}
use Rattle.mta_replay.specs.declared.replay.NotMade.{NotMade}
use Rattle.mta_replay.specs.declared.replay.NotMade.TheVariants as NotMades
use Rattle.mta_audit_run.specs.declared.account.Account.{Account}
use Rattle.mta_audit_run.specs.declared.side.Side.{Side}
use Rattle.mta_audit_run.specs.Accounts.{accounts, accounts_after, begins_with_snapshot, is_snapshot, with_endings}
use Rattle.mta_audit_run.specs.Audit.{own_by, own_of}

-- a step was taken up where it is possible, what it tells is noted, and it is answered whether it is a snapshot
pub record HasTold (step : Step) (old : State) (before : List Account) (new : State) (behind : List Account)
    (result : Result Bool NotMade) : Type 0 where
  pub made : (snapshot : Bool) → result ≡ Ok snapshot → IsPossible old step × (new ≡ after_step old step)
      × (behind ≡ accounts_after old.lanes (class_of step) before) × (snapshot ≡ is_snapshot (class_of step))
  pub impossible : IsErrOf result NotMades.Impossible → IsPossible old step → ⊥

-- the step of a body was taken up, what it tells is noted, and it is answered whether it is a snapshot; or it has none
-- that is possible
pub record HasNoted (body : List ℕ) (old : State) (before : List Account) (new : State) (behind : List Account)
    (result : Result Bool NotMade) : Type 0 where
  pub made : (snapshot : Bool) → result ≡ Ok snapshot
      → (step : Step) × HasFields step × (body_of step ≡ body) × IsPossible old step
      × (new ≡ after_step old step)
      × (behind ≡ accounts_after old.lanes (class_of step) before) × (snapshot ≡ is_snapshot (class_of step))
  pub impossible : IsErrOf result NotMades.Impossible
      → (step : Step) → HasFields step → body_of step ≡ body → IsPossible old step → ⊥

-- the own name and the lanes, in this state, with what the steps told
pub record IsSideAt (s : State) (begun : Bool) (known : List Account) (side : Side) : Type 0 where
  pub own : side.own ≡ own_by s.machine
  pub begun_is : side.begun ≡ begun
  pub accounts_are : side.accounts.items ≡ with_endings s.lanes.open_lanes known

-- the own name and the lanes of a history, and whether it begins with a snapshot
pub record IsSideOf (steps : List Step) (side : Side) : Type 0 where
  pub own : side.own ≡ own_of steps
  pub begun_is : side.begun ≡ begins_with_snapshot steps
  pub accounts_are : side.accounts.items ≡ accounts steps

-- those of the history with these bodies
pub record IsSide (bodies : List (List ℕ)) (side : Side) : Type 0 where
  pub steps : List Step
  pub bodies_are : map body_of steps ≡ bodies
  pub each : AreRecords steps
  pub history : IsHistory steps
  pub side_is : IsSideOf steps side
