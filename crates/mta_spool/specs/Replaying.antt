-- What replaying bodies gives.
use Rattle.std.specs.Prelude.{◌≡◌, ℕ, List, map, Result, IsOk, IsErrOf}
use Rattle.mta_records.specs.declared.step.Step.{Step}
use Rattle.mta_records.specs.Body.{body_of, HasFields}
use Rattle.mta_histories.specs.Lanes.{State}
use Rattle.mta_histories.specs.History.{IsHistory, IsPossible, after, after_step}
use Rattle.mta_images.specs.Image.{AreRecords, StopsAt}
use Rattle.mta_journal.specs.declared.why.OpenWhy.{OpenWhy}
use Rattle.mta_journal.specs.declared.why.OpenWhy.TheVariants as Whys
use Rattle.mta_replay.specs.declared.replay.NotMade.{NotMade}
use Rattle.mta_replay.specs.declared.replay.NotMade.TheVariants as NotMades

-- the step of a body was taken up, or it has none that is possible
pub record HasTaken {T : Type 0} (body : List ℕ) (old new : State) (result : Result T NotMade) : Type 0 where
  pub made : IsOk result
      → (step : Step) × HasFields step × (body_of step ≡ body) × IsPossible old step
      × (new ≡ after_step old step)
  pub impossible : IsErrOf result NotMades.Impossible
      → (step : Step) → HasFields step → body_of step ≡ body → IsPossible old step → ⊥

-- these are the steps of the bodies, and this is the state after them
pub record IsReplay (bodies : List (List ℕ)) (state : State) (steps : List Step) : Type 0 where
  pub bodies_are : map body_of steps ≡ bodies
  pub each : AreRecords steps
  pub history : IsHistory steps
  pub state_is : state ≡ after steps

-- this is the state after the steps of the bodies
abbrev pub HasReplayed : List (List ℕ) → State → Type 0
HasReplayed bodies state = (steps : List Step) × IsReplay bodies state steps

-- the bodies, whose records stand from this gate on, are those of no history from a place on, or there was no memory
-- for what they say
abbrev pub HasStopped : ℕ → List (List ℕ) → OpenWhy → Type 0
HasStopped first bodies (Whys.NotSpool at) = StopsAt first bodies at
HasStopped first bodies Whys.Disk = ⊥
HasStopped first bodies Whys.Memory = Unit {0}

-- why a body was not taken up whose gate is at this offset
abbrev pub open_why : NotMade → ℕ → OpenWhy
open_why NotMades.Impossible at = Whys.NotSpool at
open_why NotMades.Memory at = Whys.Memory
