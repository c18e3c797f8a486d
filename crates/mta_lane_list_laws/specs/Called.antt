-- What two ends of a lane agree on that this agent opened.
use Rattle.std.specs.Prelude.{◌≡◌, ◌⊎◌, ℕ, ◌+◌, Bool, true, List, [], ◌∷◌, ◌++◌, length}
use Rattle.mta_links.specs.Links.{LinkView}
use Rattle.mta_links.specs.declared.role.Role.{Role}
use Rattle.mta_links.specs.declared.role.Role.TheVariants as Roles
use Rattle.mta_transfer_rules.specs.Lanes.{Seen}
use Rattle.mta_records.specs.declared.lane.LaneRole.TheVariants.{Initiator}
use Rattle.mta_records.specs.declared.step.Step.{Step}
use Rattle.mta_histories.specs.History.{IsHistory}
use Rattle.mta_session_list_laws.specs.Lists.{AreValues}
use Rattle.mta_worker_list_laws.specs.All.{AllParts, roles_of}
use Rattle.mta_worker_list_laws.specs.Histories.{TellsApdus, whole}
use Rattle.mta_worker_list_laws.specs.Roles.{WasOpenAs}
use Rattle.mta_worker_list_laws.specs.Segments.{Segment}
use Rattle.mta_lane_list_laws.specs.Lanes.{HaveLane, HaveSteps, IsStation}

-- a station of one of these roles calls the peer
abbrev pub IsCalled : (peer : List ℕ) → List Role → Type 0
IsCalled peer [] = ⊥
IsCalled peer (r ∷ rs) = (r ≡ Roles.Out peer) ⊎ IsCalled peer rs

-- no two stations of these roles call one peer
abbrev pub CallOthers : List Role → Type 0
CallOthers [] = Unit {0}
CallOthers (r ∷ rs) = ((peer : List ℕ) → r ≡ Roles.Out peer → IsCalled peer rs → ⊥) × CallOthers rs

-- One station had all sessions of the lane, or there were none. Their lists, in the order in which they were served,
-- have the steps of both halves that the history has from one length on, in its order, and the two ends agree.
pub record LaneServed {L : Type 0} (links : LinkView L) (spells : List ℕ → Bool) (first entries : List Step)
    (low : ℕ)
    (all : AllParts links spells first entries low) (before added : List Seen) (lane size window : ℕ) : Type 0 where
  pub served : List Segment
  pub station : IsStation served all.by_station ⊎ (served ≡ [])
  pub have : HaveLane served all.parts lane
  pub steps : HaveSteps links spells first entries all.parts before added lane size window true

-- So it is of each lane that this agent opened, now or in an earlier run, from the entries on that were made together.
abbrev pub CalledLanesAgree : {L : Type 0} (links : LinkView L) (spells : List ℕ → Bool) (first entries : List Step)
    (low : ℕ) → AllParts links spells first entries low → Type 0
CalledLanesAgree links spells first entries low all =
    (lane size window : ℕ) → WasOpenAs Initiator lane (first ++ entries)
    → AreValues (whole first entries) lane size window → (before added : List Seen)
    → before ++ added ≡ whole first entries → length before ≡ length first + low
    → LaneServed links spells first entries low all before added lane size window

-- where no two stations call one peer
abbrev pub CalledLanesOfStationsAgree : {L : Type 0} → LinkView L → Type 0
CalledLanesOfStationsAgree links =
    (spells : List ℕ → Bool) (first entries : List Step) (low : ℕ) (all : AllParts links spells first entries low)
    → TellsApdus spells → IsHistory (first ++ entries) → CallOthers (roles_of all)
    → CalledLanesAgree links spells first entries low all
