-- At which stations the sessions of a lane were that this agent opened.
use Rattle.std.specs.Prelude.{◌≡◌, ℕ, Bool, List, ◌++◌, Some}
use Rattle.mta_links.specs.Links.{LinkView}
use Rattle.mta_links.specs.declared.role.Role.TheVariants as Roles
use Rattle.mta_records.specs.declared.lane.LaneRole.TheVariants.{Initiator}
use Rattle.mta_records.specs.declared.step.Step.{Step}
use Rattle.mta_histories.specs.History.{IsHistory}
use Rattle.mta_worker_list_laws.specs.Parts.{IsSession}
use Rattle.mta_worker_list_laws.specs.Roles.{WasOpenAs}
use Rattle.mta_worker_list_laws.specs.Segments.{OnLane, Segment}

-- Two sessions of such a lane were over links of stations that call one peer: that to which the lane was opened.
abbrev pub StationsAgree : {L : Type 0} → LinkView L → Type 0
StationsAgree links =
    (spells : List ℕ → Bool) (first entries : List Step) (s r : Segment)
    (x : IsSession links spells first entries s) (y : IsSession links spells first entries r) (on other : OnLane)
    → IsHistory (first ++ entries) → WasOpenAs Initiator on.lane (first ++ entries) → s.list ≡ Some on
    → r.list ≡ Some other → on.lane ≡ other.lane
    → (peer : List ℕ) × (x.ran.role ≡ Roles.Out peer) × (y.ran.role ≡ Roles.Out peer)
