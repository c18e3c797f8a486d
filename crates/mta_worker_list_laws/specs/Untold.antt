-- Which lanes a session may have opened or bound that has no list.
use Rattle.std.specs.Prelude.{◌≡◌, ◌<◌, ℕ, ◌+◌, Bool, List, ◌++◌, length, None}
use Rattle.mta_links.specs.Links.{LinkView}
use Rattle.mta_records.specs.declared.lane.LaneRole.TheVariants.{Responder}
use Rattle.mta_records.specs.declared.step.Step.{Step}
use Rattle.mta_lane_match_laws.specs.Generations.{BeginsAt}
use Rattle.mta_shared.specs.Counts.{times}
use Rattle.mta_worker_list_laws.specs.Histories.{whole}
use Rattle.mta_worker_list_laws.specs.Parts.{IsSession}
use Rattle.mta_worker_list_laws.specs.Roles.{WasOpenAs}
use Rattle.mta_worker_list_laws.specs.Segments.{Segment}

-- A session that has no list and opened or bound a lane was not told so for want of memory, and its peer opened that
-- lane: a session whose worker called has a list.
abbrev pub UntoldAreTheirs : {L : Type 0} → LinkView L → Type 0
UntoldAreTheirs links =
    (spells : List ℕ → Bool) (first entries : List Step) (s : Segment) (x : IsSession links spells first entries s)
    (k lane g : ℕ) → s.list ≡ None → 0 < times k s.own
    → BeginsAt (whole first entries) (length first + k) lane g → WasOpenAs Responder lane (first ++ entries)
