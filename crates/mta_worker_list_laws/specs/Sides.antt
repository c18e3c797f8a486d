-- A lane has one role: who has it in one session as an initiator has it so in each.
use Rattle.std.specs.Prelude.{◌≡◌, ℕ, Bool, List, ◌++◌, Some}
use Rattle.mta_links.specs.Links.{LinkView}
use Rattle.mta_records.specs.declared.step.Step.{Step}
use Rattle.mta_histories.specs.History.{IsHistory}
use Rattle.mta_session.specs.State.{is_initiator}
use Rattle.mta_worker_list_laws.specs.Parts.{IsSession}
use Rattle.mta_worker_list_laws.specs.Segments.{OnLane, Segment}

-- Two sessions of one lane are on one side: each is the initiator's, or each the responder's.
abbrev pub SidesAgree : {L : Type 0} → LinkView L → Type 0
SidesAgree links =
    (spells : List ℕ → Bool) (first entries : List Step) (s r : Segment)
    (x : IsSession links spells first entries s) (y : IsSession links spells first entries r) (on other : OnLane)
    → IsHistory (first ++ entries) → s.list ≡ Some on → r.list ≡ Some other → on.lane ≡ other.lane
    → is_initiator x.new.side ≡ is_initiator y.new.side
