-- What two ends of a lane agree on, where one station had all sessions of the lane.
use Rattle.std.specs.Prelude.{◌≡◌, ◌⊎◌, ◌<◌, ◌≤◌, ℕ, ◌+◌, Bool, List, [], ◌∷◌, ◌++◌, length, None, Some}
use mathlib.Core.Logic.{inl, inr}
use Rattle.mta_links.specs.Links.{LinkView}
use Rattle.mta_transfer_rules.specs.Lanes.{Seen}
use Rattle.mta_records.specs.declared.step.Step.{Step}
use Rattle.mta_histories.specs.History.{IsHistory}
use Rattle.mta_lane_match_laws.specs.Generations.{BeginsAt}
use Rattle.mta_transfer_laws.specs.Clause.{LaneAgrees}
use Rattle.mta_transfer_laws.specs.Sessions.{SessionList}
use Rattle.mta_session.specs.State.{is_initiator}
use Rattle.mta_session_list_laws.specs.Lists.{AreValues}
use Rattle.mta_shared.specs.Counts.{times}
use Rattle.mta_worker_list_laws.specs.Agreeing.{AreListsIn}
use Rattle.mta_worker_list_laws.specs.All.{AllParts, StationParts}
use Rattle.mta_worker_list_laws.specs.Histories.{TellsApdus, whole}
use Rattle.mta_worker_list_laws.specs.Parts.{AreForNone, AreSessions, IsSession}
use Rattle.mta_worker_list_laws.specs.Segments.{IsOne, OnLane, Segment}

-- these have each of those that had the lane
abbrev pub HaveLane : (ss parts : List Segment) (lane : ℕ) → Type 0
HaveLane ss parts lane =
    (s : Segment) (on : OnLane) → IsOne s parts → s.list ≡ Some on → on.lane ≡ lane → IsOne s ss

-- it had the lane, and began there
pub record BeganAt (s : Segment) (lane at : ℕ) : Type 0 where
  pub on : OnLane
  pub has : s.list ≡ Some on
  pub lane_is : on.lane ≡ lane
  pub at_is : on.at ≡ at

-- Each session that opened or bound the lane was told so, and has a list. For want of memory one may not be told of a
-- lane that its peer opened.
abbrev pub AreTold : List Seen → (before lane : ℕ) → List Segment → Type 0
AreTold history before lane parts =
    (s : Segment) (k g : ℕ) → IsOne s parts → s.list ≡ None → 0 < times k s.own
    → BeginsAt history (before + k) lane g → ⊥

-- So each generation of the lane that began there or behind began with one of these.
abbrev pub EachBegan : List Seen → (from lane : ℕ) → List Segment → Type 0
EachBegan history from lane ss =
    (p g : ℕ) → from ≤ p → BeginsAt history p lane g → (s : Segment) × IsOne s ss × BeganAt s lane p

-- this agent opened the lane, or its peer did: whoever had it, had it so
abbrev pub IsOnSide : {L : Type 0} {links : LinkView L} {spells : List ℕ → Bool} {first entries : List Step}
    {s : Segment} → (lane : ℕ) (initiator : Bool)
    → AreForNone (whole first entries) (length first) s ⊎ IsSession links spells first entries s → Type 0
IsOnSide lane initiator (inl none) = Unit {0}
IsOnSide {s = s} lane initiator (inr x) =
    (on : OnLane) → s.list ≡ Some on → on.lane ≡ lane → is_initiator x.new.side ≡ initiator

abbrev pub AreOnSide : {L : Type 0} (links : LinkView L) (spells : List ℕ → Bool) (first entries : List Step)
    → (lane : ℕ) (initiator : Bool) (ss : List Segment) → AreSessions links spells first entries ss → Type 0
AreOnSide links spells first entries lane initiator [] are = Unit {0}
AreOnSide links spells first entries lane initiator (s ∷ ss) are =
    IsOnSide lane initiator are.0 × AreOnSide links spells first entries lane initiator ss are.1

-- these are the parts of one station's sessions
abbrev pub IsStation : List Segment → List (List Segment) → Type 0
IsStation ss [] = ⊥
IsStation ss (x ∷ xs) = (ss ≡ x) ⊎ IsStation ss xs

-- The lists of sessions of this lane, each on this side, have the steps of both halves that the history has from one
-- length on, in its order, and the two ends agree.
abbrev pub HaveSteps : {L : Type 0} (links : LinkView L) (spells : List ℕ → Bool) (first entries : List Step)
    (parts : List Segment) (before added : List Seen) (lane size window : ℕ) (initiator : Bool) → Type 0
HaveSteps links spells first entries parts before added lane size window initiator =
    (ls : List SessionList) × AreListsIn links spells first entries parts lane size window initiator ls
    × LaneAgrees spells before added lane size window initiator ls

-- Where one station had all sessions of a lane, and each was told that it has it, all are on one side, and their lists,
-- in the order in which they were served, have the steps of both halves that the history has from some length on, in
-- its order, and the two ends agree. (Where it had none, so it is on either side.)
abbrev pub LanesAgree : {L : Type 0} (links : LinkView L) (spells : List ℕ → Bool) (first entries : List Step)
    (low : ℕ) → AllParts links spells first entries low → Type 0
LanesAgree links spells first entries low all =
    (lane size window : ℕ) (ss : List Segment)
    (one : StationParts links spells first entries (length first + low) ss) → IsStation ss all.by_station
    → HaveLane ss all.parts lane → AreTold (whole first entries) (length first) lane all.parts
    → AreValues (whole first entries) lane size window → (before added : List Seen)
    → before ++ added ≡ whole first entries → length before ≡ length first + low
    → ((initiator : Bool) × AreOnSide links spells first entries lane initiator ss one.sessions)
    × ((initiator : Bool) → AreOnSide links spells first entries lane initiator ss one.sessions
    → HaveSteps links spells first entries all.parts before added lane size window initiator)

abbrev pub LanesOfStationsAgree : {L : Type 0} → LinkView L → Type 0
LanesOfStationsAgree links =
    (spells : List ℕ → Bool) (first entries : List Step) (low : ℕ) (all : AllParts links spells first entries low)
    → TellsApdus spells → IsHistory (first ++ entries) → LanesAgree links spells first entries low all
