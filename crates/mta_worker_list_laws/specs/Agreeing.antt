-- What two ends of a lane agree on, where workers of this agent served its sessions.
use Rattle.std.specs.Prelude.{◌≡◌, ℕ, Bool, List, [], ◌∷◌, ◌++◌, length, map, Some}
use Rattle.mta_edge.specs.Views.{ClockView, DiskView}
use Rattle.mta_links.specs.Links.{LinkView, StationView}
use Rattle.mta_transfer_rules.specs.Lanes.{Seen}
use Rattle.mta_records.specs.declared.step.Step.{Step}
use Rattle.mta_transfer_laws.specs.Run.{EndsAgreeOnRun}
use Rattle.mta_transfer_laws.specs.Sessions.{SessionList}
use Rattle.mta_session.specs.State.{is_initiator}
use Rattle.mta_session.specs.declared.limits.Limits.{Limits}
use Rattle.mta_session_list_laws.specs.Lists.{AreValues, completed}
use Rattle.mta_shared.specs.Counts.{row}
use Rattle.mta_shared.specs.declared.history.Base.{Base}
use Rattle.mta_stations.specs.declared.end.WorkerEnd.{WorkerEnd}
use Rattle.mta_worker.specs.Wholes.{AreWorkers}
use Rattle.mta_worker_list_laws.specs.All.{AllParts, AreGood, AreOfStations, roles_of}
use Rattle.mta_worker_list_laws.specs.Good.{IsListOver}
use Rattle.mta_worker_list_laws.specs.Histories.{AreEntries, TellsApdus, whole}
use Rattle.mta_worker_list_laws.specs.Parts.{AreForNone, IsSession, plain}
use Rattle.mta_worker_list_laws.specs.Segments.{IsOne, ListsAs, OnLane, Segment, told_over}

-- It is the list of a session of these parts that had the lane, as an initiator or not: with what came of its last
-- action, and with the Abandons of other passes, for these values.
pub record IsListIn {L : Type 0} (links : LinkView L) (spells : List ℕ → Bool) (first entries : List Step)
    (parts : List Segment) (lane size window : ℕ) (initiator : Bool) (l : SessionList) : Type 0 where
  pub part : Segment
  pub one : IsOne part parts
  pub session : IsSession links spells first entries part
  pub side : is_initiator session.new.side ≡ initiator
  pub on : OnLane
  pub has : part.list ≡ Some on
  pub lane_is : on.lane ≡ lane
  pub listed : ListsAs spells (whole first entries) session.new session.calls (told_over session.ran.done.over)
      (Some on)
  pub list : SessionList
  pub behind : IsListOver session.calls listed.0 session.ran.done.over list
  pub list_is : l ≡ completed (whole first entries) on.lane size window (is_initiator session.new.side) list

abbrev pub AreListsIn : {L : Type 0} (links : LinkView L) (spells : List ℕ → Bool) (first entries : List Step)
    (parts : List Segment) (lane size window : ℕ) (initiator : Bool) → List SessionList → Type 0
AreListsIn links spells first entries parts lane size window initiator [] = Unit {0}
AreListsIn links spells first entries parts lane size window initiator (l ∷ ls) =
    IsListIn links spells first entries parts lane size window initiator l
    × AreListsIn links spells first entries parts lane size window initiator ls

-- So wherever the history is cut, the ends agree in each world that has the lists of sessions of the lane and the steps
-- behind the cut.
abbrev pub PartsAgree : {L : Type 0} (links : LinkView L) (spells : List ℕ → Bool) (first entries : List Step)
    (parts : List Segment) → Type 0
PartsAgree links spells first entries parts =
    (before added : List Seen) (lane size window : ℕ) (initiator : Bool) (ls : List SessionList)
    → before ++ added ≡ whole first entries → AreValues (whole first entries) lane size window
    → AreListsIn links spells first entries parts lane size window initiator ls
    → EndsAgreeOnRun spells before added lane size window initiator ls

module _ {D C L S : Type 0} (disks : DiskView D) (clocks : ClockView C) (links : LinkView L)
    (stations : StationView S) where
  -- The lists of the sessions that workers served are good, and the ends agree. The stations are those of the workers.
  -- Behind the workers there may be entries that are made for no session.
  abbrev pub EndsAgree : Type 0
  EndsAgree =
      (spells : List ℕ → Bool) (first front entries back : List Step) (limits : Limits) (before after : List S)
      (ends : List WorkerEnd) (base : Base) → TellsApdus spells → AreEntries base first (entries ++ back)
      → AreForNone (whole first (entries ++ back)) (length first) (plain (row (length entries) (length back)))
      → (w : AreWorkers disks clocks links stations limits before after ends front base entries)
      → (all : AllParts links spells first (entries ++ back) (length front))
      × AreOfStations disks clocks links stations spells first (entries ++ back) limits w.dealt w.done all.by_station
      × AreGood links spells first (entries ++ back) all.parts
      × PartsAgree links spells first (entries ++ back) all.parts × (roles_of all ≡ map stations.role before)
