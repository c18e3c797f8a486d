-- The parts of the history that all workers made, and the lists of all their sessions.
use Rattle.std.specs.Prelude.{◌≡◌, ◌<◌, ◌≤◌, ℕ, ◌+◌, Bool, false, List, [], ◌∷◌}
use Rattle.std.specs.Prelude.{◌++◌, length, map, reverse, slice_get, slice_index_or, Option, None, Some}
use Rattle.mta_edge.specs.Views.{ClockView, DiskView}
use Rattle.mta_links.specs.Links.{LinkView, StationView}
use Rattle.mta_links.specs.declared.role.Role.{Role}
use Rattle.mta_units.specs.declared.unit.Unit.TheVariants.{EndAck}
use Rattle.mta_transfer_rules.specs.Lanes.{On, SeenStep}
use Rattle.mta_records.specs.declared.step.Step.{Step}
use Rattle.mta_transfer_laws.specs.Acknowledged.{HasPut, IsCompleted}
use Rattle.mta_transfer_laws.specs.Sessions.{IsGoodSession, SessionList}
use Rattle.mta_session.specs.State.{is_initiator}
use Rattle.mta_session.specs.declared.event.Action.TheVariants as action
use Rattle.mta_session.specs.declared.limits.Limits.{Limits}
use Rattle.mta_session_list_laws.specs.Calls.{list_of}
use Rattle.mta_session_list_laws.specs.Lists.{AreValues, completed, IsListOf}
use Rattle.mta_shared.specs.Counts.{row, times}
use Rattle.mta_shared.specs.declared.history.Base.{Base}
use Rattle.mta_stations.specs.declared.end.WorkerEnd.{WorkerEnd}
use Rattle.mta_worker.specs.declared.jobs.Job.{Job}
use Rattle.mta_worker.specs.Wholes.{AreWorkers}
use Rattle.mta_worker.specs.Working.{HasWorked}
use Rattle.mta_worker_list_laws.specs.Apart.{events_over, PutsApart}
use Rattle.mta_worker_list_laws.specs.Begun.{GiveNone}
use Rattle.mta_worker_list_laws.specs.Good.{IsListOver}
use Rattle.mta_worker_list_laws.specs.Histories.{AreEntries, TellsApdus, whole}
use Rattle.mta_worker_list_laws.specs.OfLinks.{AreOfWorker}
use Rattle.mta_worker_list_laws.specs.Parts.{AreForNone, AreOfRole, AreSessions, IsForNone, IsSession, plain}
use Rattle.mta_worker_list_laws.specs.Parts.{StandInTurn}
use Rattle.mta_worker_list_laws.specs.Segments.{AreAll, IsOne, OnLane, owned, Segment}

abbrev pub all_of : List (List Segment) → List Segment
all_of [] = []
all_of (ss ∷ more) = ss ++ all_of more

-- The parts of the sessions of one station: they are one behind the other, from this length of the history on.
pub record StationParts {L : Type 0} (links : LinkView L) (spells : List ℕ → Bool) (first entries : List Step)
    (from : ℕ) (ss : List Segment) : Type 0 where
  pub sessions : AreSessions links spells first entries ss
  pub role : Role
  pub of_role : AreOfRole links spells first entries role ss sessions
  pub upto : ℕ
  pub turns : StandInTurn links spells first entries from upto ss sessions

abbrev pub EachInTurn : {L : Type 0} (links : LinkView L) (spells : List ℕ → Bool) (first entries : List Step)
    (from : ℕ) → List (List Segment) → Type 0
EachInTurn links spells first entries from [] = Unit {0}
EachInTurn links spells first entries from (ss ∷ more) =
    StationParts links spells first entries from ss × EachInTurn links spells first entries from more

-- the roles of these stations, in their order
abbrev pub roles_at : {L : Type 0} (links : LinkView L) (spells : List ℕ → Bool) (first entries : List Step)
    (from : ℕ) (all : List (List Segment)) → EachInTurn links spells first entries from all → List Role
roles_at links spells first entries from [] each = []
roles_at links spells first entries from (ss ∷ more) each =
    each.0.role ∷ roles_at links spells first entries from more each.1

-- Each of these parts is of a session that ran over a link, or was made for none; no entry was made twice, and all are
-- from some on, each of which is in one of them.
pub record AllParts {L : Type 0} (links : LinkView L) (spells : List ℕ → Bool) (first entries : List Step)
    (low : ℕ) : Type 0 where
  pub parts : List Segment
  pub sessions : AreSessions links spells first entries parts
  pub all : AreAll (whole first entries) (length first) low parts
  pub later : (k : ℕ) → 0 < times k (owned parts) → low ≤ k
  pub each : (k : ℕ) → low ≤ k → k < length entries → 0 < times k (owned parts)
  -- those of one station stand one behind the other; some were made behind all stations
  pub by_station : List (List Segment)
  pub behind : List ℕ
  pub of_stations : parts ≡ plain behind ∷ all_of by_station
  pub turns : EachInTurn links spells first entries (length first + low) by_station

-- the roles of all stations
abbrev pub roles_of : {L : Type 0} {links : LinkView L} {spells : List ℕ → Bool} {first entries : List Step}
    {low : ℕ}
    → AllParts links spells first entries low → List Role
roles_of {links = links} {spells = spells} {first = first} {entries = entries} {low = low} all =
    roles_at links spells first entries (length first + low) all.by_station all.turns

-- So each step of a lane that is none of these that are made for no session was made for one.
abbrev pub StepsHaveSessions : {L : Type 0} → LinkView L → Type 0
StepsHaveSessions links =
    (spells : List ℕ → Bool) (first entries : List Step) (low : ℕ) (all : AllParts links spells first entries low)
    (k lane : ℕ) (step : SeenStep) → low ≤ k
    → slice_get (whole first entries) (length first + k) ≡ Some (On lane step)
    → (IsForNone (On lane step) → ⊥)
    → (s : Segment) × IsOne s all.parts × IsSession links spells first entries s × (0 < times k s.own)

-- A session that has this lane has a list, and one with what came of its last action. With the Abandons of other passes
-- that is a good one, for the lane's agreed values. Before a responder has its lane it puts Reject or Abort alone, and
-- each EndAck that the session puts behind is of an activity that was completed in the history, or before
-- the snapshot with which it begins.
pub record HasGoodList {L : Type 0} {links : LinkView L} {spells : List ℕ → Bool} {first entries : List Step}
    {s : Segment} (x : IsSession links spells first entries s) (lane : ℕ) : Type 0 where
  pub list : SessionList
  pub is_list : IsListOf spells (whole first entries) x.new x.calls lane list
  pub apart : PutsApart list.opening
  pub behind : (m : SessionList) × IsListOver x.calls list x.ran.done.over m
  pub kept : (m : SessionList) (k : ℕ) → IsListOver x.calls list x.ran.done.over m → HasPut (EndAck k) m.events
      → IsCompleted (whole first entries) lane k
  pub good : (m : SessionList) (size window : ℕ) → IsListOver x.calls list x.ran.done.over m
      → AreValues (whole first entries) lane size window
      → IsGoodSession spells (whole first entries) lane size window (is_initiator x.new.side)
      (completed (whole first entries) lane size window (is_initiator x.new.side) m)

-- A responder's session that has no lane puts Reject or Abort alone, and is told of no lane.
pub record HasNoLane {L : Type 0} {links : LinkView L} {spells : List ℕ → Bool} {first entries : List Step}
    {s : Segment} (x : IsSession links spells first entries s) : Type 0 where
  pub responds : is_initiator x.new.side ≡ false
  pub none : GiveNone x.calls
  pub apart : PutsApart (list_of action.Read x.calls ++ events_over x.ran.done.over)

abbrev pub IsGoodWhere : {L : Type 0} {links : LinkView L} {spells : List ℕ → Bool} {first entries : List Step}
    {s : Segment} → IsSession links spells first entries s → Option OnLane → Type 0
IsGoodWhere x None = HasNoLane x
IsGoodWhere x (Some on) = HasGoodList x on.lane

-- so it is of each session whose part is one of these
abbrev pub AreGood : {L : Type 0} (links : LinkView L) (spells : List ℕ → Bool) (first entries : List Step)
    → List Segment → Type 0
AreGood links spells first entries ss =
    (s : Segment) (x : IsSession links spells first entries s) → IsOne s ss → IsGoodWhere x s.list

module _ {D C L S : Type 0} (disks : DiskView D) (clocks : ClockView C) (links : LinkView L)
    (stations : StationView S) where
  -- What one worker did is known link by link, and these are its parts: all entries that it made.
  pub record IsOfStation (spells : List ℕ → Bool) (first entries : List Step) (limits : Limits) (j k : Job S)
      (ss : List Segment) : Type 0 where
    pub end : WorkerEnd
    pub end_is : k.end ≡ Some end
    pub did : HasWorked disks clocks links stations limits
        (record { station = j.station; pass = j.pass; sessions = 0; closed = 0 }) k.station k.pass end
    pub of_links : AreOfWorker disks clocks links stations spells first entries (stations.role j.station) did ss
    pub owns : k.pass.own ≡ owned ss

  -- so it is of each of these workers, of which the last one is the first here
  pub record AreOfStations (spells : List ℕ → Bool) (first entries : List Step) (limits : Limits)
      (dealt done : List (Job S)) (by_station : List (List Segment)) : Type 0 where
    pub turned : List (List Segment)
    pub order : reverse turned ≡ by_station
    pub each : (i : ℕ) (d : Job S) → i < length dealt
        → IsOfStation spells first entries limits (slice_index_or dealt i d) (slice_index_or done i d)
        (slice_index_or turned i [])

  -- All entries that workers made together are in such parts, behind those that stood before them. The stations are
  -- theirs. Behind the workers there may be entries that are made for no session.
  abbrev pub AllHaveParts : Type 0
  AllHaveParts =
      (spells : List ℕ → Bool) (first front entries back : List Step) (limits : Limits) (before after : List S)
      (ends : List WorkerEnd) (base : Base) → TellsApdus spells → AreEntries base first (entries ++ back)
      → AreForNone (whole first (entries ++ back)) (length first) (plain (row (length entries) (length back)))
      → (w : AreWorkers disks clocks links stations limits before after ends front base entries)
      → (all : AllParts links spells first (entries ++ back) (length front))
      × AreOfStations spells first (entries ++ back) limits w.dealt w.done all.by_station
      × (roles_of all ≡ map stations.role before)

  -- And the session lists of all that they served are good.
  abbrev pub AllAreGood : Type 0
  AllAreGood =
      (spells : List ℕ → Bool) (first front entries back : List Step) (limits : Limits) (before after : List S)
      (ends : List WorkerEnd) (base : Base) → TellsApdus spells → AreEntries base first (entries ++ back)
      → AreForNone (whole first (entries ++ back)) (length first) (plain (row (length entries) (length back)))
      → (w : AreWorkers disks clocks links stations limits before after ends front base entries)
      → (all : AllParts links spells first (entries ++ back) (length front))
      × AreOfStations spells first (entries ++ back) limits w.dealt w.done all.by_station
      × AreGood links spells first (entries ++ back) all.parts × (roles_of all ≡ map stations.role before)
