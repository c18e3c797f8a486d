-- Which parts of the history are of which link of a station.
use Rattle.std.specs.Prelude.{◌≡◌, ℕ, Bool, List, [], ◌∷◌, ◌++◌, length, Option}
use mathlib.Core.List.{IsPrefix}
use Rattle.mta_edge.specs.Views.{ClockView, DiskView}
use Rattle.mta_links.specs.Links.{LinkView, StationView}
use Rattle.mta_links.specs.declared.role.Role.{Role}
use Rattle.mta_transfer_rules.specs.Lanes.{Seen}
use Rattle.mta_records.specs.declared.step.Step.{Step}
use Rattle.mta_session.specs.declared.limits.Limits.{Limits}
use Rattle.mta_shared.specs.Held.{Held}
use Rattle.mta_stations.specs.declared.end.Halt.{Halt}
use Rattle.mta_stations.specs.declared.end.WorkerEnd.{WorkerEnd}
use Rattle.mta_worker.specs.Working.{AllServed, AtStation, At_limit, Halted, HasWorked, No_link, Serves, Station_failed}
use Rattle.mta_worker_list_laws.specs.Histories.{AreEntries, TellsApdus, whole}
use Rattle.mta_worker_list_laws.specs.Linked.{IsRun}
use Rattle.mta_worker_list_laws.specs.Parts.{AreForNone, AreParts, LinkParts}
use Rattle.mta_worker_list_laws.specs.Segments.{owned, Segment}

-- each of these was made for no session
abbrev pub AllForNone : (history : List Seen) (before : ℕ) → List Segment → Type 0
AllForNone history n [] = Unit {0}
AllForNone history n (s ∷ ss) = AreForNone history n s × AllForNone history n ss

module _ {D C L S : Type 0} (disks : DiskView D) (clocks : ClockView C) (links : LinkView L)
    (stations : StationView S) (spells : List ℕ → Bool) (first entries : List Step) (theirs : Role) where
  -- The parts of one link: those of what was done with it, as one session if one began, and behind them those of what
  -- was due. They are all entries that the pass made then.
  pub record AreOfLink {limits : Limits} {x y : AtStation S} {halt : Option Halt}
      (s : Serves disks clocks links stations limits x y halt) (ss : List Segment) : Type 0 where
    pub role : stations.role s.given ≡ theirs
    pub run : IsRun links spells first entries theirs s.link s.left x.pass s.mid s.served
    pub parts : LinkParts run
    pub dues : List Segment
    pub none : AllForNone (whole first entries) (length first) dues
    pub are : ss ≡ parts.parts ++ dues
    pub owns : y.pass.own ≡ x.pass.own ++ owned ss

  -- one link behind the other
  abbrev pub AreOfLinks : (limits : Limits) (x : AtStation S) (zs : List (AtStation S)) (y : AtStation S)
      → AllServed disks clocks links stations limits x zs y → List Segment → Type 0
  AreOfLinks limits x [] y all ss = ss ≡ []
  AreOfLinks limits x (z ∷ zs) y all ss =
      (here : List Segment) × (more : List Segment) × (ss ≡ here ++ more) × AreOfLink all.0 here
      × AreOfLinks limits z zs y all.1 more

  -- all that a worker did
  abbrev pub AreOfWorker : {limits : Limits} {x : AtStation S} {last : S} {q : Held Step} {end : WorkerEnd}
      → HasWorked disks clocks links stations limits x last q end → List Segment → Type 0
  AreOfWorker {limits = limits} {x = x} (At_limit zs y all many at is) ss = AreOfLinks limits x zs y all ss
  AreOfWorker {limits = limits} {x = x} (No_link zs y all none is) ss = AreOfLinks limits x zs y all ss
  AreOfWorker {limits = limits} {x = x} (Station_failed zs y all rose same is) ss = AreOfLinks limits x zs y all ss
  AreOfWorker {limits = limits} {x = x} (Halted zs y z halt all s at is) ss =
      (before : List Segment) × (here : List Segment) × (ss ≡ before ++ here) × AreOfLinks limits x zs y all before
      × AreOfLink s here

module _ {D C L S : Type 0} (disks : DiskView D) (clocks : ClockView C) (links : LinkView L)
    (stations : StationView S) where
  -- All entries that a worker made are in such parts, in which those of each link stand behind those of the last one.
  abbrev pub WorkersHaveParts : Type 0
  WorkersHaveParts =
      (spells : List ℕ → Bool) (first entries : List Step) (limits : Limits) (x : AtStation S) (last : S)
      (q : Held Step) (end : WorkerEnd) → TellsApdus spells → AreEntries x.pass.base first entries
      → (did : HasWorked disks clocks links stations limits x last q end) → IsPrefix q.seen entries
      → (p : AreParts links spells first entries (stations.role x.station) x.pass q)
      × AreOfWorker disks clocks links stations spells first entries (stations.role x.station) did p.parts
