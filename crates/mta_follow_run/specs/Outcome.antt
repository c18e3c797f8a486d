-- What comes of a run before anything is printed.
use Rattle.std.specs.Prelude.{◌≡◌, ℕ, List, ◌++◌, take, Result, Err}
use Rattle.mta_edge.specs.Causes.{Rose}
use Rattle.mta_edge.specs.Views.{DiskView}
use Rattle.mta_links.specs.Links.{LinkView, StationView}
use Rattle.mta_journal.specs.Shown.{Shown}
use Rattle.mta_follow_units.specs.Units.{record_units}
use Rattle.mta_follow_run.specs.Opened.{IsNoSpool, IsNoStandby, IsSpool, IsStandby}
use Rattle.mta_follow_run.specs.Pulling.{Pulls}
use Rattle.mta_follow_run.specs.Pushing.{Pushes}
use Rattle.mta_follow_run.specs.Talks.{HasNoLink, HasServed, kept_units}
use Rattle.mta_follow_run.specs.declared.stop.Stop.{Stop}
use Rattle.mta_follow_run.specs.declared.stop.Stop.TheVariants as Stops

-- ---- over the next link of a station

-- a standby's side: the station has no link, or its link is over
pub data PullsOver {D L S : Type 0} (disks : DiskView D) (links : LinkView L) (stations : StationView S)
    (kept : List (List ℕ)) (old new : Shown D) (station after : S) (count : ℕ) : Result Unit Stop → Type 0 where
  pull_no_link : new ≡ old → count ≡ 0 → HasNoLink stations station after
      → PullsOver disks links stations kept old new station after count (Err Stops.Broken)
  pull_over : (begun link : L) (ended : Result Unit Stop)
      → (p : Pulls disks links kept old new begun link count ended)
      → HasServed stations (record_units p.got ++ p.rest) p.put station after
      → PullsOver disks links stations kept old new station after count ended

-- the spool's side
pub data PushesOver {L S : Type 0} (links : LinkView L) (stations : StationView S) (bodies : List (List ℕ))
    (station after : S) : Result ℕ Stop → Type 0 where
  push_no_link : HasNoLink stations station after → PushesOver links stations bodies station after (Err Stops.Broken)
  push_over : (begun link : L) (result : Result ℕ Stop) → (p : Pushes links bodies begun link result)
      → HasServed stations (kept_units p.count ++ p.rest) (record_units (take p.count bodies) ++ p.piece) station
      after
      → PushesOver links stations bodies station after result

-- ---- over the disk too

-- the objects before a run and behind it; the models say what they tell of themselves
pub record Handed (D L S : Type 0) : Type 1 where
  pub words : List (List ℕ)
  pub disks : DiskView D
  pub links : LinkView L
  pub stations : StationView S
  pub disk : D
  pub disk_after : D
  pub station : S
  pub station_after : S

abbrev pub handed : {D L S : Type 0} → List (List ℕ) → DiskView D → LinkView L → StationView S → D → D
    → S → S
    → Handed D L S
handed words disks links stations disk disk_after station station_after = record {
  words = words;
  disks = disks;
  links = links;
  stations = stations;
  disk = disk;
  disk_after = disk_after;
  station = station;
  station_after = station_after;
}

module _ {D L S : Type 0} (h : Handed D L S) where
  abbrev pub DiskFailed : Type 0
  DiskFailed = Rose (h.disks.faults h.disk) (h.disks.faults h.disk_after)

-- What comes of following: the standby's disk was refused, and the station is not called; or it was opened, and the
-- records came over a link.
pub data Follow {D L S : Type 0} (h : Handed D L S) (count : ℕ) : Result Unit Stop → Type 0 where
  not_opened : (stop : Stop) → IsNoStandby h.disks h.disk h.disk_after stop → count ≡ 0
      → h.station_after ≡ h.station → Follow h count (Err stop)
  followed : (kept : List (List ℕ)) (opened closed : Shown D) (ended : Result Unit Stop)
      → IsStandby h.disks h.disk opened kept → closed.disk ≡ h.disk_after
      → PullsOver h.disks h.links h.stations kept opened closed h.station h.station_after count ended
      → Follow h count ended

-- What comes of pushing.
pub data Push {D L S : Type 0} (h : Handed D L S) : Result ℕ Stop → Type 0 where
  not_pushed : (stop : Stop) → IsNoSpool h.disks h.disk h.disk_after stop → h.station_after ≡ h.station
      → Push h (Err stop)
  was_pushed : (bodies : List (List ℕ)) (result : Result ℕ Stop) → IsSpool h.disks h.disk h.disk_after bodies
      → PushesOver h.links h.stations bodies h.station h.station_after result → Push h result
