-- What the sessions were that the workers of `serve` served.
use Rattle.std.specs.Prelude.{◌≡◌, ℕ, List, map}
use Rattle.mta_edge.specs.Views.{ClockView, DiskView}
use Rattle.mta_links.specs.Links.{LinkView, StationView}
use Rattle.mta_records.specs.declared.step.Step.{Step}
use Rattle.mta_session.specs.declared.limits.Limits.{Limits}
use Rattle.mta_worker.specs.declared.jobs.Job.{Job}
use Rattle.mta_worker_list_laws.specs.Agreeing.{PartsAgree}
use Rattle.mta_worker_list_laws.specs.All.{AllParts, AreGood, AreOfStations, roles_of}
use Rattle.mta_worker_list_laws.specs.Histories.{is_apdu}
use Rattle.mta_lane_list_laws.specs.Called.{CalledLanesAgree}
use Rattle.mta_lane_list_laws.specs.Lanes.{LanesAgree}

-- The entries behind so many of these, which the workers and the run behind them made, are in parts of the history, one
-- for each session or for none, and no entry is in two. The parts of a station are those of its links, one link behind
-- the other, each with the session over that link, and they have all entries that the station's pass made. Each session
-- that had a lane has a good list, and each EndAck in it has its Complete step in the history; one that had none puts
-- Reject or Abort alone. In each world that has such lists of a lane, in the order of the history's steps, the two ends
-- of that lane agree. Where one station had all sessions of a lane, their lists, in the order in which they were
-- served, have those steps in that order. So it is of each lane that this agent opened.
pub record SessionsServed {D C L S : Type 0} (disks : DiskView D) (clocks : ClockView C) (links : LinkView L)
    (stations : StationView S) (limits : Limits) (before : List S) (dealt done : List (Job S))
    (first entries : List Step) (low : ℕ) : Type 0 where
  pub parts : AllParts links is_apdu first entries low
  pub roles : roles_of parts ≡ map stations.role before
  pub of_links : AreOfStations disks clocks links stations is_apdu first entries limits dealt done parts.by_station
  pub good : AreGood links is_apdu first entries parts.parts
  pub agree : PartsAgree links is_apdu first entries parts.parts
  pub lanes : LanesAgree links is_apdu first entries low parts
  pub called : CalledLanesAgree links is_apdu first entries low parts
