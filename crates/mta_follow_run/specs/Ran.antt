-- What a run of the program leaves.
use Rattle.std.specs.Prelude.{◌≡◌, ◌≢◌, ◌⊎◌, ℕ, suc, ◌+◌, ◌≤◌, ◌<◌, List, [], ◌++◌, length, map, Some, Result, Ok}
use Rattle.mta_edge.specs.Views.{DiskView, WhereTold}
use Rattle.mta_journal.specs.Appending.{journal_limit}
use Rattle.mta_journal.specs.Bodies.{HasBodiesAt, StandsFor, need_of, records}
use Rattle.mta_journal.specs.Faults.{IsNoJournalAt}
use Rattle.mta_journal.specs.Opening.{IsSynced}
use Rattle.mta_records.specs.Body.{body_of}
use Rattle.mta_records.specs.declared.step.Step.{Step}
use Rattle.mta_images.specs.Image.{NoSpoolAt, StandsFor as StandsForHistory}
use Rattle.mta_images.specs.Opened.{IsFullForFormat, Opens}
use Rattle.mta_follow_units.specs.declared.due.Due.{Due}
use Rattle.mta_follow_units.specs.declared.due.Due.TheVariants as due
use Rattle.mta_follow_units.specs.Units.{IsBad, IsCut, done_unit, record_unit, record_units}
use Rattle.mta_follow_run.specs.Copies.{Bring, HasFirst, IsCopy, IsKeptFrom}
use Rattle.mta_follow_run.specs.Fronts.{IsFront}
use Rattle.mta_follow_run.specs.Opened.{SpoolLeft}
use Rattle.mta_follow_run.specs.Outcome.{DiskFailed, Follow, Handed, Push}
use Rattle.mta_output.specs.Output.{HasPrinted, Output, OutputFailed, Prints}
use Rattle.mta_follow_run.specs.Stops.{kept_text, line_of, pushed_text, status_by}
use Rattle.mta_follow_run.specs.Taking.{IsNoRecord, IsRecord, StandsBehind}
use Rattle.mta_follow_run.specs.Talks.{HasNoLink, HasServed, IsAtEnd, IsOver, LinkFailed, Talks, kept_units}
use Rattle.mta_follow_run.specs.Words.{AskNothing, Pull, Push as AskPush, Says}
use Rattle.mta_follow_run.specs.declared.stop.Stop.{Stop}
use Rattle.mta_follow_run.specs.declared.stop.Stop.TheVariants as Stops

-- What becomes of the objects, and what is printed.
pub data HasRun {D L S : Type 0} (h : Handed D L S) (out : Output) (status : ℕ) : Type 0 where
  run_unasked : AskNothing h.words → h.disk_after ≡ h.disk → h.station_after ≡ h.station
      → HasPrinted (line_of Stops.Usage) 1 out status → HasRun h out status
  run_pulled : (port count : ℕ) (ended : Result Unit Stop) → Says h.words (Pull port) → Follow h count ended
      → HasPrinted (kept_text count ended) (status_by ended) out status → HasRun h out status
  run_pushed : (host : List ℕ) (port : ℕ) (result : Result ℕ Stop) → Says h.words (AskPush host port)
      → Push h result
      → HasPrinted (pushed_text result) (status_by result) out status → HasRun h out status

-- ---- of `pull`

-- The record behind so many of those that came is kept from a moment of the session on, at which the link had taken
-- that those before it are kept, and not an octet more.
pub record StaysKept {D L S : Type 0} (h : Handed D L S) (octets put : List ℕ) (count : ℕ) : Type 0 where
  pub got : List (List ℕ)
  pub brought : Bring octets got
  pub within : count < length got
  pub begun : L
  pub last : L
  pub session : Talks h.links octets put begun last
  pub kept : IsKeptFrom h.disks h.links got begun last h.disk_after count

-- What a crash leaves: where the first sync of the call failed, and no link was asked for, what one before might have
-- left; since that sync, over which the disk was `first`, images with P.
pub data Leaves {D : Type 0} (disks : DiskView D) (P : List ℕ → Type 0) (octets : List ℕ)
    (old new : D) : Type 0 where
  leaves_unsynced : octets ≡ [] →
      ((g : List ℕ) → disks.left_since new (disks.moment old) g → disks.may_leave old g)
      → Leaves disks P octets old new
  leaves_synced : (first : D) → IsSynced disks old first → disks.moment first ≤ disks.moment new
      → ((g : List ℕ) → disks.left_since new (disks.moment first) g → P g) → Leaves disks P octets old new

-- these octets came over the next link of the station, and those were put; or it gave none
pub data Carried {D L S : Type 0} (h : Handed D L S) (octets put : List ℕ) : Type 0 where
  carried_none : octets ≡ [] → put ≡ []
      → (h.station_after ≡ h.station) ⊎ HasNoLink h.stations h.station h.station_after → Carried h octets put
  carried_served : HasServed h.stations octets put h.station h.station_after → Carried h octets put

-- What `pull` leaves of a disk that held these bodies, where these octets came.
pub record LeavesCopy {D L S : Type 0} (h : Handed D L S) (f : List ℕ) (kept : List (List ℕ)) : Type 0 where
  pub octets : List ℕ
  pub put : List ℕ
  pub carried : Carried h octets put
  pub copies : Leaves h.disks (IsCopy f kept octets) octets h.disk h.disk_after
  pub reads : WhereTold h.disks h.disk_after (IsCopy f kept octets)
  -- each record of which the link has taken that it is kept is there from then on
  pub kept_on : (count : ℕ) → IsFront (kept_units (suc count)) put → StaysKept h octets put count

-- what `push` puts of a history
abbrev pub units_of : List Step → List ℕ
units_of steps = record_units (map body_of steps) ++ done_unit (length steps)

-- the image stands for a beginning of this history
pub record StandsForFront (whole : List Step) (image : List ℕ) : Type 0 where
  pub steps : List Step
  pub front : IsFront steps whole
  pub stands : StandsForHistory image steps

-- Where what came is a beginning of what `push` puts of this history, a crash leaves a beginning of it.
pub record LeavesFront {D L S : Type 0} (h : Handed D L S) (whole : List Step) : Type 0 where
  pub octets : List ℕ
  pub put : List ℕ
  pub carried : Carried h octets put
  pub fronts : IsFront octets (units_of whole)
      → Leaves h.disks (StandsForFront whole) octets h.disk h.disk_after

-- with status 0 the number came of all records, each is told kept, and the disk holds them
pub record HoldsAll {D L S : Type 0} (h : Handed D L S) (out : Output) : Type 0 where
  pub got : List (List ℕ)
  pub served : HasServed h.stations (record_units got ++ done_unit (length got)) (kept_units (length got)) h.station
      h.station_after
  pub reads : WhereTold h.disks h.disk (λ f. WhereTold h.disks h.disk_after (λ g. StandsFor g got))
  pub printed : Prints out (kept_text {T = Unit} (length got) (Ok tt))

-- With status 15 there was no link; or it failed; or all that it gave was read, which ends within a unit, and the disk
-- holds each whole record of it.
pub data EndsEarly {D L S : Type 0} (h : Handed D L S) : Type 0 where
  early_no_link : HasNoLink h.stations h.station h.station_after → EndsEarly h
  early_failed : (begun link : L) (octets put : List ℕ) → Talks h.links octets put begun link
      → HasServed h.stations octets put h.station h.station_after → LinkFailed h.links begun link → EndsEarly h
  early_read : (begun link : L) (got : List (List ℕ)) (rest put : List ℕ)
      → Talks h.links (record_units got ++ rest) put begun link
      → HasServed h.stations (record_units got ++ rest) put h.station h.station_after → IsAtEnd h.links link
      → IsCut (due.Record (length got)) rest
      → WhereTold h.disks h.disk (λ f. WhereTold h.disks h.disk_after (HasFirst got)) → EndsEarly h

-- what the words `pull PORT` leave
pub record TellsPull {D L S : Type 0} (h : Handed D L S) (out : Output) (status : ℕ) : Type 0 where
  pub copy : (f : List ℕ) (kept : List (List ℕ)) → h.disks.content h.disk ≡ Some f → StandsFor f kept
      → LeavesCopy h f kept
  pub history : (f spool : List ℕ) (steps whole : List Step) → h.disks.content h.disk ≡ Some f
      → StandsForHistory f steps → StandsForHistory spool whole → IsFront steps whole → LeavesFront h whole
  pub all : status ≡ 0 → HoldsAll h out
  pub early : status ≡ 15 → EndsEarly h
  -- a disk that is no journal is as it was
  pub other : (f : List ℕ) → h.disks.content h.disk ≡ Some f
      → ((kept : List (List ℕ)) → StandsFor f kept → ⊥)
      → h.disks.content h.disk_after ≡ Some f

-- ---- of `push`

-- with status 0 the link took all records of the spool that was opened, and their number, and each was told kept
pub record PutsAll {D L S : Type 0} (h : Handed D L S) (out : Output) (f : List ℕ) : Type 0 where
  pub found : List Step
  pub steps : List Step
  pub opens : Opens f found steps
  pub served : HasServed h.stations (kept_units (length steps)) (units_of steps) h.station h.station_after
  pub reads : WhereTold h.disks h.disk_after (λ g. StandsForHistory g steps)
  pub printed : Prints out (pushed_text (Ok (length steps)))

-- what the words `push HOST PORT` leave
pub record TellsPush {D L S : Type 0} (h : Handed D L S) (out : Output) (status : ℕ) : Type 0 where
  pub left : SpoolLeft h.disks h.disk h.disk_after
  pub all : status ≡ 0 → WhereTold h.disks h.disk (λ f. PutsAll h out f)

-- ---- what a status tells

-- The next record that came does not fit behind the octets of the journal, which holds all that came before it.
pub record DoesNotFit {D L S : Type 0} (h : Handed D L S) (size : ℕ) : Type 0 where
  pub got : List (List ℕ)
  pub body : List ℕ
  pub put : List ℕ
  pub served : HasServed h.stations (record_units got ++ record_unit body) put h.station h.station_after
  pub step : IsRecord body
  pub gate : ℕ
  pub holds : WhereTold h.disks h.disk (λ f. WhereTold h.disks h.disk_after (HasBodiesAt gate got))
  pub size_is : size ≡ gate + length (records got) + 1
  pub over : journal_limit < size + need_of body

-- The record that came behind so many is another than the one kept, or these were all by their number, and more are
-- kept.
pub data Differs (kept got : List (List ℕ)) (rest : List ℕ) : Type 0 where
  differs_there : (body own : List ℕ) → rest ≡ record_unit body → StandsBehind (length got) own kept
      → own ≢ body
      → Differs kept got rest
  differs_behind : rest ≡ done_unit (length got) → length got < length kept → Differs kept got rest

pub record Diverges {D L S : Type 0} (h : Handed D L S) : Type 0 where
  pub kept : List (List ℕ)
  pub got : List (List ℕ)
  pub rest : List ℕ
  pub put : List ℕ
  pub stands : WhereTold h.disks h.disk (λ f. StandsFor f kept)
  pub served : HasServed h.stations (record_units got ++ rest) put h.station h.station_after
  pub differs : Differs kept got rest

-- the unit that came behind these octets is none that was due, or that of a record which is none
pub data IsNotDue (rest : List ℕ) : Type 0 where
  not_unit : (d : Due) → IsBad d rest → IsNotDue rest
  not_record : (body : List ℕ) → rest ≡ record_unit body → IsNoRecord body → IsNotDue rest

pub record HasBadUnit {D L S : Type 0} (h : Handed D L S) : Type 0 where
  pub octets : List ℕ
  pub rest : List ℕ
  pub put : List ℕ
  pub served : HasServed h.stations (octets ++ rest) put h.station h.station_after
  pub bad : IsNotDue rest

-- the next link of the station is over: it failed, or its input was read to its end
pub record HasEnded {D L S : Type 0} (h : Handed D L S) : Type 0 where
  pub begun : L
  pub link : L
  pub octets : List ℕ
  pub put : List ℕ
  pub talks : Talks h.links octets put begun link
  pub served : HasServed h.stations octets put h.station h.station_after
  pub over : IsOver h.links begun link

-- Why there is this status. Want of memory, 7, is free.
pub data Tells {D L S : Type 0} (h : Handed D L S) (out : Output) : ℕ → Type 0 where
  tells_all : Tells h out 0
  tells_usage : AskNothing h.words → Tells h out 1
  tells_no_journal : (at port : ℕ) → Says h.words (Pull port)
      → WhereTold h.disks h.disk (λ f. IsNoJournalAt f at)
      → Tells h out 3
  tells_no_spool : (at : ℕ) (host : List ℕ) (port : ℕ) → Says h.words (AskPush host port)
      → WhereTold h.disks h.disk (λ f. NoSpoolAt f at) → Tells h out 3
  tells_disk : DiskFailed h → Tells h out 4
  tells_no_format : (size need : ℕ) (host : List ℕ) (port : ℕ) → Says h.words (AskPush host port)
      → WhereTold h.disks h.disk (λ f. IsFullForFormat f size need) → Tells h out 5
  tells_full : (size : ℕ) → DoesNotFit h size → Tells h out 5
  tells_short : Tells h out 7
  tells_output : OutputFailed out → Tells h out 9
  tells_no_link : HasNoLink h.stations h.station h.station_after → Tells h out 15
  tells_broken : HasEnded h → Tells h out 15
  tells_diverged : Diverges h → Tells h out 16
  tells_bad : HasBadUnit h → Tells h out 17

-- Words that ask for nothing: 1, but for a fault of the output, and nothing is called.
pub record TellsUsage {D L S : Type 0} (h : Handed D L S) (out : Output) (status : ℕ) : Type 0 where
  pub usage : status ≡ 1 → AskNothing h.words
  pub usage_where : AskNothing h.words → (status ≡ 1) ⊎ ((status ≡ 9) × OutputFailed out)
  pub untouched : AskNothing h.words → (h.disk_after ≡ h.disk) × (h.station_after ≡ h.station)

-- what the words call for is told
pub record TellsAll {D L S : Type 0} (h : Handed D L S) (out : Output) (status : ℕ) : Type 0 where
  pub usage : TellsUsage h out status
  pub pull : (port : ℕ) → Says h.words (Pull port) → TellsPull h out status
  pub push : (host : List ℕ) (port : ℕ) → Says h.words (AskPush host port) → TellsPush h out status
  pub cause : Tells h out status
