-- What a standby's side of a session leaves.
use Rattle.std.specs.Prelude.{◌≡◌, ◌≢◌, ℕ, ◌+◌, ◌-◌, ◌^◌, ◌≤◌, ◌<◌, List, [], ◌++◌, length}
use Rattle.std.specs.Prelude.{Bool, true, false, IsOk, Result, Ok, Err}
use Rattle.mta_edge.specs.Causes.{Rose}
use Rattle.mta_edge.specs.Crashes.{AtAnyMoment}
use Rattle.mta_edge.specs.Views.{DiskView, StaysTold, WhereTold}
use Rattle.mta_links.specs.Links.{LinkView}
use Rattle.mta_journal.specs.Appending.{journal_limit}
use Rattle.mta_journal.specs.Bodies.{HasSecondArea, StandsFor, need_of}
use Rattle.mta_journal.specs.Shown.{Holds, IsPlain, Shown}
use Rattle.mta_follow_units.specs.declared.due.Due.TheVariants as due
use Rattle.mta_follow_units.specs.Feed.{Feed}
use Rattle.mta_follow_units.specs.Units.{IsBad, IsCut, done_unit, kept_unit, record_unit, record_units}
use Rattle.mta_follow_run.specs.Copies.{AreKept, Follows, IsUpTo}
use Rattle.mta_follow_run.specs.Fronts.{IsFront}
use Rattle.mta_follow_run.specs.Getting.{Feeds}
use Rattle.mta_follow_run.specs.Taking.{IsNoRecord, IsRecord, MayKeep, StandsBehind, Takes}
use Rattle.mta_follow_run.specs.Talks.{IsOver, LinkFailed, Talks, kept_units}
use Rattle.mta_follow_run.specs.declared.pull.Round.{Round}
use Rattle.mta_follow_run.specs.declared.pull.Round.TheVariants as RoundCases
use Rattle.mta_follow_run.specs.declared.stop.Stop.{Stop}
use Rattle.mta_follow_run.specs.declared.stop.Stop.TheVariants as Stops

-- the image stands for bodies that follow those that were kept, and not in the second of two areas
pub record IsFollowed (kept : List (List ℕ)) (octets image : List ℕ) : Type 0 where
  pub bodies : List (List ℕ)
  pub stands : StandsFor image bodies
  pub follows : Follows kept octets bodies
  pub plain : HasSecondArea image → ⊥

-- What getting and keeping the next record needs: the journal may be appended to, and what follows is its first record
-- where it has none.
pub record IsPullingNow {D L : Type 0} (disks : DiskView D) (links : LinkView L) (kept : List (List ℕ))
    (journal : Shown D) (link : L) (feed : Feed) (count : ℕ) : Type 0 where
  pub left : feed.left ≡ []
  pub plain : IsPlain journal.first
  pub short : length kept ≤ count → MayKeep journal count

-- What came of the next unit, behind so many records: it was taken, or why it was not.
pub data NextOf {D L : Type 0} (disks : DiskView D) (links : LinkView L) (kept : List (List ℕ)) (old : Shown D)
    (begun : L) (fed : Feed) (count : ℕ) (new : Shown D) (link : L) (now : Feed) : Result Bool Stop → Type 0 where
  next_taken : (octets : List ℕ) (result : Result Bool Stop) → Talks links octets [] begun link
      → Takes disks kept count fed.at octets old new result
      → (IsOk result → (now.at ≡ fed.at + length octets) × (now.left ≡ []))
      → NextOf disks links kept old begun fed count new link now result
  next_broken : (octets : List ℕ) → Talks links octets [] begun link → IsCut (due.Record count) octets
      → IsOver links begun link → new ≡ old
      → NextOf disks links kept old begun fed count new link now (Err Stops.Broken)
  next_short : (octets : List ℕ) → Feeds links octets begun fed link now → new ≡ old
      → NextOf disks links kept old begun fed count new link now (Err Stops.Memory)

-- What saying that the record of this number is kept leaves: it was put, or a front of it, and the link failed.
pub data Says {L : Type 0} (links : LinkView L) (number : ℕ) (old new : L) : Round → Type 0 where
  said : Talks links [] (kept_unit number) old new → Says links number old new RoundCases.Kept
  unsaid : (piece : List ℕ) → IsFront piece (kept_unit number) → Talks links [] piece old new
      → LinkFailed links old new
      → Says links number old new (RoundCases.Ended (record { kept = number; ended = Err Stops.Broken }))

-- What comes of a round behind so many records.
pub data Rounds {D L : Type 0} (disks : DiskView D) (links : LinkView L) (kept : List (List ℕ)) (old : Shown D)
    (begun : L) (fed : Feed) (count : ℕ) (new : Shown D) (link : L) (now : Feed) : Round → Type 0 where
  round_one : (mid : L) (round : Round) → count + 1 < 2 ^ 64
      → NextOf disks links kept old begun fed count new mid now (Ok true) → Says links (count + 1) mid link round
      → Rounds disks links kept old begun fed count new link now round
  round_done : NextOf disks links kept old begun fed count new link now (Ok false)
      → Rounds disks links kept old begun fed count new link now
      (RoundCases.Ended (record { kept = count; ended = Ok tt }))
  round_none : (stop : Stop) → NextOf disks links kept old begun fed count new link now (Err stop)
      → Rounds disks links kept old begun fed count new link now
      (RoundCases.Ended (record { kept = count; ended = Err stop }))
  round_over : new ≡ old → link ≡ begun → Rounds disks links kept old begun fed count new link now
      (RoundCases.Ended (record { kept = count; ended = Err Stops.Memory }))

-- so many records were told kept, or all but the last, of whose unit a front was taken
pub data IsSaid (count : ℕ) (put : List ℕ) : Type 0 where
  said_all : put ≡ kept_units count → IsSaid count put
  said_cut : (piece : List ℕ) → 0 < count → put ≡ kept_units (count - 1) ++ piece
      → IsFront piece (kept_unit count)
      → IsSaid count put

-- Why a standby's side of a session ended behind these records, with what came behind them.
pub data PullEnds {D L : Type 0} (disks : DiskView D) (links : LinkView L) (kept got : List (List ℕ))
    (rest put : List ℕ) (old new : D) (size : ℕ) (begun link : L) : Result Unit Stop → Type 0 where
  -- these were all, by their number, and no more are kept
  ends_done : rest ≡ done_unit (length got) → length kept ≤ length got → put ≡ kept_units (length got)
      → PullEnds disks links kept got rest put old new size begun link (Ok tt)
  -- by their number these were all, but more are kept
  ends_more : rest ≡ done_unit (length got) → length got < length kept
      → PullEnds disks links kept got rest put old new size begun link (Err (Stops.Diverged (length got)))
  -- the next one is not the one that is kept
  ends_differs : (body own : List ℕ) → rest ≡ record_unit body → StandsBehind (length got) own kept
      → own ≢ body
      → PullEnds disks links kept got rest put old new size begun link (Err (Stops.Diverged (length got + 1)))
  -- the next unit is none that was due, or that of a record which is none
  ends_bad : IsBad (due.Record (length got)) rest
      → PullEnds disks links kept got rest put old new size begun link
      (Err (Stops.BadUnit (length (record_units got))))
  ends_none : (body : List ℕ) → rest ≡ record_unit body → length kept ≤ length got → IsNoRecord body
      → PullEnds disks links kept got rest put old new size begun link
      (Err (Stops.BadUnit (length (record_units got))))
  -- no more came, within a unit or behind one
  ends_broken : IsCut (due.Record (length got)) rest → IsOver links begun link
      → PullEnds disks links kept got rest put old new size begun link (Err Stops.Broken)
  -- the link failed while it was told that the last one is kept
  ends_unsaid : rest ≡ [] → LinkFailed links begun link
      → PullEnds disks links kept got rest put old new size begun link (Err Stops.Broken)
  -- the next one does not fit
  ends_full : (body : List ℕ) (need : ℕ) → rest ≡ record_unit body → length kept ≤ length got
      → IsRecord body
      → need ≡ need_of body → journal_limit < size + need
      → PullEnds disks links kept got rest put old new size begun link (Err (Stops.Full size need))
  -- the disk failed while the next one was appended
  ends_failed : (body : List ℕ) → rest ≡ record_unit body → length kept ≤ length got → IsRecord body
      → Rose (disks.faults old) (disks.faults new)
      → PullEnds disks links kept got rest put old new size begun link (Err Stops.Disk)
  ends_short : PullEnds disks links kept got rest put old new size begun link (Err Stops.Memory)

-- What a standby's side of a session leaves of the journal and of the link, where so many records came that are kept.
pub record Pulls {D L : Type 0} (disks : DiskView D) (links : LinkView L) (kept : List (List ℕ)) (old new : Shown D)
    (begun link : L) (count : ℕ) (ended : Result Unit Stop) : Type 0 where
  -- what came, and what is kept of it
  pub got : List (List ℕ)
  pub rest : List ℕ
  pub put : List ℕ
  pub count_is : count ≡ length got
  pub talks : Talks links (record_units got ++ rest) put begun link
  pub said : IsSaid (length got) put
  -- while the disk does not fail the journal holds it
  pub holds : (ended ≡ Err Stops.Disk → ⊥) → (bodies : List (List ℕ)) × IsUpTo kept got bodies
      × Holds disks new bodies
  -- a crash leaves what was kept, and some of what came
  pub told : StaysTold disks old.disk new.disk
  pub later : disks.faults old.disk ≤ disks.faults new.disk
  pub images : WhereTold disks old.disk
      (λ f. AtAnyMoment disks (IsFollowed kept (record_units got ++ rest)) old.disk new.disk)
  pub each : WhereTold disks old.disk (λ f. AreKept disks links got begun link new.disk)
  -- why it ended
  pub ends : PullEnds disks links kept got rest put old.disk new.disk new.size begun link ended
