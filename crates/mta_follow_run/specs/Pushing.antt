-- What the spool's side of a session leaves.
use Rattle.std.specs.Prelude.{◌≡◌, ℕ, ◌+◌, ◌≤◌, List, [], ◌++◌, length, take}
use Rattle.std.specs.Prelude.{Result, Ok, Err}
use Rattle.mta_links.specs.Links.{LinkView}
use Rattle.mta_follow_units.specs.declared.due.Due.TheVariants as due
use Rattle.mta_follow_units.specs.Feed.{Feed}
use Rattle.mta_follow_units.specs.Units.{IsBad, IsCut, done_unit, kept_unit, record_unit, record_units}
use Rattle.mta_follow_run.specs.Fronts.{IsFront}
use Rattle.mta_follow_run.specs.Getting.{Feeds}
use Rattle.mta_follow_run.specs.Taking.{StandsBehind}
use Rattle.mta_follow_run.specs.Talks.{IsOver, LinkFailed, Talks, kept_units}
use Rattle.mta_follow_run.specs.declared.stop.Stop.{Stop}
use Rattle.mta_follow_run.specs.declared.stop.Stop.TheVariants as Stops

-- so many of these records were put, and each was told kept before the next was put
pub record IsPushing {L : Type 0} (links : LinkView L) (bodies : List (List ℕ)) (begun link : L) (feed : Feed)
    (count : ℕ) : Type 0 where
  pub within : count ≤ length bodies
  pub talks : Talks links (kept_units count) (record_units (take count bodies)) begun link
  pub feed_at : feed.at ≡ length (kept_units count)
  pub feed_left : feed.left ≡ []

-- What waiting for the word that a record is kept leaves: it came, which is taken; or why it did not, with what came.
pub data Waits {L : Type 0} (links : LinkView L) (number : ℕ) (old : L) (fed : Feed) (new : L) (now : Feed)
    : Result Unit Stop → Type 0 where
  waits_kept : Talks links (kept_unit number) [] old new → now.at ≡ fed.at + length (kept_unit number)
      → now.left ≡ []
      → Waits links number old fed new now (Ok tt)
  waits_broken : (rest : List ℕ) → Talks links rest [] old new → IsCut (due.Kept number) rest
      → IsOver links old new
      → Waits links number old fed new now (Err Stops.Broken)
  waits_bad : (rest : List ℕ) → Talks links rest [] old new → IsBad (due.Kept number) rest
      → Waits links number old fed new now (Err (Stops.BadUnit fed.at))
  waits_short : (rest : List ℕ) → Feeds links rest old fed new now
      → Waits links number old fed new now (Err Stops.Memory)

-- What pushing one record leaves: it was put, and what waiting leaves; or a front of it was put, and the link failed.
pub data PushesOne {L : Type 0} (links : LinkView L) (number : ℕ) (body : List ℕ) (old : L) (fed : Feed) (new : L)
    (now : Feed) : Result Unit Stop → Type 0 where
  one_put : (mid : L) (result : Result Unit Stop) → Talks links [] (record_unit body) old mid
      → Waits links number mid fed new now result → PushesOne links number body old fed new now result
  one_unput : (piece : List ℕ) → IsFront piece (record_unit body) → Talks links [] piece old new
      → LinkFailed links old new → PushesOne links number body old fed new now (Err Stops.Broken)

-- Why it ended behind so many records that were put and told kept, with what was put and what came behind them.
pub data PushEnds {L : Type 0} (links : LinkView L) (bodies : List (List ℕ)) (count : ℕ) (rest piece : List ℕ)
    (begun link : L) : Result ℕ Stop → Type 0 where
  -- these are all, and so it was told
  push_done : count ≡ length bodies → rest ≡ [] → piece ≡ done_unit count
      → PushEnds links bodies count rest piece begun link (Ok count)
  -- the link failed while the next one was put, or that these were all
  push_unput : (body : List ℕ) → StandsBehind count body bodies → rest ≡ [] → IsFront piece (record_unit body)
      → LinkFailed links begun link → PushEnds links bodies count rest piece begun link (Err Stops.Broken)
  push_undone : count ≡ length bodies → rest ≡ [] → IsFront piece (done_unit count)
      → LinkFailed links begun link
      → PushEnds links bodies count rest piece begun link (Err Stops.Broken)
  -- the next one was put, and not told kept: no more came, or another unit than that
  push_broken : (body : List ℕ) → StandsBehind count body bodies → piece ≡ record_unit body
      → IsCut (due.Kept (count + 1)) rest → IsOver links begun link
      → PushEnds links bodies count rest piece begun link (Err Stops.Broken)
  push_bad : (body : List ℕ) → StandsBehind count body bodies → piece ≡ record_unit body
      → IsBad (due.Kept (count + 1)) rest
      → PushEnds links bodies count rest piece begun link (Err (Stops.BadUnit (length (kept_units count))))
  push_short : PushEnds links bodies count rest piece begun link (Err Stops.Memory)

-- What the spool's side of a session leaves of the link.
pub record Pushes {L : Type 0} (links : LinkView L) (bodies : List (List ℕ)) (begun link : L)
    (result : Result ℕ Stop)
    : Type 0 where
  pub count : ℕ
  pub rest : List ℕ
  pub piece : List ℕ
  pub within : count ≤ length bodies
  pub talks : Talks links (kept_units count ++ rest) (record_units (take count bodies) ++ piece) begun link
  pub ends : PushEnds links bodies count rest piece begun link result
