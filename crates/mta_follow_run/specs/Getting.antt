-- What getting a unit over a link leaves.
use Rattle.std.specs.Prelude.{◌≡◌, ◌≢◌, ℕ, ◌<◌, Bool, true, false, List, [], ◌++◌, length}
use Rattle.mta_links.specs.Links.{LinkView}
use Rattle.mta_follow_units.specs.declared.due.Due.{Due}
use Rattle.mta_follow_units.specs.Feed.{Feed}
use Rattle.mta_follow_units.specs.Look.{Cut, look}
use Rattle.mta_follow_units.specs.Units.{IsCut}
use Rattle.mta_follow_run.specs.Talks.{IsOver, Talks}

-- these octets came, and are fed
pub record Feeds {L : Type 0} (links : LinkView L) (piece : List ℕ) (old : L) (fed : Feed) (new : L) (now : Feed)
    : Type 0 where
  pub talks : Talks links piece [] old new
  pub at : now.at ≡ fed.at
  pub left : now.left ≡ fed.left ++ piece

-- some octets came, or no more come
pub data Moves {L : Type 0} (links : LinkView L) : Bool → L → Feed → L → Feed → Type 0 where
  moved : (old : L) (fed : Feed) (new : L) (now : Feed) (piece : List ℕ) → Feeds links piece old fed new now
      → 0 < length piece → Moves links true old fed new now
  ended : (old : L) (fed : Feed) (new : L) (now : Feed) → Feeds links [] old fed new now → IsOver links old new
      → Moves links false old fed new now

-- All octets that came are fed.
pub record HasFed {L : Type 0} (links : LinkView L) (old : L) (fed : Feed) (new : L) (now : Feed) : Type 0 where
  pub piece : List ℕ
  pub feeds : Feeds links piece old fed new now

-- Octets came until the unit that is due was told, or no more came.
pub record Gets {L : Type 0} (links : LinkView L) (d : Due) (told : Bool) (old : L) (fed : Feed) (new : L) (now : Feed)
    : Type 0 where
  pub piece : List ℕ
  pub feeds : Feeds links piece old fed new now
  pub whole : told ≡ true → look d now.left ≢ Cut
  pub over : told ≡ false → IsCut d now.left × IsOver links old new
