-- What a standby's disk holds, as it reads and in what a crash leaves. An image is the octets that a crash leaves.
use Rattle.std.specs.Prelude.{◌≡◌, ℕ, suc, ◌≤◌, ◌<◌, List, length, take}
use Rattle.mta_edge.specs.Views.{DiskView}
use Rattle.mta_links.specs.Links.{LinkView}
use Rattle.mta_journal.specs.Bodies.{HasSecondArea, StandsFor}
use Rattle.mta_follow_units.specs.Units.{record_units}
use Rattle.mta_follow_run.specs.Fronts.{IsFront}
use Rattle.mta_follow_run.specs.Talks.{Talks, kept_units}

-- the octets begin with the units of these records
abbrev pub Bring : List ℕ → List (List ℕ) → Type 0
Bring octets bodies = IsFront (record_units bodies) octets

-- The bodies are those that were kept before; or these, and behind them some of the next records of what came, in
-- order, none skipped and none in part.
pub data Follows (kept : List (List ℕ)) (octets : List ℕ) (bodies : List (List ℕ)) : Type 0 where
  as_before : bodies ≡ kept → Follows kept octets bodies
  and_more : IsFront kept bodies → Bring octets bodies → Follows kept octets bodies

-- An image of the standby: its bodies follow those that the disk `f` had before. It has them in the second of two areas
-- only where that disk had, and then as it had them.
pub record IsCopy (f : List ℕ) (kept : List (List ℕ)) (octets image : List ℕ) : Type 0 where
  pub bodies : List (List ℕ)
  pub stands : StandsFor image bodies
  pub follows : Follows kept octets bodies
  pub second : HasSecondArea image → HasSecondArea f × (bodies ≡ kept)

-- the image has these bodies, and maybe more behind them
pub record HasFirst (bodies : List (List ℕ)) (image : List ℕ) : Type 0 where
  pub all : List (List ℕ)
  pub stands : StandsFor image all
  pub front : IsFront bodies all

-- Since the moment at which the disk was `first` a crash leaves such a copy.
pub record CopiesSince {D : Type 0} (disks : DiskView D) (f : List ℕ) (kept : List (List ℕ)) (octets : List ℕ)
    (first now : D) : Type 0 where
  pub until : disks.moment first ≤ disks.moment now
  pub each : (g : List ℕ) → disks.left_since now (disks.moment first) g → IsCopy f kept octets g

-- The record behind so many is kept from a moment of the session on. Then the disk was `mid`, and the link was `link`:
-- it had given the records up to this one, and had taken that those before it are kept, and not an octet more. Behind
-- that it went on to `last`, and since then a crash leaves this record, with all before it.
pub record IsKeptFrom {D L : Type 0} (disks : DiskView D) (links : LinkView L) (got : List (List ℕ)) (begun last : L)
    (now : D) (count : ℕ) : Type 0 where
  pub mid : D
  pub link : L
  pub until : disks.moment mid ≤ disks.moment now
  pub so_far : Talks links (record_units (take (suc count) got)) (kept_units count) begun link
  pub came : List ℕ
  pub gone : List ℕ
  pub behind : Talks links came gone link last
  pub stays : (g : List ℕ) → disks.left_since now (disks.moment mid) g → HasFirst (take (suc count) got) g

-- so are all of these
abbrev pub AreKept : {D L : Type 0} → DiskView D → LinkView L → List (List ℕ) → L → L → D → Type 0
AreKept disks links got begun last now = (count : ℕ) → count < length got
    → IsKeptFrom disks links got begun last now count

-- Where records came, of which these bodies were kept before, the disk holds those; or what came goes beyond them, and
-- it holds all that came.
pub data IsUpTo (kept got bodies : List (List ℕ)) : Type 0 where
  within : bodies ≡ kept → IsFront got kept → IsUpTo kept got bodies
  beyond : bodies ≡ got → IsFront kept got → IsUpTo kept got bodies
