-- What a crash may leave of a disk in memory, and the image that a choice picks.
use Rattle.std.specs.Prelude.{ℕ, zero, suc, ◌/◌, ◌≤◌, ◌≡◌, ◌⊎◌, List, [], ◌∷◌, length, take, Some}
use Rattle.mta_edge.specs.Views.{DiskView}
use Rattle.mta_edge.specs.Outside.{Torn}
use Rattle.mta_edge.specs.Crashes.{Crash, CutShort}
use Rattle.mta_edge.specs.Tears.{tear_of, torn_write, torn_cut}
use Rattle.mta_edge.specs.Held.{HeldDisk}
use Rattle.mta_edge.specs.declared.log.Called.{Called}
use Rattle.mta_edge.specs.declared.log.Done.{Done}
use Rattle.mta_edge.specs.declared.log.Done.TheVariants.{Look, Write, Cut, Sync}

-- what a call leaves of the images before it, where a read gave `before`
abbrev pub after_call : (List ℕ → Type 0) → List ℕ → Done → List ℕ → Type 0
after_call images before Look g = images g
after_call images before (Write at octets) g = (f : List ℕ) × images f × Torn at (length octets) f g
after_call images before (Cut size) g = (f : List ℕ) × images f × CutShort size f g
after_call images before Sync g = g ≡ before

-- What the calls leave of the images before them. Before each call what a read gives is one of the images too.
unfoldable pub after_calls : (List ℕ → Type 0) → List Called → List ℕ → Type 0
after_calls images [] g = images g
after_calls images (call ∷ log) g =
    after_calls (after_call (λ f. images f ⊎ (f ≡ call.before)) call.before call.done) log g

-- what a crash may leave behind these calls, where a read gives `now`
abbrev pub MayLeave : List Called → List ℕ → List ℕ → Type 0
MayLeave log now g = after_calls (λ f. ⊥) log g ⊎ (g ≡ now)

-- what a read gave behind the first k calls
unfoldable pub seen_at : List Called → ℕ → List ℕ → List ℕ
seen_at [] k now = now
seen_at (call ∷ log) zero now = call.before
seen_at (call ∷ log) (suc k) now = seen_at log k now

-- what a crash behind the first k calls might have left
abbrev pub LeftAt : HeldDisk → ℕ → List ℕ → Type 0
LeftAt d k g = MayLeave (take k d.log) (seen_at d.log k d.octets) g

-- a crash at some moment since t might have left it
pub record LeftSince (d : HeldDisk) (t : ℕ) (g : List ℕ) : Type 0 where
  pub calls : ℕ
  pub from : t ≤ calls
  pub until : calls ≤ length d.log
  pub image : LeftAt d calls g

-- what a disk in memory tells of itself; a moment is the number of calls so far
abbrev pub memory_disk : DiskView HeldDisk
memory_disk = record {
  content = λ d. Some d.octets;
  faults = λ d. d.faults;
  moment = λ d. length d.log;
  may_leave = λ d g. MayLeave d.log d.octets g;
  left_since = LeftSince;
}

-- how a call goes on from the calls before it
abbrev pub MemoryCrash : (List ℕ → List ℕ → Type 0) → HeldDisk → HeldDisk → Type 0
MemoryCrash step old new = Crash memory_disk step old new

-- the image behind a call; its digit is the last one of `rest`
abbrev pub image_after : List ℕ → Done → ℕ → List ℕ → List ℕ
image_after before Look rest f = f
image_after before (Write at octets) rest f = torn_write (tear_of rest) at octets f
image_after before (Cut size) rest f = torn_cut (tear_of rest) size f
image_after before Sync rest f = before

-- Each write and each cut uses up a digit, and a sync begins the choice again.
abbrev pub rest_after : ℕ → Done → ℕ → ℕ
rest_after choice Look rest = rest
rest_after choice (Write at octets) rest = rest / 8
rest_after choice (Cut size) rest = rest / 8
rest_after choice Sync rest = choice

unfoldable pub image_from : ℕ → List Called → ℕ → List ℕ → List ℕ
image_from choice [] rest f = f
image_from choice (call ∷ log) rest f =
    image_from choice log (rest_after choice call.done rest) (image_after call.before call.done rest f)

-- The image of a crash behind the first k calls that a choice picks. The digits of the choice, the last one first, say
-- how each write and each cut since the last sync is torn.
abbrev pub image_of : HeldDisk → ℕ → ℕ → List ℕ
image_of d k choice = image_from choice (take k d.log) choice (seen_at d.log 0 d.octets)
