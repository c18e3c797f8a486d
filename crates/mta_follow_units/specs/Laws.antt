-- Laws of streams of units.
use Rattle.std.specs.Prelude.{◌≡◌, ◌≢◌, ℕ, ◌≤◌, ◌<◌, ◌^◌, List, ◌++◌, length}
use Rattle.mta_ber.specs.Octet.{IsOctets}
use Rattle.mta_follow_units.specs.declared.due.Due.{Due}
use Rattle.mta_follow_units.specs.declared.due.Due.TheVariants as due
use Rattle.mta_follow_units.specs.Units.{BeginsNumber, BeginsRecord, IsBad, IsCut, done_unit, done_kind, kept_unit}
use Rattle.mta_follow_units.specs.Units.{kept_kind, most, number_due, record_unit}
use Rattle.mta_follow_units.specs.Look.{Look, Bad, Cut, Done, Kept, Record, look}

-- a unit stands here, where this is due and was seen
abbrev pub Stands : Due → Look → List ℕ → Type 0
Stands d Cut octets = IsCut d octets
Stands d Bad octets = IsBad d octets
Stands (due.Record got) (Record body) octets = BeginsRecord got body octets
Stands (due.Record got) Done octets = BeginsNumber done_kind got octets
Stands (due.Record got) Kept octets = ⊥
Stands (due.Kept number) (Record body) octets = ⊥
Stands (due.Kept number) Done octets = ⊥
Stands (due.Kept number) Kept octets = BeginsNumber kept_kind number octets

-- so it does, and nothing stands behind it
abbrev pub StandsAlone : Due → Look → List ℕ → Type 0
StandsAlone d Cut octets = IsCut d octets
StandsAlone d Bad octets = IsBad d octets
StandsAlone (due.Record got) (Record body) octets = (length body ≤ most got) × (octets ≡ record_unit body)
StandsAlone (due.Record got) Done octets = octets ≡ done_unit got
StandsAlone (due.Record got) Kept octets = ⊥
StandsAlone (due.Kept number) (Record body) octets = ⊥
StandsAlone (due.Kept number) Done octets = ⊥
StandsAlone (due.Kept number) Kept octets = octets ≡ kept_unit number

-- what is seen stands there, and nothing else
pub record LooksAreExact : Type 0 where
  pub found : (d : Due) (octets : List ℕ) → IsOctets octets → Stands d (look d octets) octets
  pub only : (d : Due) (octets : List ℕ) (seen : Look) → number_due d < 2 ^ 64 → Stands d seen octets
      → look d octets ≡ seen

-- what is seen once it is no longer cut off is seen whatever follows
abbrev pub LooksDoNotChange : Type 0
LooksDoNotChange = (d : Due) (front more : List ℕ) → look d front ≢ Cut
    → look d (front ++ more) ≡ look d front

-- a unit that is put is read again
pub record UnitsAreReadAgain : Type 0 where
  pub records : (got : ℕ) (body more : List ℕ) → length body ≤ most got
      → look (due.Record got) (record_unit body ++ more) ≡ Record body
  pub done : (got : ℕ) (more : List ℕ) → got < 2 ^ 64 → look (due.Record got) (done_unit got ++ more) ≡ Done
  pub kept : (number : ℕ) (more : List ℕ) → number < 2 ^ 64
      → look (due.Kept number) (kept_unit number ++ more) ≡ Kept
