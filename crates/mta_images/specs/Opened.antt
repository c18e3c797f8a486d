-- With which history a spool goes on that is opened on a disk.
--
-- A journal that has grown past its use is compacted: one snapshot takes the place of its records, where the first
-- of two areas is current and the journal is at least halved. Behind that the format is set, where the history has
-- an older one.
use Rattle.std.specs.Prelude.{◌≡◌, ℕ, ◌+◌, ◌<◌, ◌==◌, Bool, true, false, List, [], ◌∷◌, ◌++◌, map, if◌then◌else◌}
use Rattle.mta_journal.specs.Appending.{journal_limit}
use Rattle.mta_journal.specs.Bodies.{need_of, HasBodiesAt}
use Rattle.mta_records.specs.Body.{body_of}
use Rattle.mta_records.specs.declared.step.Step.{Step}
use Rattle.mta_records.specs.declared.step.Step.TheVariants.{Format}
use Rattle.mta_histories.specs.Compact.{base, opened, IsLeftOf}
use Rattle.mta_histories.specs.History.{after}
use Rattle.mta_images.specs.Image.{size_of, StandsFor, HasSize}

-- the first of two areas has the bodies of this history, and is current
abbrev pub IsInFirst : List ℕ → List Step → Type 0
IsInFirst image found = HasBodiesAt 23 (map body_of found) image

-- What decides whether the history of an image is compacted: whether the first of two areas is current, and the octets
-- of the journal then.
pub data IsWeighed (image : List ℕ) (found : List Step) (first_of_two : Bool) (size : ℕ) : Type 0 where
  in_first : IsInFirst image found → first_of_two ≡ true → size ≡ size_of 23 found
      → IsWeighed image found first_of_two size
  elsewhere : (IsInFirst image found → ⊥) → first_of_two ≡ false → size ≡ 0
      → IsWeighed image found first_of_two size

-- the image stands for this history, and this decides whether it is compacted
pub record IsFound (image : List ℕ) (found : List Step) : Type 0 where
  pub stands : StandsFor image found
  pub first_of_two : Bool
  pub size : ℕ
  pub weighed : IsWeighed image found first_of_two size

-- the history before the format is set
abbrev pub base_of : {image : List ℕ} {found : List Step} → IsFound image found → List Step
base_of {found = found} is = base is.first_of_two is.size found

-- A spool that is opened on a disk of this image, which stands for the first history, goes on with the second one.
pub record Opens (image : List ℕ) (found goes_on : List Step) : Type 0 where
  pub is : IsFound image found
  pub goes_on_is : goes_on ≡ opened is.first_of_two is.size found

-- A crash while it is opened may leave this history: as it was, compacted, or that and the format.
pub record OpeningLeaves (image : List ℕ) (found left : List Step) : Type 0 where
  pub is : IsFound image found
  pub left_is : IsLeftOf is.first_of_two is.size found left

-- The other image stands for a history that opening the first one may leave.
pub record IsLeftByOpening (image other : List ℕ) : Type 0 where
  pub found : List Step
  pub left : List Step
  pub leaves : OpeningLeaves image found left
  pub stands : StandsFor other left

-- The format does not fit behind what it is to be set in: the journal has so many octets then, and the record
-- needs so many.
pub record IsFullForFormat (image : List ℕ) (size need : ℕ) : Type 0 where
  pub found : List Step
  pub is : IsFound image found
  pub older : (after found).machine.format == 2 ≡ false
  pub used : HasSize image (base_of is) (λ used. size ≡ used)
  pub need_is : need ≡ need_of (body_of (Format 2))
  pub over : journal_limit < size + need

-- each image that stands for a history is gone on with in one
abbrev pub EachIsOpened : Type 0
EachIsOpened = (image : List ℕ) (found : List Step) → StandsFor image found → (goes_on : List Step)
    × Opens image found goes_on

-- and in one only
abbrev pub OneOpening : Type 0
OneOpening =
    (image : List ℕ) (found other goes_on goes_on' : List Step) → Opens image found goes_on
    → Opens image other goes_on'
    → (found ≡ other) × (goes_on ≡ goes_on')

-- with which it goes on may be left
abbrev pub OpenedIsLeft : Type 0
OpenedIsLeft = (image : List ℕ) (found goes_on : List Step) → Opens image found goes_on
    → OpeningLeaves image found goes_on

-- and so may the history as it was
abbrev pub FoundIsLeft : Type 0
FoundIsLeft = (image : List ℕ) (found : List Step) → IsFound image found → OpeningLeaves image found found
