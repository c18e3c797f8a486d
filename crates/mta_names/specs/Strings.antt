-- Reading a string of characters and of a size, a number in a range, and a list.
use Rattle.std.specs.Prelude.{◌≡◌, ℕ, pos, Bool, true, List, [], ◌∷◌, ◌++◌, length}
use Rattle.std.specs.Prelude.{Result, Ok, if◌then◌else◌, not, unsigned_abs}
use Rattle.mta_ber.specs.declared.fault.Fault.{Fault}
use Rattle.mta_ber.specs.declared.fault.Kind.TheVariants.{BadTag, BadText, BadSize}
use Rattle.mta_ber.specs.declared.tag.Tag.{Tag}
use Rattle.mta_ber.specs.Element.{Part}
use Rattle.mta_ber.specs.Explicit.{Spells}
use Rattle.mta_ber.specs.Head.{◌>>=◌, fault}
use Rattle.mta_ber.specs.Int.{int_in, SpellsInteger}
use Rattle.mta_ber.specs.Strings.{joined, between}

-- a string of no known type, whose octets pass a test and whose size is in a range
unfoldable pub string_in : (List ℕ → Bool) → ℕ → ℕ → Part → Result (List ℕ) Fault
string_in good low high p =
    joined p >>= λ t.
    if not (good t) then fault p.at BadText
    else if not (between low high (length t)) then fault p.at BadSize
    else Ok t

-- an INTEGER of a range of numbers that are not below zero
unfoldable pub number_in : ℕ → ℕ → Part → Result ℕ Fault
number_in low high p = int_in p.at p.tag.constructed (pos low) (pos high) p.content >>= λ n. Ok (unsigned_abs n)

abbrev pub SpellsNumber : ℕ → ℕ → Bool → List ℕ → ℕ → Type 0
SpellsNumber low high constructed content n = SpellsInteger (pos low) (pos high) constructed content (pos n)

-- ---- lists: SEQUENCE OF and SET OF

-- one item more
abbrev pub item_step : {X : Type 0} → (Tag → Bool) → (Part → Result X Fault) → List X → Part
    → Result (List X) Fault
item_step is_item read xs p = if is_item p.tag then (read p >>= λ x. Ok (xs ++ x ∷ [])) else fault p.at BadTag

-- a list of so many items
abbrev pub counted : {X : Type 0} → ℕ → ℕ → ℕ → List X → Result (List X) Fault
counted at low high xs = if between low high (length xs) then Ok xs else fault at BadSize

-- what an item adds to a list
pub record AddsItem {X : Type 0} (is_item : Tag → Bool) (spells : Spells X) (depth : ℕ) (before : List X)
    (tag : Tag)
    (content octets : List ℕ) (after : List X) : Type 0 where
  pub is_item_tag : is_item tag ≡ true
  pub item : X
  pub spelled : spells depth tag content octets item
  pub after_is : after ≡ before ++ item ∷ []

-- ---- what a component puts into its place

pub record Puts {S A : Type 0} (spelled : A → Type 0) (put : A → S) (after : S) : Type 0 where
  pub value : A
  pub value_spelled : spelled value
  pub after_is : after ≡ put value
