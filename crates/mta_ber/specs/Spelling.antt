-- Which octets spell an element, by cases (X.690): apart from reading and from writing.
use Rattle.std.specs.Prelude.{◌≡◌, ◌≢◌, ℕ, zero, suc, IfSome, IfNone, ◌+◌, ◌-◌, ◌<◌, ◌≤◌, ◌⊎◌, Bool, true, false}
use Rattle.std.specs.Prelude.{List, [], ◌∷◌, ◌++◌, length, take, drop, slice_index, Option, Some, None}
use Rattle.mta_ber.specs.declared.tag.Tag.{Tag}
use Rattle.mta_ber.specs.Head.{base}
use Rattle.mta_ber.specs.Canon.{class_octet}
use Rattle.mta_ber.specs.Element.{at_end, Part}
use Rattle.std.specs.List.{concat}

-- the last octet alone has its top bit clear
abbrev pub IsGroup : List ℕ → Type 0
IsGroup [] = ⊥
IsGroup (b ∷ []) = b < 128
IsGroup (b ∷ c ∷ bs) = (128 ≤ b) × IsGroup (c ∷ bs)

-- the octets of a high tag number: at most four, seven bits in each, not beginning with a zero digit
pub record IsHigh (n : ℕ) (octets : List ℕ) : Type 0 where
  pub group : IsGroup octets
  pub few : length octets ≤ 4
  pub no_zero : slice_index octets 0 ≢ 128
  pub value : n ≡ base 128 octets
  pub high : 31 ≤ n

pub record IsLowIdent (t : Tag) (octets : List ℕ) : Type 0 where
  pub low : t.number < 31
  pub octet : octets ≡ (class_octet t + t.number) ∷ []

pub record IsHighIdent (t : Tag) (octets : List ℕ) : Type 0 where
  pub number : List ℕ
  pub high : IsHigh t.number number
  pub octets_are : octets ≡ (class_octet t + 31) ∷ number

-- identifier octets
abbrev pub IsIdent : Tag → List ℕ → Type 0
IsIdent t octets = (t.class < 4) × (IsLowIdent t octets ⊎ IsHighIdent t octets)

pub record IsLongLength (n : ℕ) (octets : List ℕ) : Type 0 where
  pub digits : List ℕ
  pub some : 1 ≤ length digits
  pub few : length digits ≤ 8
  pub value : n ≡ base 256 digits
  pub octets_are : octets ≡ (128 + length digits) ∷ digits

-- the octets of a definite length
abbrev pub IsLength : ℕ → List ℕ → Type 0
IsLength n octets = ((n < 128) × (octets ≡ n ∷ [])) ⊎ IsLongLength n octets

-- length octets, definite or not
abbrev pub IsCount : Bool → Option ℕ → List ℕ → Type 0
IsCount constructed (Some n) octets = IsLength n octets
IsCount constructed None octets = (constructed ≡ true) × (octets ≡ 128 ∷ [])

-- identifier and length octets
pub record IsHeader (t : Tag) (count : Option ℕ) (octets : List ℕ) : Type 0 where
  pub ident : List ℕ
  pub lengths : List ℕ
  pub is_ident : IsIdent t ident
  pub is_count : IsCount t.constructed count lengths
  pub octets_are : octets ≡ ident ++ lengths

-- what ends a content: nothing, or two zero octets
abbrev pub ending : Bool → List ℕ
ending false = []
ending true = 0 ∷ 0 ∷ []

-- elements in a row; where two zero octets end the row, no element in it begins with them
abbrev pub IsRow : (List ℕ → Type 0) → Bool → List (List ℕ) → Type 0
IsRow P marked [] = Unit {0}
IsRow P marked (e ∷ es) = P e × (marked ≡ true → at_end true e ≡ false) × IsRow P marked es

pub record Row (P : List ℕ → Type 0) (marked : Bool) (content : List ℕ) : Type 0 where
  pub elements : List (List ℕ)
  pub each : IsRow P marked elements
  pub joined : content ≡ concat elements

-- a content behind a header: a definite one has the length that the header says, and where it is constructed it is a
-- row; an indefinite one is a row
abbrev pub IsContent : (List ℕ → Type 0) → Bool → Option ℕ → List ℕ → Type 0
IsContent P constructed (Some n) content = (n ≡ length content) × (constructed ≡ true → Row P false content)
IsContent P constructed None content = Row P true content

-- what follows the content of an element
abbrev pub ending_of : Option ℕ → List ℕ
ending_of (Some n) = []
ending_of None = ending true

-- the octets of one whole element, with `left` levels left for it and for what it holds
pub record Encloses (P : List ℕ → Type 0) (octets : List ℕ) : Type 0 where
  pub tag : Tag
  pub count : Option ℕ
  pub header : List ℕ
  pub content : List ℕ
  pub is_header : IsHeader tag count header
  pub is_content : IsContent P tag.constructed count content
  pub octets_are : octets ≡ header ++ (content ++ ending_of count)

abbrev pub Whole : ℕ → List ℕ → Type 0
Whole zero octets = ⊥
Whole (suc left) octets = Encloses (Whole left) octets

-- an element of the level `depth` as it is lent: its header is sound, and where its length is indefinite, all that is
-- in it
pub record Stands (depth : ℕ) (t : Tag) (content octets : List ℕ) : Type 0 where
  pub count : Option ℕ
  pub header : List ℕ
  pub is_header : IsHeader t count header
  pub shallow : depth ≤ 16
  pub definite : IfSome count (λ n. n ≡ length content)
  pub indefinite : IfNone count (Row (Whole (16 - depth)) true content)
  pub octets_are : octets ≡ header ++ (content ++ ending_of count)

-- a part that was read stands there
pub record Standing (at depth : ℕ) (p : Part) (bytes : List ℕ) : Type 0 where
  pub stands : Stands depth p.tag p.content p.octets
  pub octets_are : bytes ≡ p.octets ++ p.rest
  pub at_is : p.at ≡ at
  pub depth_is : p.depth ≡ depth
  pub start_is : p.start ≡ at + length stands.header

-- what is lent is the slice of the octets at its place
pub record IsLentAt (at : ℕ) (p : Part) (bytes : List ℕ) : Type 0 where
  pub content : p.content ≡ take (length p.content) (drop (p.start - at) bytes)
  pub rest : p.rest ≡ drop (length bytes - length p.rest) bytes
  pub octets : p.octets ≡ take (length p.octets) bytes

abbrev pub NoSpellingBeginsAnother : Type 0
NoSpellingBeginsAnother = (depth : ℕ) (t t' : Tag) (c c' e e' x y : List ℕ) → Stands depth t c e
    → Stands depth t' c' e'
    → e ++ x ≡ e' ++ y → (e ≡ e') × (t ≡ t') × (c ≡ c')
