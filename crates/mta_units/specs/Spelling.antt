-- Which octets spell a unit, built from the values, and what a stream of units that is not at its end shows: apart from
-- reading.
use Rattle.std.specs.Prelude.{◌≡◌, ℕ, ◌^◌, ◌<◌, ◌≤◌, ◌⊎◌, true, List, [], ◌∷◌, ◌++◌, length}
use Rattle.mta_ber.specs.declared.tag.Tag.{Tag}
use Rattle.mta_ber.specs.Element.{outermost}
use Rattle.mta_ber.specs.Parts.{is_tag}
use Rattle.mta_ber.specs.Strings.{own_number}
use Rattle.mta_ber.specs.Segmented.{SpellsOctets}
use Rattle.mta_ber.specs.Spelling.{Stands}
use Rattle.mta_ber.specs.Explicit.{Spells}
use Rattle.mta_rtse.specs.declared.types.OpenRequest.{OpenRequest}
use Rattle.mta_rtse.specs.declared.types.Answer.{Answer}
use Rattle.mta_rtse.specs.Spelling.{SpellsNumber, SpellsWord, SpellsReference, SpellsRtorq}
use Rattle.mta_rtse.specs.Spelling.{SpellsRtoac, SpellsRtorj, SpellsRtab}
use Rattle.mta_units.specs.declared.front.BadUnit.{BadUnit}
use Rattle.mta_units.specs.declared.front.BadUnit.TheVariants as bad
use Rattle.mta_units.specs.declared.kind.UnitKind.{UnitKind}
use Rattle.mta_units.specs.declared.unit.Unit.{Unit as AnyUnit}
use Rattle.mta_units.specs.declared.unit.Unit.TheVariants as unit
use Rattle.mta_units.specs.declared.unit.OpenUnit.{OpenUnit}
use Rattle.mta_units.specs.Kind.{kind_number}
use Rattle.mta_units.specs.Front.{longest_body}
use Rattle.mta_units.specs.Canon.{kind_of, number_octets, IsFaultNumber}

-- ---- bodies

-- an element of an outermost level, and what follows it
pub record SpellsFirst {A : Type 0} (spells : Spells A) (octets : List ℕ) (v : A) (rest : List ℕ) : Type 0 where
  pub tag : Tag
  pub content : List ℕ
  pub element : List ℕ
  pub stands : Stands (outermost tag) tag content element
  pub spelled : spells (outermost tag) tag content element v
  pub octets_are : octets ≡ element ++ rest

abbrev pub SpellsOnly : {A : Type 0} → Spells A → List ℕ → A → Type 0
SpellsOnly spells octets v = SpellsFirst spells octets v []

-- an element of a tag
pub record Tagged {A : Type 0} (class number : ℕ) (spells : Spells A) (depth : ℕ) (tag : Tag)
    (content octets : List ℕ)
    (v : A) : Type 0 where
  pub is_tag_of : is_tag class number tag ≡ true
  pub spelled : spells depth tag content octets v

abbrev pub SpellsString : Spells (List ℕ)
SpellsString depth tag content octets o = SpellsOctets (own_number tag) depth tag.constructed content o

-- RTTR: OCTET STRING, and RTTP: INTEGER (X.228)
abbrev pub SpellsRttr : Spells (List ℕ)
SpellsRttr = Tagged 0 4 SpellsString

abbrev pub SpellsRttp : Spells ℕ
SpellsRttp = Tagged 0 2 SpellsNumber

-- what RTORQ says of the association
abbrev pub request_part : OpenUnit → OpenRequest
request_part o = record { checkpoint = o.checkpoint; window = o.window; twa = o.twa; request = o.request }

-- a name, IA5String, a reference, SEQUENCE, and RTORQ
pub record SpellsOpen (body : List ℕ) (o : OpenUnit) : Type 0 where
  pub behind_name : List ℕ
  pub behind_reference : List ℕ
  pub name : SpellsFirst (Tagged 0 22 SpellsWord) body o.name behind_name
  pub reference : SpellsFirst (Tagged 0 16 SpellsReference) behind_name o.reference behind_reference
  pub request : SpellsOnly SpellsRtorq behind_reference (request_part o)

pub record SpellsAccept (body : List ℕ) (checkpoint window : ℕ) (answer : Answer) : Type 0 where
  pub spelled : SpellsOnly SpellsRtoac body (record { checkpoint = checkpoint; window = window; answer = answer })

-- a number below 2 ^ 32 in four octets
pub record IsNumber (n : ℕ) (octets : List ℕ) : Type 0 where
  pub small : n < 2 ^ 32
  pub octets_are : octets ≡ number_octets n

pub record IsPair (n m : ℕ) (octets : List ℕ) : Type 0 where
  pub first_small : n < 2 ^ 32
  pub second_small : m < 2 ^ 32
  pub octets_are : octets ≡ number_octets n ++ number_octets m

-- the number of a kind of fault, and a number
pub record IsException (k n : ℕ) (octets : List ℕ) : Type 0 where
  pub is_fault : IsFaultNumber k
  pub small : n < 2 ^ 32
  pub octets_are : octets ≡ k ∷ number_octets n

abbrev pub SpellsBody : AnyUnit → List ℕ → Type 0
SpellsBody (unit.Open o) body = SpellsOpen body o
SpellsBody (unit.Accept checkpoint window answer) body = SpellsAccept body checkpoint window answer
SpellsBody (unit.Reject reason) body = SpellsOnly SpellsRtorj body reason
SpellsBody (unit.Start activity) body = IsNumber activity body
SpellsBody (unit.Piece octets) body = SpellsOnly SpellsRttr body octets
SpellsBody (unit.Sync number) body = IsNumber number body
SpellsBody (unit.SyncAck number) body = IsNumber number body
SpellsBody (unit.End activity) body = IsNumber activity body
SpellsBody (unit.EndAck activity) body = IsNumber activity body
SpellsBody (unit.Resume activity number) body = IsPair activity number body
SpellsBody (unit.ResumeAck activity number) body = IsPair activity number body
SpellsBody (unit.Discard activity) body = IsNumber activity body
SpellsBody (unit.DiscardAck activity) body = IsNumber activity body
SpellsBody (unit.Please priority) body = SpellsOnly SpellsRttp body priority
SpellsBody unit.Give body = body ≡ []
SpellsBody (unit.Exception k at) body = IsException k at body
SpellsBody (unit.Abort reason) body = SpellsOnly SpellsRtab body reason
SpellsBody unit.Close body = body ≡ []
SpellsBody unit.CloseAck body = body ≡ []

-- ---- units

-- the octets in front of a body
abbrev pub framed : UnitKind → List ℕ → List ℕ → List ℕ
framed kind body rest = number_octets (length body) ++ kind_number kind ∷ (body ++ rest)

pub record SpellsUnit (u : AnyUnit) (octets : List ℕ) : Type 0 where
  pub body : List ℕ
  pub spelled : SpellsBody u body
  pub short : length body ≤ longest_body
  pub octets_are : octets ≡ framed (kind_of u) body []

-- units one behind the other
abbrev pub SpellsUnits : List AnyUnit → List ℕ → Type 0
SpellsUnits [] octets = octets ≡ []
SpellsUnits (u ∷ us) octets = (first : List ℕ) × (rest : List ℕ) × SpellsUnit u first
    × (octets ≡ first ++ rest)
    × SpellsUnits us rest

-- ---- what is no unit

-- a length above the limit
pub record HasLongBody (octets : List ℕ) : Type 0 where
  pub size : ℕ
  pub rest : List ℕ
  pub fits : size < 2 ^ 32
  pub long : longest_body < size
  pub octets_are : octets ≡ number_octets size ++ rest

-- a kind octet that is no kind's
pub record HasNoKind (octets : List ℕ) : Type 0 where
  pub size : ℕ
  pub octet : ℕ
  pub rest : List ℕ
  pub short : size ≤ longest_body
  pub none : (kind : UnitKind) → kind_number kind ≡ octet → ⊥
  pub octets_are : octets ≡ number_octets size ++ octet ∷ rest

-- a whole body that no unit of its kind has
pub record HasNoUnit (octets : List ℕ) : Type 0 where
  pub kind : UnitKind
  pub body : List ℕ
  pub rest : List ℕ
  pub short : length body ≤ longest_body
  pub none : (u : AnyUnit) → kind_of u ≡ kind → SpellsBody u body → ⊥
  pub octets_are : octets ≡ framed kind body rest

abbrev pub HasFault : BadUnit → List ℕ → Type 0
HasFault bad.Length octets = HasLongBody octets
HasFault bad.Kind octets = HasNoKind octets
HasFault bad.Body octets = HasNoUnit octets

-- a length, and fewer octets than it says behind the kind, or no kind yet
pub record IsCutBody (octets : List ℕ) : Type 0 where
  pub size : ℕ
  pub rest : List ℕ
  pub short : size ≤ longest_body
  pub octets_are : octets ≡ number_octets size ++ rest
  pub cut : (rest ≡ []) ⊎ ((kind : UnitKind) × (body : List ℕ) × (rest ≡ kind_number kind ∷ body)
      × (length body < size))

-- too few octets for a whole unit, and no fault yet
abbrev pub IsCutOff : List ℕ → Type 0
IsCutOff octets = (length octets < 4) ⊎ IsCutBody octets
