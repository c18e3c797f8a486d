-- Laws of names and octets: what is written is read again, whatever follows it, and no spelling begins another.
use Rattle.std.specs.Prelude.{◌≡◌, ℕ, ◌+◌, ◌<◌, ◌≤◌, ◌^◌, Bool, true, List, ◌++◌, length, IfSome, Result}
use Rattle.mta_ber.specs.declared.fault.Fault.{Fault}
use Rattle.mta_ber.specs.declared.tag.Tag.{Tag}
use Rattle.mta_ber.specs.Canon.{IsTag, element, constructed}
use Rattle.mta_ber.specs.Element.{Part, part}
use Rattle.mta_ber.specs.Head.{◌>>=◌}
use Rattle.mta_ber.specs.Laws.{with_rest, beside}
use Rattle.mta_ber.specs.Parts.{is_tag}
use Rattle.mta_ber.specs.Spelling.{Stands}
use Rattle.mta_names.specs.declared.attributes.Attributes.{Attributes}
use Rattle.mta_names.specs.declared.attributes.ExtraFields.{ExtraFields}
use Rattle.mta_names.specs.declared.attributes.Label.{Label}
use Rattle.mta_names.specs.declared.attributes.PairFields.{PairFields}
use Rattle.mta_names.specs.declared.attributes.PersonFields.{PersonFields}
use Rattle.mta_names.specs.declared.extension.ExtensionParts.{ExtensionParts}
use Rattle.mta_names.specs.Extensions.{extensions_in, canonical_extensions, extension_count, SpellsExtensions}
use Rattle.mta_names.specs.Labels.{country_in, label_in, label_choice, canonical_choice, canonical_label, SpellsLabel}
use Rattle.mta_names.specs.Lists.{units_in, pairs_in, canonical_units, canonical_pairs, SpellsUnits, SpellsPairs}
use Rattle.mta_names.specs.Names.{name_in, canonical_name, SpellsName}
use Rattle.mta_names.specs.Persons.{person_in, canonical_person, SpellsPerson}
use Rattle.mta_names.specs.Standard.{standard_in, canonical_standard, SpellsStandard}
use Rattle.mta_names.specs.Values.{Each, IsCountry, IsLabel, IsPerson, IsPair, IsExtra, IsName, nothing}
use Rattle.mta_ber.specs.Strings.{IsText}
use Rattle.mta_ber.specs.declared.text.TextClass.TheVariants.{Printable}

-- octets that are written in a level, whatever stands before and behind them, are read as the value; a length has at
-- most eight octets
abbrev pub IsReadAgain : {A : Type 0} → (Part → Result A Fault) → ℕ → List ℕ → A → Type 0
IsReadAgain read depth octets v = length octets < 2 ^ 64 → (at : ℕ) (more : List ℕ)
    → (part at depth (octets ++ more) >>= with_rest read) ≡ beside v more

-- octets that spell a value in a level
pub record IsSpelling {A : Type 0} (spells : ℕ → Bool → List ℕ → A → Type 0) (depth : ℕ)
    (octets : List ℕ)
    (v : A) : Type 0 where
  pub tag : Tag
  pub content : List ℕ
  pub stands : Stands depth tag content octets
  pub spelled : spells depth tag.constructed content v

-- where octets begin with a spelling, they begin with no other, and it is the spelling of one value
abbrev pub NoneBeginsAnother : {A : Type 0} → (ℕ → Bool → List ℕ → A → Type 0) → Type 0
NoneBeginsAnother {A} spells = (depth : ℕ) (e e' x y : List ℕ) (v w : A) → IsSpelling spells depth e v
    → IsSpelling spells depth e' w → e ++ x ≡ e' ++ y → (e ≡ e') × (v ≡ w)

-- ---- what is kept unread

-- the whole octets of one element of a tag in a level. An element of a definite length stands in every level that may
-- be; in one of an indefinite length the elements inside count too
pub record IsRawAt (depth class number : ℕ) (octets : List ℕ) : Type 0 where
  pub tag : Tag
  pub content : List ℕ
  pub is_tag_of : is_tag class number tag ≡ true
  pub stands : Stands depth tag content octets

-- the values of extension attributes stand in the level of their place
abbrev pub AreKeptAt : ℕ → List ExtraFields → Type 0
AreKeptAt depth xs = Each (λ x. IsRawAt depth 2 1 x.raw) xs

-- what a name in the level `depth` keeps unread stands in the level of its place: the value of an attribute is in the
-- attribute, which is in the SET of them, which is in the name
pub record KeepsName (depth : ℕ) (n : Attributes) : Type 0 where
  pub extras : AreKeptAt (depth + 3) n.extras
  pub directory : IfSome n.directory (IsRawAt (depth + 1) 2 0)

-- ---- the laws; a level is such that all that is written stands in the sixteen levels

abbrev pub CountriesAreReadAgain : Type 0
CountriesAreReadAgain = (class number depth : ℕ) (l : Label) → IsTag (constructed class number) → IsCountry l
    → depth + 1 ≤ 16 → IsReadAgain country_in depth (canonical_label class number l) l

abbrev pub LabelsAreReadAgain : Type 0
LabelsAreReadAgain = (class number low high depth : ℕ) (l : Label) → IsTag (constructed class number)
    → IsLabel low high l → depth + 1 ≤ 16
    → IsReadAgain (label_in low high) depth (canonical_label class number l) l

-- a label whose string has no tag around it
abbrev pub LabelChoicesAreReadAgain : Type 0
LabelChoicesAreReadAgain = (low high depth : ℕ) (l : Label) → IsLabel low high l → depth ≤ 16
    → IsReadAgain (label_choice low high) depth (canonical_choice l) l

abbrev pub PersonalNamesAreReadAgain : Type 0
PersonalNamesAreReadAgain = (tag : Tag) (depth : ℕ) (v : PersonFields) → IsTag tag → tag.constructed ≡ true
    → IsPerson v → depth + 1 ≤ 16 → IsReadAgain person_in depth (element tag (canonical_person v)) v

abbrev pub UnitNamesAreReadAgain : Type 0
UnitNamesAreReadAgain = (depth : ℕ) (us : List (List ℕ)) → Each (IsText Printable 1 32) us → 1 ≤ length us
    → length us ≤ 4 → depth + 1 ≤ 16 → IsReadAgain units_in depth (canonical_units us) us

abbrev pub DomainDefinedAttributesAreReadAgain : Type 0
DomainDefinedAttributesAreReadAgain = (depth : ℕ) (ps : List PairFields) → Each IsPair ps → 1 ≤ length ps
    → length ps ≤ 4 → depth + 2 ≤ 16 → IsReadAgain pairs_in depth (canonical_pairs ps) ps

-- a common name and other extension attributes, whose values stand two levels below the SET
pub record IsExtended (depth : ℕ) (s : ExtensionParts) : Type 0 where
  pub common : IfSome s.common (IsText Printable 1 64)
  pub extras : Each IsExtra s.extras
  pub kept : AreKeptAt (depth + 2) s.extras
  pub some : 1 ≤ extension_count s
  pub few : extension_count s ≤ 256

abbrev pub ExtensionAttributesAreReadAgain : Type 0
ExtensionAttributesAreReadAgain = (depth : ℕ) (s : ExtensionParts) → IsExtended depth s → depth + 3 ≤ 16
    → IsReadAgain extensions_in depth (canonical_extensions s) s

-- the standard attributes alone
abbrev pub standard_of : Attributes → Attributes
standard_of n = record nothing {
  country = n.country;
  admd = n.admd;
  network = n.network;
  terminal = n.terminal;
  prmd = n.prmd;
  organization = n.organization;
  user = n.user;
  person = n.person;
  units = n.units;
}

abbrev pub StandardAttributesAreReadAgain : Type 0
StandardAttributesAreReadAgain = (depth : ℕ) (n : Attributes) → IsName n → depth + 2 ≤ 16
    → IsReadAgain standard_in depth (canonical_standard n) (standard_of n)

-- a name under the tag of its place
abbrev pub NamesAreReadAgain : Type 0
NamesAreReadAgain = (tag : Tag) (depth : ℕ) (n : Attributes) → IsTag tag → tag.constructed ≡ true → IsName n
    → KeepsName depth n → depth + 4 ≤ 16 → IsReadAgain name_in depth (canonical_name tag n) n

-- what a name keeps of an element where it was read, stands there in the level of its place
abbrev pub ReadNamesAreKept : Type 0
ReadNamesAreKept = (depth : ℕ) (c : Bool) (content : List ℕ) (n : Attributes) → SpellsName depth c content n
    → KeepsName depth n

-- and in each level above
abbrev pub KeptNamesAreKeptAbove : Type 0
KeptNamesAreKeptAbove = (depth above : ℕ) (n : Attributes) → above ≤ depth → KeepsName depth n
    → KeepsName above n

-- so a name that was read is read again where it is written in the level where it was read, or above
abbrev pub ReadNamesAreReadAgain : Type 0
ReadNamesAreReadAgain = (tag : Tag) (depth above : ℕ) (c : Bool) (content : List ℕ) (n : Attributes) → IsTag tag
    → tag.constructed ≡ true → SpellsName depth c content n → above ≤ depth → above + 4 ≤ 16
    → IsReadAgain name_in above (canonical_name tag n) n

abbrev pub NoCountryBeginsAnother : Type 0
NoCountryBeginsAnother = NoneBeginsAnother (SpellsLabel IsCountry)

abbrev pub NoLabelBeginsAnother : Type 0
NoLabelBeginsAnother = (low high : ℕ) → NoneBeginsAnother (SpellsLabel (IsLabel low high))

abbrev pub NoPersonalNameBeginsAnother : Type 0
NoPersonalNameBeginsAnother = NoneBeginsAnother SpellsPerson

abbrev pub NoUnitNamesBeginOthers : Type 0
NoUnitNamesBeginOthers = NoneBeginsAnother SpellsUnits

abbrev pub NoDomainDefinedAttributesBeginOthers : Type 0
NoDomainDefinedAttributesBeginOthers = NoneBeginsAnother SpellsPairs

abbrev pub NoExtensionAttributesBeginOthers : Type 0
NoExtensionAttributesBeginOthers = NoneBeginsAnother SpellsExtensions

abbrev pub NoStandardAttributesBeginOthers : Type 0
NoStandardAttributesBeginOthers = NoneBeginsAnother SpellsStandard

abbrev pub NoNameBeginsAnother : Type 0
NoNameBeginsAnother = NoneBeginsAnother SpellsName
