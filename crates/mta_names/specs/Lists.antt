-- Unit names (X.411, OrganizationalUnitNames) and domain-defined attributes (BuiltInDomainDefinedAttributes): lists of
-- at least one item.
use Rattle.std.specs.Prelude.{◌≡◌, ℕ, ◌≤◌, ◌⊎◌, Bool, true, List, [], ◌∷◌, ◌++◌, length}
use Rattle.std.specs.Prelude.{Some, None, is_some, Result, Ok, if◌then◌else◌}
use Rattle.std.specs.List.{flat_map}
use Rattle.mta_ber.specs.declared.fault.Fault.{Fault}
use Rattle.mta_ber.specs.declared.fault.Kind.TheVariants.{BadTag}
use Rattle.mta_ber.specs.declared.tag.Tag.{Tag}
use Rattle.mta_ber.specs.declared.text.TextClass.TheVariants.{Printable}
use Rattle.mta_ber.specs.Canon.{element, constructed, primitive}
use Rattle.mta_ber.specs.Components.{Makes, SpellsComponents}
use Rattle.mta_ber.specs.Element.{Part}
use Rattle.mta_ber.specs.Explicit.{Spells}
use Rattle.mta_ber.specs.Head.{◌>>=◌, fault}
use Rattle.mta_ber.specs.Parts.{components, is_tag, required}
use Rattle.mta_ber.specs.Segmented.{SpellsText}
use Rattle.mta_ber.specs.Strings.{text_in}
use Rattle.mta_names.specs.declared.attributes.PairFields.{PairFields}
use Rattle.mta_names.specs.declared.pair.PairParts.{PairParts}
use Rattle.mta_names.specs.Strings.{item_step, counted, AddsItem, Puts}

-- a list of `low` to `high` items
abbrev pub list_in : {X : Type 0} → (Tag → Bool) → (Part → Result X Fault) → ℕ → ℕ → Part
    → Result (List X) Fault
list_in is_item read low high p = components (item_step is_item read) [] p >>= counted p.at low high

pub record SpellsList {X : Type 0} (is_item : Tag → Bool) (spells : Spells X) (low high depth : ℕ)
    (constructed : Bool)
    (content : List ℕ) (xs : List X) : Type 0 where
  pub is_constructed : constructed ≡ true
  pub spelled : SpellsComponents (AddsItem is_item spells) depth [] content xs
  pub at_least : low ≤ length xs
  pub at_most : length xs ≤ high

-- a list is left out where it is empty
abbrev pub listed : {X : Type 0} → (List X → List ℕ) → List X → List ℕ
listed write [] = []
listed write (x ∷ xs) = write (x ∷ xs)

-- the tag of a PrintableString
abbrev pub is_printable : Tag → Bool
is_printable t = is_tag 0 19 t

abbrev pub is_sequence : Tag → Bool
is_sequence t = is_tag 0 16 t

abbrev pub canonical_printable : List ℕ → List ℕ
canonical_printable t = element (primitive 0 19) t

-- ---- unit names

abbrev pub unit_step : List (List ℕ) → Part → Result (List (List ℕ)) Fault
unit_step us p = item_step is_printable (text_in Printable 1 32) us p

unfoldable pub units_in : Part → Result (List (List ℕ)) Fault
units_in p = list_in is_printable (text_in Printable 1 32) 1 4 p

abbrev pub SpellsUnit : Spells (List ℕ)
SpellsUnit depth tag content octets u = SpellsText Printable 1 32 depth tag.constructed content u

abbrev pub SpellsUnits : ℕ → Bool → List ℕ → List (List ℕ) → Type 0
SpellsUnits depth constructed content us = SpellsList is_printable SpellsUnit 1 4 depth constructed content us

abbrev pub canonical_units : List (List ℕ) → List ℕ
canonical_units us = element (constructed 2 6) (flat_map canonical_printable us)

-- ---- domain-defined attributes

-- the type stands before the value
abbrev pub pair_text : PairParts → Part → Result PairParts Fault
pair_text s p =
    if is_some s.value then fault p.at BadTag
    else if is_some s.kind then (text_in Printable 1 128 p >>= λ t. Ok (record s { value = Some t }))
    else (text_in Printable 1 8 p >>= λ t. Ok (record s { kind = Some t }))

unfoldable pub pair_step : PairParts → Part → Result PairParts Fault
pair_step s p = if is_printable p.tag then pair_text s p else fault p.at BadTag

abbrev pub no_pair : PairParts
no_pair = record { kind = None; value = None }

abbrev pub pair : List ℕ → List ℕ → PairFields
pair kind value = record { kind = kind; value = value }

unfoldable pub pair_in : Part → Result PairFields Fault
pair_in p = components pair_step no_pair p >>= λ s. required s.kind p.at >>= λ kind. required s.value p.at >>=
    λ value.
    Ok (pair kind value)

abbrev pub pairs_step : List PairFields → Part → Result (List PairFields) Fault
pairs_step ps p = item_step is_sequence pair_in ps p

unfoldable pub pairs_in : Part → Result (List PairFields) Fault
pairs_in p = list_in is_sequence pair_in 1 4 p

-- the type, where nothing stands before it, or the value, where the type alone does
pub record MakesKind (depth : ℕ) (before : PairParts) (tag : Tag) (content : List ℕ)
    (after : PairParts) : Type 0 where
  pub no_kind : before.kind ≡ None
  pub no_value : before.value ≡ None
  pub puts : Puts (SpellsText Printable 1 8 depth tag.constructed content) (λ t. record before { kind = Some t }) after

pub record MakesValue (depth : ℕ) (before : PairParts) (tag : Tag) (content : List ℕ)
    (after : PairParts) : Type 0 where
  pub some_kind : is_some before.kind ≡ true
  pub no_value : before.value ≡ None
  pub puts : Puts (SpellsText Printable 1 128 depth tag.constructed content)
      (λ t. record before { value = Some t }) after

abbrev pub MakesPair : Makes PairParts
MakesPair depth before tag content octets after = (is_printable tag ≡ true)
    × (MakesKind depth before tag content after ⊎ MakesValue depth before tag content after)

-- a SEQUENCE of a type and a value
pub record SpellsPair (depth : ℕ) (tag : Tag) (content octets : List ℕ) (v : PairFields) : Type 0 where
  pub is_constructed : tag.constructed ≡ true
  pub parts : PairParts
  pub spelled : SpellsComponents MakesPair depth no_pair content parts
  pub kind : parts.kind ≡ Some v.kind
  pub value : parts.value ≡ Some v.value

abbrev pub SpellsPairs : ℕ → Bool → List ℕ → List PairFields → Type 0
SpellsPairs depth constructed content ps = SpellsList is_sequence SpellsPair 1 4 depth constructed content ps

abbrev pub canonical_pair : PairFields → List ℕ
canonical_pair v = element (constructed 0 16) (canonical_printable v.kind ++ canonical_printable v.value)

abbrev pub canonical_pairs : List PairFields → List ℕ
canonical_pairs ps = element (constructed 0 16) (flat_map canonical_pair ps)
