-- Lists of extension fields (X.411, Extensions): a SET OF extension fields in any number.
use Rattle.std.specs.Prelude.{◌≡◌, ℕ, Bool, true, List, [], ◌∷◌, Result}
use Rattle.std.specs.List.{flat_map}
use Rattle.mta_ber.specs.declared.fault.Fault.{Fault}
use Rattle.mta_ber.specs.declared.tag.Tag.{Tag}
use Rattle.mta_ber.specs.Canon.{element}
use Rattle.mta_ber.specs.Components.{SpellsComponents}
use Rattle.mta_ber.specs.Element.{Part}
use Rattle.mta_ber.specs.Explicit.{Spells}
use Rattle.mta_ber.specs.Parts.{components}
use Rattle.mta_names.specs.Lists.{is_sequence}
use Rattle.mta_names.specs.Strings.{item_step, AddsItem}
use Rattle.mta_fields.specs.declared.extension.ExtFields.{ExtFields}
use Rattle.mta_fields.specs.ExtensionFields.{ext_in, SpellsExtField, canonical_ext}

abbrev pub ext_list_step : List ExtFields → Part → Result (List ExtFields) Fault
ext_list_step vs p = item_step is_sequence ext_in vs p

unfoldable pub ext_list_in : Part → Result (List ExtFields) Fault
ext_list_in p = components ext_list_step [] p

abbrev pub SpellsExtItem : Spells ExtFields
SpellsExtItem depth tag content octets v = SpellsExtField depth tag content v

pub record SpellsExtList (depth : ℕ) (constructed : Bool) (content : List ℕ) (vs : List ExtFields) : Type 0 where
  pub is_constructed : constructed ≡ true
  pub spelled : SpellsComponents (AddsItem is_sequence SpellsExtItem) depth [] content vs

-- the one spelling that is written: the fields in the order held, and nothing where there are none
abbrev pub canonical_ext_list : Tag → List ExtFields → List ℕ
canonical_ext_list tag [] = []
canonical_ext_list tag (v ∷ vs) = element tag (flat_map canonical_ext (v ∷ vs))
