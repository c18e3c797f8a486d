-- Content identifiers (X.411, ContentIdentifier): a PrintableString of 1 to 16 characters.
use Rattle.std.specs.Prelude.{ℕ, Bool, List, Result}
use Rattle.mta_ber.specs.declared.fault.Fault.{Fault}
use Rattle.mta_ber.specs.declared.text.TextClass.TheVariants.{Printable}
use Rattle.mta_ber.specs.Canon.{element, primitive}
use Rattle.mta_ber.specs.Element.{Part}
use Rattle.mta_ber.specs.Segmented.{SpellsText}
use Rattle.mta_ber.specs.Strings.{text_in, IsText}

abbrev pub IsContentId : List ℕ → Type 0
IsContentId t = IsText Printable 1 16 t

abbrev pub content_id_in : Part → Result (List ℕ) Fault
content_id_in p = text_in Printable 1 16 p

abbrev pub SpellsContentId : ℕ → Bool → List ℕ → List ℕ → Type 0
SpellsContentId depth constructed content t = SpellsText Printable 1 16 depth constructed content t

-- the one spelling that is written, under [APPLICATION 10]
abbrev pub canonical_content_id : List ℕ → List ℕ
canonical_content_id t = element (primitive 1 10) t
