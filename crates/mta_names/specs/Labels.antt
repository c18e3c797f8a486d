-- Labels of countries and domains: an explicit tag around a NumericString or a PrintableString (X.411, CountryName,
-- AdministrationDomainName, PrivateDomainName).
use Rattle.std.specs.Prelude.{◌≡◌, ℕ, Bool, true, false, List, Result, Ok, if◌then◌else◌}
use Rattle.std.specs.List.{list_all}
use Rattle.mta_ber.specs.declared.fault.Fault.{Fault}
use Rattle.mta_ber.specs.declared.fault.Kind.TheVariants.{BadTag}
use Rattle.mta_ber.specs.declared.tag.Tag.{Tag}
use Rattle.mta_ber.specs.Canon.{element, constructed, primitive}
use Rattle.mta_ber.specs.Element.{Part, explicit}
use Rattle.mta_ber.specs.Explicit.{SpellsExplicit}
use Rattle.mta_ber.specs.Head.{◌>>=◌, fault}
use Rattle.mta_ber.specs.Parts.{is_tag}
use Rattle.mta_ber.specs.Segmented.{SpellsOctets}
use Rattle.mta_ber.specs.Strings.{in_class}
use Rattle.mta_names.specs.declared.attributes.Label.{Label}
use Rattle.mta_names.specs.Values.{country_character, country_size, label_class}
use Rattle.mta_names.specs.Strings.{string_in}

abbrev pub label : Bool → List ℕ → Label
label numeric text = record { numeric = numeric; text = text }

-- the universal number of a label's string
abbrev pub label_number : Bool → ℕ
label_number true = 18
label_number false = 19

-- a NumericString or a PrintableString
abbrev pub choice : (Bool → Part → Result (List ℕ) Fault) → Part → Result Label Fault
choice read p =
    if is_tag 0 18 p.tag then (read true p >>= λ t. Ok (label true t))
    else if is_tag 0 19 p.tag then (read false p >>= λ t. Ok (label false t))
    else fault p.at BadTag

unfoldable pub country_choice : Part → Result Label Fault
country_choice p = choice (λ numeric. string_in (list_all (country_character numeric)) (country_size numeric)
    (country_size numeric)) p

unfoldable pub label_choice : ℕ → ℕ → Part → Result Label Fault
label_choice low high p = choice (λ numeric. string_in (list_all (in_class (label_class numeric))) low high) p

abbrev pub country_in : Part → Result Label Fault
country_in p = explicit country_choice p

abbrev pub label_in : ℕ → ℕ → Part → Result Label Fault
label_in low high p = explicit (label_choice low high) p

-- the string of a label that is such as it may be
pub record SpellsChoice (fits : Label → Type 0) (depth : ℕ) (tag : Tag) (content octets : List ℕ)
    (l : Label) : Type 0 where
  pub is_tag_of : is_tag 0 (label_number l.numeric) tag ≡ true
  pub spelled : SpellsOctets (label_number l.numeric) depth tag.constructed content l.text
  pub fits_so : fits l

abbrev pub SpellsLabel : (Label → Type 0) → ℕ → Bool → List ℕ → Label → Type 0
SpellsLabel fits depth constructed content l = SpellsExplicit (SpellsChoice fits) depth constructed content l

-- the one spelling that is written
abbrev pub canonical_choice : Label → List ℕ
canonical_choice l = element (primitive 0 (label_number l.numeric)) l.text

abbrev pub canonical_label : ℕ → ℕ → Label → List ℕ
canonical_label class number l = element (constructed class number) (canonical_choice l)
