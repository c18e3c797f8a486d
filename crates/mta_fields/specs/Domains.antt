-- Domains (X.411, GlobalDomainIdentifier): a SEQUENCE of a country, an administration domain and a private domain that
-- may be absent.
use Rattle.std.specs.Prelude.{◌≡◌, ℕ, ◌<◌, ◌≤◌, Bool, true, List, ◌++◌, Option, Some}
use Rattle.std.specs.Prelude.{None, IfSome, Result, Ok, ◌||◌, ◌&&◌, if◌then◌else◌}
use Rattle.std.specs.Option.{option_map}
use Rattle.mta_ber.specs.declared.fault.Fault.{Fault}
use Rattle.mta_ber.specs.declared.fault.Kind.TheVariants.{BadTag}
use Rattle.mta_ber.specs.declared.tag.Tag.{Tag}
use Rattle.mta_ber.specs.Canon.{element, constructed, optional}
use Rattle.mta_ber.specs.Components.{SpellsComponents}
use Rattle.mta_ber.specs.Element.{Part}
use Rattle.mta_ber.specs.Forms.{is_constructed_tag, components_under}
use Rattle.mta_ber.specs.Head.{◌>>=◌, fault}
use Rattle.mta_ber.specs.Parts.{is_tag, in_order, required}
use Rattle.mta_names.specs.declared.attributes.Label.{Label}
use Rattle.mta_names.specs.Labels.{country_in, label_in, label_choice, SpellsLabel}
use Rattle.mta_names.specs.Labels.{SpellsChoice, canonical_label, canonical_choice}
use Rattle.mta_names.specs.Normal.{normal_label, is_same_labels, is_same_option}
use Rattle.mta_names.specs.Strings.{Puts}
use Rattle.mta_names.specs.Values.{IsCountry, IsLabel}
use Rattle.mta_fields.specs.declared.domain.DomainFields.{DomainFields}
use Rattle.mta_fields.specs.declared.domain.DomainPart.{DomainPart}
use Rattle.mta_fields.specs.declared.domain.DomainPart.TheVariants.{Country, Admd, Prmd}
use Rattle.mta_fields.specs.declared.domain.DomainParts.{DomainParts}

pub record IsDomain (v : DomainFields) : Type 0 where
  pub country : IsCountry v.country
  pub admd : IsLabel 0 16 v.admd
  pub prmd : IfSome v.prmd (IsLabel 1 16)

abbrev pub domain_part_of : Tag → Option DomainPart
domain_part_of t =
    if is_tag 1 1 t then Some Country
    else if is_tag 1 2 t then Some Admd
    else if is_tag 0 18 t || is_tag 0 19 t then Some Prmd
    else None

-- the tags of a component; the private domain has no tag around its string
abbrev pub is_domain_tag : DomainPart → Tag → Bool
is_domain_tag Country t = is_tag 1 1 t
is_domain_tag Admd t = is_tag 1 2 t
is_domain_tag Prmd t = is_tag 0 18 t || is_tag 0 19 t

abbrev pub domain_place : DomainPart → ℕ
domain_place Country = 1
domain_place Admd = 2
domain_place Prmd = 3

-- the place of the required component before it
abbrev pub domain_needed : DomainPart → ℕ
domain_needed Country = 0
domain_needed Admd = 1
domain_needed Prmd = 2

abbrev pub with_country : DomainParts → Label → DomainParts
with_country s x = record s { last = 1; country = Some x }

abbrev pub with_admd : DomainParts → Label → DomainParts
with_admd s x = record s { last = 2; admd = Some x }

abbrev pub with_prmd : DomainParts → Label → DomainParts
with_prmd s x = record s { last = 3; prmd = Some x }

abbrev pub domain_part_in : DomainPart → DomainParts → Part → Result DomainParts Fault
domain_part_in Country s p = country_in p >>= λ x. Ok (with_country s x)
domain_part_in Admd s p = label_in 0 16 p >>= λ x. Ok (with_admd s x)
domain_part_in Prmd s p = label_choice 1 16 p >>= λ x. Ok (with_prmd s x)

abbrev pub domain_step_of : Option DomainPart → DomainParts → Part → Result DomainParts Fault
domain_step_of None s p = fault p.at BadTag
domain_step_of (Some k) s p = in_order s.last (domain_needed k) (domain_place k) p.at (domain_part_in k s p)

unfoldable pub domain_step : DomainParts → Part → Result DomainParts Fault
domain_step s p = domain_step_of (domain_part_of p.tag) s p

abbrev pub no_domain : DomainParts
no_domain = record { last = 0; country = None; admd = None; prmd = None }

abbrev pub domain : Label → Label → Option Label → DomainFields
domain country admd prmd = record { country = country; admd = admd; prmd = prmd }

unfoldable pub domain_in : Part → Result DomainFields Fault
domain_in p = components_under 1 3 domain_step no_domain p >>= λ s. required s.country p.at
    >>= λ c. required s.admd p.at >>= λ a. Ok (domain c a s.prmd)

-- ---- what spells a domain

abbrev pub MakesDomainPart : DomainPart → ℕ → DomainParts → Tag → List ℕ → List ℕ → DomainParts
    → Type 0
MakesDomainPart Country depth s tag content octets after =
    Puts (SpellsLabel IsCountry depth tag.constructed content) (with_country s) after
MakesDomainPart Admd depth s tag content octets after = Puts (SpellsLabel (IsLabel 0 16) depth tag.constructed content)
    (with_admd s) after
MakesDomainPart Prmd depth s tag content octets after = Puts (SpellsChoice (IsLabel 1 16) depth tag content octets)
    (with_prmd s) after

pub record MakesDomain (depth : ℕ) (before : DomainParts) (tag : Tag) (content octets : List ℕ)
    (after : DomainParts) : Type 0 where
  pub part : DomainPart
  pub is_tag_of : is_domain_tag part tag ≡ true
  pub needed : domain_needed part ≤ before.last
  pub behind : before.last < domain_place part
  pub made : MakesDomainPart part depth before tag content octets after

-- a SEQUENCE of its components in their order
pub record SpellsDomain (depth : ℕ) (tag : Tag) (content : List ℕ) (v : DomainFields) : Type 0 where
  pub is_tag_of : is_constructed_tag 1 3 tag ≡ true
  pub parts : DomainParts
  pub spelled : SpellsComponents MakesDomain depth no_domain content parts
  pub country : parts.country ≡ Some v.country
  pub admd : parts.admd ≡ Some v.admd
  pub prmd : parts.prmd ≡ v.prmd

-- ---- the one spelling that is written

abbrev pub domain_content : DomainFields → List ℕ
domain_content v = canonical_label 1 1 v.country ++ canonical_label 1 2 v.admd ++ optional canonical_choice v.prmd

unfoldable pub canonical_domain : DomainFields → List ℕ
canonical_domain v = element (constructed 1 3) (domain_content v)

-- ---- when two domains are the same

pub record NormalDomain : Type 0 where
  pub country : List ℕ
  pub admd : List ℕ
  pub prmd : Option (List ℕ)

abbrev pub normal_domain : DomainFields → NormalDomain
normal_domain v = record {
  country = normal_label v.country;
  admd = normal_label v.admd;
  prmd =
      option_map normal_label v.prmd;
}

abbrev pub IsSameDomain : DomainFields → DomainFields → Type 0
IsSameDomain v w = normal_domain v ≡ normal_domain w

abbrev pub is_same_domain : DomainFields → DomainFields → Bool
is_same_domain v w = is_same_labels v.country w.country && is_same_labels v.admd w.admd && is_same_option is_same_labels
    v.prmd w.prmd
