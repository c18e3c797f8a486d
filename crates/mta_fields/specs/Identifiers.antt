-- MTS identifiers (X.411, MTSIdentifier): a SEQUENCE of a domain and a local identifier.
use Rattle.std.specs.Prelude.{◌≡◌, ℕ, ◌<◌, ◌≤◌, Bool, true, List, ◌++◌, Option}
use Rattle.std.specs.Prelude.{Some, None, Result, Ok, ◌&&◌, if◌then◌else◌}
use Rattle.std.specs.Str.{bytes_eq}
use Rattle.mta_ber.specs.declared.fault.Fault.{Fault}
use Rattle.mta_ber.specs.declared.fault.Kind.TheVariants.{BadTag}
use Rattle.mta_ber.specs.declared.tag.Tag.{Tag}
use Rattle.mta_ber.specs.declared.text.TextClass.TheVariants.{Ia5}
use Rattle.mta_ber.specs.Canon.{element, constructed, primitive}
use Rattle.mta_ber.specs.Components.{SpellsComponents}
use Rattle.mta_ber.specs.Element.{Part}
use Rattle.mta_ber.specs.Forms.{is_constructed_tag, components_under}
use Rattle.mta_ber.specs.Head.{◌>>=◌, fault}
use Rattle.mta_ber.specs.Parts.{is_tag, in_order, required}
use Rattle.mta_ber.specs.Segmented.{SpellsText}
use Rattle.mta_ber.specs.Strings.{text_in, IsText}
use Rattle.mta_names.specs.Strings.{Puts}
use Rattle.mta_fields.specs.declared.domain.DomainFields.{DomainFields}
use Rattle.mta_fields.specs.declared.identifier.MtsIdFields.{MtsIdFields}
use Rattle.mta_fields.specs.declared.identifier.MtsIdPart.{MtsIdPart}
use Rattle.mta_fields.specs.declared.identifier.MtsIdPart.TheVariants.{Issuer, Local}
use Rattle.mta_fields.specs.declared.identifier.MtsIdParts.{MtsIdParts}
use Rattle.mta_fields.specs.Domains.{domain_in, SpellsDomain, canonical_domain, IsSameDomain, is_same_domain}

abbrev pub IsMtsId : MtsIdFields → Type 0
IsMtsId v = IsText Ia5 1 32 v.local

abbrev pub id_part_of : Tag → Option MtsIdPart
id_part_of t = if is_tag 1 3 t then Some Issuer else if is_tag 0 22 t then Some Local else None

abbrev pub id_class : MtsIdPart → ℕ
id_class Issuer = 1
id_class Local = 0

abbrev pub id_number : MtsIdPart → ℕ
id_number Issuer = 3
id_number Local = 22

abbrev pub id_place : MtsIdPart → ℕ
id_place Issuer = 1
id_place Local = 2

-- the domain has to stand before the local identifier
abbrev pub id_needed : MtsIdPart → ℕ
id_needed Issuer = 0
id_needed Local = 1

abbrev pub with_domain : MtsIdParts → DomainFields → MtsIdParts
with_domain s x = record s { last = 1; domain = Some x }

abbrev pub with_local : MtsIdParts → List ℕ → MtsIdParts
with_local s x = record s { last = 2; local = Some x }

abbrev pub id_part_in : MtsIdPart → MtsIdParts → Part → Result MtsIdParts Fault
id_part_in Issuer s p = domain_in p >>= λ x. Ok (with_domain s x)
id_part_in Local s p = text_in Ia5 1 32 p >>= λ x. Ok (with_local s x)

abbrev pub id_step_of : Option MtsIdPart → MtsIdParts → Part → Result MtsIdParts Fault
id_step_of None s p = fault p.at BadTag
id_step_of (Some k) s p = in_order s.last (id_needed k) (id_place k) p.at (id_part_in k s p)

unfoldable pub id_step : MtsIdParts → Part → Result MtsIdParts Fault
id_step s p = id_step_of (id_part_of p.tag) s p

abbrev pub no_id : MtsIdParts
no_id = record { last = 0; domain = None; local = None }

abbrev pub identifier : DomainFields → List ℕ → MtsIdFields
identifier domain local = record { domain = domain; local = local }

unfoldable pub id_in : Part → Result MtsIdFields Fault
id_in p = components_under 1 4 id_step no_id p >>= λ s. required s.domain p.at >>= λ d. required s.local p.at
    >>= λ l. Ok (identifier d l)

-- ---- what spells an identifier

abbrev pub MakesIdPart : MtsIdPart → ℕ → MtsIdParts → Tag → List ℕ → MtsIdParts → Type 0
MakesIdPart Issuer depth s tag content after = Puts (SpellsDomain depth tag content) (with_domain s) after
MakesIdPart Local depth s tag content after =
    Puts (SpellsText Ia5 1 32 depth tag.constructed content) (with_local s) after

pub record MakesId (depth : ℕ) (before : MtsIdParts) (tag : Tag) (content octets : List ℕ)
    (after : MtsIdParts) : Type 0 where
  pub part : MtsIdPart
  pub is_tag_of : is_tag (id_class part) (id_number part) tag ≡ true
  pub needed : id_needed part ≤ before.last
  pub behind : before.last < id_place part
  pub made : MakesIdPart part depth before tag content after

-- a SEQUENCE of its components in their order
pub record SpellsMtsId (depth : ℕ) (tag : Tag) (content : List ℕ) (v : MtsIdFields) : Type 0 where
  pub is_tag_of : is_constructed_tag 1 4 tag ≡ true
  pub parts : MtsIdParts
  pub spelled : SpellsComponents MakesId depth no_id content parts
  pub domain : parts.domain ≡ Some v.domain
  pub local : parts.local ≡ Some v.local

-- ---- the one spelling that is written

unfoldable pub canonical_id : MtsIdFields → List ℕ
canonical_id v = element (constructed 1 4) (canonical_domain v.domain ++ element (primitive 0 22) v.local)

-- two identifiers are the same where their domains are, and their local identifiers are equal octet by octet
pub record IsSameId (v w : MtsIdFields) : Type 0 where
  pub domain : IsSameDomain v.domain w.domain
  pub local : v.local ≡ w.local

-- the test of it
abbrev pub is_same_id : MtsIdFields → MtsIdFields → Bool
is_same_id v w = is_same_domain v.domain w.domain && bytes_eq v.local w.local
