-- The extensions of an envelope of which a transfer agent makes use (X.411, clause 12): dl-expansion-history,
-- latest-delivery-time and dl-expansion-prohibited, and what their values say.
use Rattle.std.specs.Prelude.{◌≡◌, ℕ, Bool, true, List, Result, Ok, ◌==◌, ◌||◌, if◌then◌else◌}
use Rattle.mta_ber.specs.declared.fault.Fault.{Fault}
use Rattle.mta_ber.specs.declared.fault.Kind.TheVariants.{BadTag}
use Rattle.mta_ber.specs.declared.tag.Tag.{Tag}
use Rattle.mta_ber.specs.Element.{Part}
use Rattle.mta_ber.specs.Explicit.{Spells}
use Rattle.mta_ber.specs.Head.{◌>>=◌, fault}
use Rattle.mta_ber.specs.Moments.{SpellsMoment}
use Rattle.mta_ber.specs.Parts.{is_tag}
use Rattle.mta_ber.specs.Spelling.{Stands}
use Rattle.mta_ber.specs.Times.{utc_in}
use Rattle.mta_names.specs.Lists.{is_sequence, list_in, SpellsList}
use Rattle.mta_names.specs.Strings.{item_step, number_in, SpellsNumber}
use Rattle.mta_fields.specs.declared.expansion.ExpansionFields.{ExpansionFields}
use Rattle.mta_fields.specs.declared.extension.ExtKind.{ExtKind}
use Rattle.mta_fields.specs.declared.extension.ExtKind.TheVariants.{Standard, Private}
use Rattle.mta_fields.specs.Expansions.{expansion_in, SpellsExpansion}
use Rattle.mta_fields.specs.Traces.{digit}
use Rattle.mta_envelope_extensions.specs.declared.value.Topic.{Topic}
use Rattle.mta_envelope_extensions.specs.declared.value.Topic.TheVariants.{ExpansionHistory, LatestDelivery}
use Rattle.mta_envelope_extensions.specs.declared.value.Topic.TheVariants.{ExpansionProhibited, Other}
use Rattle.mta_envelope_extensions.specs.declared.value.Said.{Said}
use Rattle.mta_envelope_extensions.specs.declared.value.Said.TheVariants.{History, Latest, Prohibited, Unread}
use Rattle.mta_envelope_extensions.specs.declared.value.ExtValue.{ExtValue}

abbrev pub standard_topic : ℕ → Topic
standard_topic n = if n == 26 then ExpansionHistory else if n == 5 then LatestDelivery else if n == 3 then
    ExpansionProhibited else Other

-- which of the extensions that are read a type is
abbrev pub topic_of : ExtKind → Topic
topic_of (Standard n) = standard_topic n
topic_of (Private o) = Other

-- ---- values

abbrev pub expansion_step : List ExpansionFields → Part → Result (List ExpansionFields) Fault
expansion_step xs p = item_step is_sequence expansion_in xs p

-- a history is a SEQUENCE of 1 to 512 expansions
unfoldable pub history_in : Part → Result (List ExpansionFields) Fault
history_in p = list_in is_sequence expansion_in 1 512 p

abbrev pub SpellsItem : Spells ExpansionFields
SpellsItem depth tag content octets v = SpellsExpansion depth tag content v

abbrev pub SpellsHistory : ℕ → Bool → List ℕ → List ExpansionFields → Type 0
SpellsHistory depth constructed content xs = SpellsList is_sequence SpellsItem 1 512 depth constructed content xs

abbrev pub said_history : Part → Result Said Fault
said_history p = if is_sequence p.tag then (history_in p >>= λ xs. Ok (History xs)) else fault p.at BadTag

abbrev pub is_time : Tag → Bool
is_time t = is_tag 0 23 t

abbrev pub said_latest : Part → Result Said Fault
said_latest p = if is_time p.tag then (utc_in p >>= λ m. Ok (Latest m)) else fault p.at BadTag

-- a prohibition is an INTEGER or an ENUMERATED
abbrev pub is_number : Tag → Bool
is_number t = is_tag 0 2 t || is_tag 0 10 t

-- 1 says that lists may not be expanded, and 0 that they may
abbrev pub said_prohibited : Part → Result Said Fault
said_prohibited p = if is_number p.tag then (number_in 0 1 p >>= λ n. Ok (Prohibited (n == 1))) else fault p.at BadTag

-- what the value of a topic says
abbrev pub said_in : Topic → Part → Result Said Fault
said_in ExpansionHistory p = said_history p
said_in LatestDelivery p = said_latest p
said_in ExpansionProhibited p = said_prohibited p
said_in Other p = Ok Unread

abbrev pub ext_value : List ℕ → Said → ExtValue
ext_value octets said = record { octets = octets; said = said }

-- and the value itself, as it stands
abbrev pub value_said : Topic → Part → Result ExtValue Fault
value_said topic p = said_in topic p >>= λ s. Ok (ext_value p.octets s)

-- ---- what spells them

abbrev pub SpellsSaid : Topic → ℕ → Tag → List ℕ → Said → Type 0
SpellsSaid ExpansionHistory depth tag content (History xs) = (is_sequence tag ≡ true)
    × SpellsHistory depth tag.constructed content xs
SpellsSaid LatestDelivery depth tag content (Latest m) = (is_time tag ≡ true)
    × SpellsMoment depth tag.constructed content m
SpellsSaid ExpansionProhibited depth tag content (Prohibited b) = (is_number tag ≡ true)
    × SpellsNumber 0 1 tag.constructed content (digit b)
SpellsSaid Other depth tag content Unread = Unit {0}
SpellsSaid ExpansionHistory depth tag content _ = ⊥
SpellsSaid LatestDelivery depth tag content _ = ⊥
SpellsSaid ExpansionProhibited depth tag content _ = ⊥
SpellsSaid Other depth tag content _ = ⊥

pub record SpellsValue (topic : Topic) (depth : ℕ) (tag : Tag) (content octets : List ℕ)
    (v : ExtValue) : Type 0 where
  pub said : SpellsSaid topic depth tag content v.said
  pub octets_are : v.octets ≡ octets

-- the octets of a whole element say this, at some level
pub record IsSaidBy (topic : Topic) (octets : List ℕ) (said : Said) : Type 0 where
  pub depth : ℕ
  pub tag : Tag
  pub content : List ℕ
  pub stands : Stands depth tag content octets
  pub spelled : SpellsSaid topic depth tag content said
