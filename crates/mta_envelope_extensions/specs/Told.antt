-- All extension fields of an envelope: a SET OF fields in any number, each kept as it stands. Of the topics that are
-- read each stands in one field at most, and what is said of a topic is what the value of that field says.
use Rattle.std.specs.Prelude.{◌≡◌, ℕ, Bool, true, false, List, [], ◌∷◌, ◌++◌, Option}
use Rattle.std.specs.Prelude.{Some, None, is_some, Result, Ok, if◌then◌else◌}
use Rattle.mta_ber.specs.declared.fault.Fault.{Fault}
use Rattle.mta_ber.specs.declared.fault.Kind.TheVariants.{BadTag}
use Rattle.mta_ber.specs.declared.tag.Tag.{Tag}
use Rattle.mta_ber.specs.Components.{SpellsComponents}
use Rattle.mta_ber.specs.Element.{Part}
use Rattle.mta_ber.specs.Head.{◌>>=◌, fault}
use Rattle.mta_ber.specs.Parts.{components}
use Rattle.mta_names.specs.Lists.{is_sequence}
use Rattle.mta_names.specs.Strings.{Puts}
use Rattle.mta_fields.specs.declared.expansion.ExpansionFields.{ExpansionFields}
use Rattle.mta_fields.specs.declared.extension.ExtFields.{ExtFields}
use Rattle.mta_envelope_extensions.specs.declared.value.Topic.{Topic}
use Rattle.mta_envelope_extensions.specs.declared.value.Topic.TheVariants.{ExpansionHistory, LatestDelivery}
use Rattle.mta_envelope_extensions.specs.declared.value.Topic.TheVariants.{ExpansionProhibited, Other}
use Rattle.mta_envelope_extensions.specs.declared.value.Said.{Said}
use Rattle.mta_envelope_extensions.specs.declared.value.Said.TheVariants.{History, Latest, Prohibited, Unread}
use Rattle.mta_envelope_extensions.specs.declared.field.Held.{Held}
use Rattle.mta_envelope_extensions.specs.declared.field.Told.{Told}
use Rattle.mta_envelope_extensions.specs.declared.extensions.Extensions.{Extensions}
use Rattle.mta_envelope_extensions.specs.Topics.{topic_of, IsSaidBy}
use Rattle.mta_envelope_extensions.specs.Fields.{field_in, SpellsField}

abbrev pub held_of : Extensions → Held
held_of s = record { history = is_some s.history; latest = is_some s.latest; prohibited = is_some s.prohibited }

abbrev pub with_said : Said → Extensions → Extensions
with_said (History xs) s = record s { history = Some xs }
with_said (Latest m) s = record s { latest = Some m }
with_said (Prohibited b) s = record s { prohibited = Some b }
with_said Unread s = s

abbrev pub with_told : Told → Extensions → Extensions
with_told t s = with_said t.said (record s { fields = s.fields ++ t.field ∷ [] })

abbrev pub answer : Extensions → Result Extensions Fault
answer s = Ok s

unfoldable pub extension_step : Extensions → Part → Result Extensions Fault
extension_step s p = if is_sequence p.tag then (field_in (held_of s) p >>= λ t. answer (with_told t s))
    else fault p.at BadTag

abbrev pub no_extensions : Extensions
no_extensions = record { fields = []; history = None; latest = None; prohibited = None }

unfoldable pub extensions_in : Part → Result Extensions Fault
extensions_in p = components extension_step no_extensions p

-- ---- what spells them

pub record MakesExtension (depth : ℕ) (before : Extensions) (tag : Tag) (content octets : List ℕ)
    (after : Extensions) : Type 0 where
  pub is_sequence_tag : is_sequence tag ≡ true
  pub puts : Puts (SpellsField (held_of before) depth tag.constructed content) (λ t. with_told t before) after

pub record SpellsExtensions (depth : ℕ) (constructed : Bool) (content : List ℕ) (s : Extensions) : Type 0 where
  pub is_constructed : constructed ≡ true
  pub spelled : SpellsComponents MakesExtension depth no_extensions content s

-- ---- what is said is what the kept values say

abbrev pub is_topic : Topic → Topic → Bool
is_topic ExpansionHistory ExpansionHistory = true
is_topic LatestDelivery LatestDelivery = true
is_topic ExpansionProhibited ExpansionProhibited = true
is_topic Other Other = true
is_topic _ _ = false

-- the values of the fields of a topic
abbrev pub values_of : Topic → List ExtFields → List (List ℕ)
values_of topic [] = []
values_of topic (f ∷ fs) = if is_topic topic (topic_of f.kind) then f.value ∷
    values_of topic fs else values_of topic fs

-- nothing is said where there is no field of the topic, and where there is one its value says it; there are no two
abbrev pub Says : Topic → List (List ℕ) → Option Said → Type 0
Says topic [] None = Unit {0}
Says topic (v ∷ []) (Some s) = IsSaidBy topic v s
Says topic _ _ = ⊥

abbrev pub history_said : Option (List ExpansionFields) → Option Said
history_said None = None
history_said (Some xs) = Some (History xs)

abbrev pub latest_said : Option ℕ → Option Said
latest_said None = None
latest_said (Some m) = Some (Latest m)

abbrev pub prohibited_said : Option Bool → Option Said
prohibited_said None = None
prohibited_said (Some b) = Some (Prohibited b)

pub record AreTold (s : Extensions) : Type 0 where
  pub history : Says ExpansionHistory (values_of ExpansionHistory s.fields) (history_said s.history)
  pub latest : Says LatestDelivery (values_of LatestDelivery s.fields) (latest_said s.latest)
  pub prohibited : Says ExpansionProhibited (values_of ExpansionProhibited s.fields) (prohibited_said s.prohibited)
