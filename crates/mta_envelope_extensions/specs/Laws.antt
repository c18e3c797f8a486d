-- The law of extension fields of an envelope and octets: what is written is read again, whatever follows it.
use Rattle.std.specs.Prelude.{◌≡◌, ℕ, ◌+◌, ◌≤◌, Bool, true, List, [], ◌∷◌, Option, Some, None}
use Rattle.std.specs.List.{flat_map}
use Rattle.mta_ber.specs.declared.tag.Tag.{Tag}
use Rattle.mta_ber.specs.Canon.{IsTag, element}
use Rattle.mta_ber.specs.Spelling.{Stands}
use Rattle.mta_names.specs.Laws.{IsReadAgain}
use Rattle.mta_names.specs.Values.{Each}
use Rattle.mta_fields.specs.ExtensionFields.{IsExtField, canonical_ext}
use Rattle.mta_fields.specs.Laws.{KeepsExtField}
use Rattle.mta_envelope_extensions.specs.declared.extensions.Extensions.{Extensions}
use Rattle.mta_envelope_extensions.specs.declared.value.Topic.{Topic}
use Rattle.mta_envelope_extensions.specs.declared.value.Topic.TheVariants.{ExpansionHistory, LatestDelivery}
use Rattle.mta_envelope_extensions.specs.declared.value.Topic.TheVariants.{ExpansionProhibited}
use Rattle.mta_envelope_extensions.specs.declared.value.Said.{Said}
use Rattle.mta_envelope_extensions.specs.Topics.{SpellsSaid}
use Rattle.mta_envelope_extensions.specs.Told.{SpellsExtensions, values_of, history_said, latest_said}
use Rattle.mta_envelope_extensions.specs.Told.{prohibited_said, extensions_in}

-- the octets of a whole element say this in a level
pub record IsSaidAt (depth : ℕ) (topic : Topic) (octets : List ℕ) (said : Said) : Type 0 where
  pub tag : Tag
  pub content : List ℕ
  pub stands : Stands depth tag content octets
  pub spelled : SpellsSaid topic depth tag content said

abbrev pub SaysAt : ℕ → Topic → List (List ℕ) → Option Said → Type 0
SaysAt depth topic [] None = Unit {0}
SaysAt depth topic (v ∷ []) (Some s) = IsSaidAt depth topic v s
SaysAt depth topic _ _ = ⊥

-- fields whose values stand in the level of their place, in a field of the SET in the level `depth`, and say there what
-- is said
pub record AreToldAt (depth : ℕ) (s : Extensions) : Type 0 where
  pub fields : Each IsExtField s.fields
  pub kept : Each (KeepsExtField (depth + 1)) s.fields
  pub history : SaysAt (depth + 3) ExpansionHistory (values_of ExpansionHistory s.fields) (history_said s.history)
  pub latest : SaysAt (depth + 3) LatestDelivery (values_of LatestDelivery s.fields) (latest_said s.latest)
  pub prohibited : SaysAt (depth + 3) ExpansionProhibited (values_of ExpansionProhibited s.fields)
      (prohibited_said s.prohibited)

-- a level is such that all that is written stands in the sixteen levels
abbrev pub EnvelopeExtensionsAreReadAgain : Type 0
EnvelopeExtensionsAreReadAgain = (tag : Tag) (depth : ℕ) (s : Extensions) → IsTag tag → tag.constructed ≡ true
    → AreToldAt depth s → depth + 3 ≤ 16
    → IsReadAgain extensions_in depth (element tag (flat_map canonical_ext s.fields)) s

-- extension fields that were read keep and say what they said in the level of their place
abbrev pub ReadEnvelopeExtensionsAreKept : Type 0
ReadEnvelopeExtensionsAreKept = (depth : ℕ) (c : Bool) (content : List ℕ) (s : Extensions)
    → SpellsExtensions depth c content s → depth + 3 ≤ 16 → AreToldAt depth s
