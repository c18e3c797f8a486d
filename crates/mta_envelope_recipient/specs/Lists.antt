-- The recipients of a message or a probe: a SEQUENCE of 1 to 32,767 (X.411, ub-recipients).
use Rattle.std.specs.Prelude.{ℕ, Bool, List, Result}
use Rattle.std.specs.List.{flat_map}
use Rattle.mta_ber.specs.declared.fault.Fault.{Fault}
use Rattle.mta_ber.specs.declared.tag.Tag.{Tag}
use Rattle.mta_ber.specs.Canon.{element, constructed}
use Rattle.mta_ber.specs.Element.{Part}
use Rattle.mta_ber.specs.Explicit.{Spells}
use Rattle.mta_ber.specs.Parts.{is_tag}
use Rattle.mta_names.specs.Lists.{list_in, SpellsList}
use Rattle.mta_names.specs.Strings.{item_step}
use Rattle.mta_envelope_recipient.specs.declared.recipient.RecipientFields.{RecipientFields}
use Rattle.mta_envelope_recipient.specs.Recipients.{recipient_in, SpellsRecipient, canonical_recipient}

abbrev pub is_set : Tag → Bool
is_set t = is_tag 0 17 t

abbrev pub recipients_step : List RecipientFields → Part → Result (List RecipientFields) Fault
recipients_step vs p = item_step is_set recipient_in vs p

unfoldable pub recipients_in : Part → Result (List RecipientFields) Fault
recipients_in p = list_in is_set recipient_in 1 32767 p

abbrev pub SpellsItem : Spells RecipientFields
SpellsItem depth tag content octets v = SpellsRecipient depth tag content v

abbrev pub SpellsRecipients : ℕ → Bool → List ℕ → List RecipientFields → Type 0
SpellsRecipients depth constructed content vs = SpellsList is_set SpellsItem 1 32767 depth constructed content vs

-- the one spelling that is written, in the order held and under [2]
unfoldable pub canonical_recipients : List RecipientFields → List ℕ
canonical_recipients vs = element (constructed 2 2) (flat_map canonical_recipient vs)
