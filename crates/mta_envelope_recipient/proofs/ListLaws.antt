-- Lists of recipients are read exactly where they are spelled.
use Rattle.std.proofs.Common.{◌≡◌, List, Ok}
use Rattle.mta_ber.specs.Element.{Part}
use Rattle.mta_ber.specs.Octet.{IsOctets}
use Rattle.mta_ber.proofs.ExplicitLaws.{ReadSound, ReadFull}
use Rattle.mta_names.proofs.Tools.{list_sound, list_full}
use Rattle.mta_envelope_recipient.specs.declared.recipient.RecipientFields.{RecipientFields}
use Rattle.mta_envelope_recipient.specs.Recipients.{recipient_in}
use Rattle.mta_envelope_recipient.specs.Lists.{is_set, recipients_in, SpellsItem, SpellsRecipients}
use Rattle.mta_envelope_recipient.proofs.RecipientLaws.{recipient_sound, recipient_full}

item_sound : ReadSound recipient_in SpellsItem
item_sound v p shallow content octets e = recipient_sound v p content e

item_full : ReadFull recipient_in SpellsItem
item_full v p shallow h = recipient_full v p h

pub recipients_sound : (vs : List RecipientFields) (p : Part) → IsOctets p.content → recipients_in p ≡ Ok vs
    → SpellsRecipients p.depth p.tag.constructed p.content vs
unfolding recipients_in
recipients_sound vs p octets e = list_sound is_set recipient_in SpellsItem item_sound 1 32767 p vs octets e

pub recipients_full : (vs : List RecipientFields) (p : Part) → SpellsRecipients p.depth p.tag.constructed p.content vs
    → recipients_in p ≡ Ok vs
unfolding recipients_in
recipients_full vs p h = list_full is_set recipient_in SpellsItem item_full 1 32767 p vs h
