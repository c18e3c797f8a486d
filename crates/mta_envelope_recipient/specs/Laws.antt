-- Laws of recipients and octets: what is written is read again, whatever follows it.
use Rattle.std.specs.Prelude.{ℕ, Bool, ◌+◌, ◌≤◌, List, length, IfSome}
use Rattle.mta_ber.specs.declared.tag.Tag.{Tag}
use Rattle.mta_names.specs.Laws.{IsReadAgain, IsRawAt, KeepsName}
use Rattle.mta_names.specs.Values.{Each, IsName}
use Rattle.mta_fields.specs.ExtensionFields.{IsExtField}
use Rattle.mta_fields.specs.Laws.{KeepsExtField}
use Rattle.mta_envelope_recipient.specs.declared.recipient.RecipientFields.{RecipientFields}
use Rattle.mta_envelope_recipient.specs.Recipients.{IsRecipient, recipient_in, SpellsRecipient, canonical_recipient}
use Rattle.mta_envelope_recipient.specs.Lists.{recipients_in, canonical_recipients}

-- what a recipient in the level `depth` keeps unread stands in the level of its place
pub record KeepsRecipient (depth : ℕ) (v : RecipientFields) : Type 0 where
  pub name : KeepsName (depth + 1) v.name
  pub conversion : IfSome v.conversion (IsRawAt (depth + 1) 2 2)
  pub extensions : Each (KeepsExtField (depth + 2)) v.extensions

-- a recipient, with the parts that have rules of their own
pub record IsWholeRecipient (v : RecipientFields) : Type 0 where
  pub recipient : IsRecipient v
  pub name : IsName v.name
  pub extensions : Each IsExtField v.extensions

-- a level is such that all that is written stands in the sixteen levels
abbrev pub RecipientsAreReadAgain : Type 0
RecipientsAreReadAgain = (depth : ℕ) (v : RecipientFields) → IsWholeRecipient v → KeepsRecipient depth v
    → depth + 5 ≤ 16 → IsReadAgain recipient_in depth (canonical_recipient v) v

abbrev pub RecipientListsAreReadAgain : Type 0
RecipientListsAreReadAgain = (depth : ℕ) (vs : List RecipientFields) → Each IsWholeRecipient vs
    → Each (KeepsRecipient (depth + 1)) vs → 1 ≤ length vs → length vs ≤ 32767 → depth + 6 ≤ 16
    → IsReadAgain recipients_in depth (canonical_recipients vs) vs

-- a recipient that was read keeps what it keeps in the level of its place, and is one
abbrev pub ReadRecipientsAreKept : Type 0
ReadRecipientsAreKept = (depth : ℕ) (tag : Tag) (content : List ℕ) (v : RecipientFields)
    → SpellsRecipient depth tag content v → depth + 5 ≤ 16 → KeepsRecipient depth v × IsWholeRecipient v
