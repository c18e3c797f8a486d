-- Laws of messages, probes and octets: what is written is read again, whatever follows it.
use Rattle.std.specs.Prelude.{◌≡◌, ℕ, ◌+◌, ◌<◌, ◌≤◌, ◌^◌, Bool, true, false}
use Rattle.std.specs.Prelude.{List, ◌++◌, length, Option, IfSome, unwrap_or}
use Rattle.mta_ber.specs.Element.{first}
use Rattle.mta_ber.specs.Head.{◌>>=◌}
use Rattle.mta_ber.specs.Laws.{with_rest, beside}
use Rattle.mta_names.specs.Laws.{IsRawAt, KeepsName}
use Rattle.mta_names.specs.Values.{Each, IsName}
use Rattle.mta_ber.specs.Canon.{constructed}
use Rattle.mta_fields.specs.Tagged.{NoTaggedBeginsAnother}
use Rattle.mta_fields.specs.Laws.{IsWholeId, IsWholeTrace, KeepsTrace}
use Rattle.mta_envelope_extensions.specs.declared.extensions.Extensions.{Extensions}
use Rattle.mta_envelope_extensions.specs.Laws.{AreToldAt}
use Rattle.mta_envelope_recipient.specs.Laws.{IsWholeRecipient, KeepsRecipient}
use Rattle.mta_envelope.specs.declared.envelope.EnvelopeFields.{EnvelopeFields}
use Rattle.mta_envelope.specs.Contents.{content_as}
use Rattle.mta_envelope.specs.Envelopes.{IsEnvelope, IsOfKind, told_history, SpellsEnvelope}
use Rattle.mta_envelope.specs.Messages.{MessageValue, SpellsMessage, message_as, message_in, SpellsProbe, probe_in}
use Rattle.mta_envelope.specs.Messages.{canonical_message, canonical_probe}

-- the extension fields, and what they say
abbrev pub told_of : EnvelopeFields → Option Bool → Extensions
told_of v prohibition = record {
  fields = v.extensions;
  history = told_history v.history;
  latest = v.latest;
  prohibited = prohibition;
}

-- an envelope, with the parts that have rules of their own
pub record IsWholeEnvelope (v : EnvelopeFields) : Type 0 where
  pub envelope : IsEnvelope v
  pub originator : IsName v.originator
  pub id : IsWholeId v.id
  pub recipients : Each IsWholeRecipient v.recipients
  pub trace : Each IsWholeTrace v.trace

-- what an envelope in the level `depth` keeps unread stands in the level of its place, and the extension fields say
-- there what is said
pub record KeepsEnvelope (depth : ℕ) (v : EnvelopeFields) : Type 0 where
  pub originator : KeepsName (depth + 1) v.originator
  pub eits : IfSome v.eits (IsRawAt (depth + 1) 1 5)
  pub bilateral : IfSome v.bilateral (IsRawAt (depth + 1) 2 1)
  pub recipients : Each (KeepsRecipient (depth + 2)) v.recipients
  pub trace : Each (KeepsTrace (depth + 2)) v.trace
  pub prohibition : Option Bool
  pub prohibited_is : v.dl_prohibited ≡ unwrap_or prohibition false
  pub told : AreToldAt (depth + 1) (told_of v prohibition)

-- a message whose octets a length can count is read again as its envelope and its content, which stands in one piece
abbrev pub MessagesAreReadAgain : Type 0
MessagesAreReadAgain = (v : EnvelopeFields) (content more : List ℕ) (at : ℕ) → IsWholeEnvelope v
    → IsOfKind false v
    → KeepsEnvelope 2 v → length (canonical_message v content) < 2 ^ 64
    → (first at (canonical_message v content ++ more) >>= with_rest message_in) ≡ beside
    (message_as v (content_as true content)) more

abbrev pub ProbesAreReadAgain : Type 0
ProbesAreReadAgain = (v : EnvelopeFields) (more : List ℕ) (at : ℕ) → IsWholeEnvelope v → IsOfKind true v
    → KeepsEnvelope 2 v → length (canonical_probe v) < 2 ^ 64
    → (first at (canonical_probe v ++ more) >>= with_rest probe_in) ≡ beside v more

-- what an envelope that was read keeps stands in the level of its place, and the extension fields say there what is
-- said
abbrev pub ReadEnvelopesAreKept : Type 0
ReadEnvelopesAreKept = (probe : Bool) (depth : ℕ) (c : Bool) (content : List ℕ) (v : EnvelopeFields)
    → SpellsEnvelope probe depth c content v → depth + 7 ≤ 16 → KeepsEnvelope depth v × IsWholeEnvelope v

-- so a message that was read, at the outermost level, is written so that it is read again
abbrev pub ReadMessagesAreReadAgain : Type 0
ReadMessagesAreReadAgain = (content : List ℕ) (v : MessageValue) (more : List ℕ) (at : ℕ)
    → SpellsMessage 1 (constructed 2 0) content v → length (canonical_message v.envelope v.content.octets) < 2 ^ 64
    → (first at (canonical_message v.envelope v.content.octets ++ more) >>= with_rest message_in) ≡ beside
    (message_as v.envelope (content_as true v.content.octets)) more

abbrev pub ReadProbesAreReadAgain : Type 0
ReadProbesAreReadAgain = (content : List ℕ) (v : EnvelopeFields) (more : List ℕ) (at : ℕ)
    → SpellsProbe 2 (constructed 2 2) content v → length (canonical_probe v) < 2 ^ 64
    → (first at (canonical_probe v ++ more) >>= with_rest probe_in) ≡ beside v more

-- no spelling begins another, and each is that of one value
abbrev pub NoMessageBeginsAnother : Type 0
NoMessageBeginsAnother = NoTaggedBeginsAnother SpellsMessage

abbrev pub NoProbeBeginsAnother : Type 0
NoProbeBeginsAnother = NoTaggedBeginsAnother SpellsProbe
