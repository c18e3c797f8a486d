-- The copy of a message for the members of a list (X.411, clause 14: distribution list expansion): the members are
-- its recipients, and the expansion stands in its history and in its trace. All else is the item's.
use Rattle.std.specs.Prelude.{ℕ, ◌+◌, Bool, true, false, List, [], ◌∷◌, ◌++◌, length, Option, Some}
use Rattle.std.specs.Prelude.{None, if◌then◌else◌, ◌||◌, ◌==◌}
use Rattle.std.specs.List.{flat_map}
use Rattle.std.specs.Option.{option_map_or}
use Rattle.mta_ber.specs.Canon.{element, constructed}
use Rattle.mta_names.specs.declared.attributes.Attributes.{Attributes}
use Rattle.mta_fields.specs.declared.expansion.ExpansionFields.{ExpansionFields}
use Rattle.mta_fields.specs.declared.extension.ExtFields.{ExtFields}
use Rattle.mta_fields.specs.declared.extension.ExtKind.TheVariants.{Standard}
use Rattle.mta_fields.specs.Expansions.{canonical_expansion}
use Rattle.mta_envelope_extensions.specs.declared.value.Topic.TheVariants.{ExpansionHistory}
use Rattle.mta_envelope_extensions.specs.Told.{is_topic}
use Rattle.mta_envelope_extensions.specs.Topics.{topic_of}
use Rattle.mta_envelope_recipient.specs.declared.recipient.RecipientFields.{RecipientFields}
use Rattle.mta_envelope.specs.declared.envelope.EnvelopeFields.{EnvelopeFields}
use Rattle.mta_envelope.specs.Messages.{MessageValue, message_as, canonical_message}
use Rattle.mta_tables.specs.declared.entry.MailList.{MailList}
use Rattle.mta_procedures.specs.Histories.{is_in_history}
use Rattle.mta_procedures.specs.Situations.{Situation}
use Rattle.mta_procedures.specs.Traces.{own_trace}

-- ---- recipients

-- a member as a recipient, with the indicators of the list as a recipient
abbrev pub member_as : RecipientFields → ℕ → Attributes → RecipientFields
member_as r number member = record {
  name = member;
  number = number;
  indicators = r.indicators;
  conversion = None;
  extensions = [];
}

-- the members in order, numbered from k
abbrev pub members_from : ℕ → RecipientFields → List Attributes → List RecipientFields
members_from k r [] = []
members_from k r (m ∷ ms) = member_as r k m ∷ members_from (k + 1) r ms

-- ---- the history

abbrev pub expansion_of : Situation → MailList → ExpansionFields
expansion_of s l = record { name = l.name; moment = s.moment }

-- dl-expansion-history as it is written (X.411, DLExpansionHistory)
unfoldable pub history_octets : List ExpansionFields → List ℕ
history_octets xs = element (constructed 0 16) (flat_map canonical_expansion xs)

-- the extension, with no criticality
abbrev pub history_field : List ℕ → ExtFields
history_field value = record {
  kind = Standard 26;
  submission = false;
  transfer = false;
  delivery = false;
  value = value;
}

abbrev pub is_history_field : ExtFields → Bool
is_history_field f = is_topic ExpansionHistory (topic_of f.kind)

-- the extensions with this history, in the field that had one, and else in a field behind the others
abbrev pub with_history : List ℕ → List ExtFields → List ExtFields
with_history value [] = history_field value ∷ []
with_history value (f ∷ fs) = if is_history_field f then record f { value = value } ∷ fs
    else f ∷ with_history value fs

-- ---- the copy

abbrev pub expanded_history : Situation → MailList → EnvelopeFields → List ExpansionFields
expanded_history s l e = e.history ++ expansion_of s l ∷ []

abbrev pub members_envelope : Situation → MailList → EnvelopeFields → RecipientFields → EnvelopeFields
members_envelope s l e r = record e {
  recipients = members_from 1 r l.members;
  history = expanded_history s l e;
  extensions = with_history (history_octets (expanded_history s l e)) e.extensions;
  trace = e.trace ++ own_trace s None true ∷ [];
}

-- none where the list has no members, or was expanded before
abbrev pub has_no_copy : MailList → EnvelopeFields → Bool
has_no_copy l e = (length l.members == 0) || is_in_history l e

unfoldable pub members_copy : Situation → MailList → MessageValue → RecipientFields → Option MessageValue
members_copy s l m r =
    if has_no_copy l m.envelope then None
    else Some (message_as (members_envelope s l m.envelope r) m.content)

abbrev pub message_octets : MessageValue → List ℕ
message_octets m = canonical_message m.envelope m.content.octets

-- how many octets it has; 0 where there is none
abbrev pub members_length : Situation → MailList → MessageValue → RecipientFields → ℕ
members_length s l m r = option_map_or (λ c. length (message_octets c)) (members_copy s l m r) 0
