-- Components of the envelopes of messages and probes that are neighbours may change places.
use Rattle.std.proofs.Common.{◌≡◌, ℕ, true, List, refl, sym, ap, subst}
use Rattle.mta_ber.specs.declared.tag.Tag.{Tag}
use Rattle.mta_ber.specs.Bits.{BitString}
use Rattle.mta_names.specs.declared.attributes.Attributes.{Attributes}
use Rattle.mta_fields.specs.declared.identifier.MtsIdFields.{MtsIdFields}
use Rattle.mta_fields.specs.declared.trace.TraceFields.{TraceFields}
use Rattle.mta_envelope_common.specs.declared.kind.ContentKind.{ContentKind}
use Rattle.mta_envelope_extensions.specs.declared.extensions.Extensions.{Extensions}
use Rattle.mta_envelope_recipient.specs.declared.recipient.RecipientFields.{RecipientFields}
use Rattle.mta_envelope.specs.declared.priority.Priority.{Priority}
use Rattle.mta_envelope.specs.declared.parts.EnvelopePart.{EnvelopePart}
use Rattle.mta_envelope.specs.declared.parts.EnvelopePart.TheVariants.{Originator, Identifier, InformationTypes}
use Rattle.mta_envelope.specs.declared.parts.EnvelopePart.TheVariants.{ContentType, MessagePriority, Indicators}
use Rattle.mta_envelope.specs.declared.parts.EnvelopePart.TheVariants.{TraceList, ContentIdentifier, Deferral, Length}
use Rattle.mta_envelope.specs.declared.parts.EnvelopePart.TheVariants.{Bilateral, RecipientList, ExtensionSet}
use Rattle.mta_envelope.specs.declared.parts.EnvelopeParts.{EnvelopeParts}
use Rattle.mta_envelope.specs.Components.{MakesEnvelope, MakesEnvelopePart, is_envelope_tag, with_bilateral}
use Rattle.mta_envelope.specs.Components.{with_content_id, with_content_kind, with_deferral, with_eits, with_extensions}
use Rattle.mta_envelope.specs.Components.{with_id, with_indicators, with_length, with_originator, with_priority}
use Rattle.mta_envelope.specs.Components.{with_recipients, with_trace}
use Rattle.mta_set_laws.specs.Orders.{ChangePlaces}
use Rattle.mta_set_laws.proofs.Slots.{Field, passes, twice_in_field}

abbrev originator_slot : Field EnvelopeParts Attributes
originator_slot = record { put = with_originator; get = λ s. s.originator }

abbrev id_slot : Field EnvelopeParts MtsIdFields
id_slot = record { put = with_id; get = λ s. s.id }

abbrev eits_slot : Field EnvelopeParts (List ℕ)
eits_slot = record { put = with_eits; get = λ s. s.eits }

abbrev content_kind_slot : Field EnvelopeParts ContentKind
content_kind_slot = record { put = with_content_kind; get = λ s. s.content_kind }

abbrev priority_slot : Field EnvelopeParts Priority
priority_slot = record { put = with_priority; get = λ s. s.priority }

abbrev indicators_slot : Field EnvelopeParts BitString
indicators_slot = record { put = with_indicators; get = λ s. s.indicators }

abbrev trace_slot : Field EnvelopeParts (List TraceFields)
trace_slot = record { put = with_trace; get = λ s. s.trace }

abbrev content_id_slot : Field EnvelopeParts (List ℕ)
content_id_slot = record { put = with_content_id; get = λ s. s.content_id }

abbrev deferral_slot : Field EnvelopeParts ℕ
deferral_slot = record { put = with_deferral; get = λ s. s.deferral }

abbrev length_slot : Field EnvelopeParts ℕ
length_slot = record { put = with_length; get = λ s. s.length }

abbrev bilateral_slot : Field EnvelopeParts (List ℕ)
bilateral_slot = record { put = with_bilateral; get = λ s. s.bilateral }

abbrev recipients_slot : Field EnvelopeParts (List RecipientFields)
recipients_slot = record { put = with_recipients; get = λ s. s.recipients }

abbrev extensions_slot : Field EnvelopeParts Extensions
extensions_slot = record { put = with_extensions; get = λ s. s.extensions }

-- the second of two components may stand before the first
module _ (depth : ℕ) (s t u : EnvelopeParts) (tag : Tag) (content octets : List ℕ) (tag' : Tag)
    (content' octets' : List ℕ) where
  abbrev Passes : (j k : EnvelopePart) → Type 0
  Passes j k =
      MakesEnvelopePart j depth s tag content octets t → MakesEnvelopePart k depth t tag' content' octets' u
      → (between : EnvelopeParts) × MakesEnvelopePart k depth s tag' content' octets' between
      × MakesEnvelopePart j depth between tag content octets u

  -- each component passes the originator
  past_originator : (k : EnvelopePart) → Passes Originator k
  past_originator Originator = λ m n. absurd (twice_in_field originator_slot (λ s x. refl) s t u m n)
  past_originator Identifier = passes originator_slot id_slot (λ s x. refl) (λ s y. refl) (λ s x y. refl) s t u
  past_originator InformationTypes =
      passes originator_slot eits_slot (λ s x. refl) (λ s y. refl) (λ s x y. refl) s t u
  past_originator ContentType =
      passes originator_slot content_kind_slot (λ s x. refl) (λ s y. refl) (λ s x y. refl) s t u
  past_originator MessagePriority =
      passes originator_slot priority_slot (λ s x. refl) (λ s y. refl) (λ s x y. refl) s t u
  past_originator Indicators =
      passes originator_slot indicators_slot (λ s x. refl) (λ s y. refl) (λ s x y. refl) s t u
  past_originator TraceList = passes originator_slot trace_slot (λ s x. refl) (λ s y. refl) (λ s x y. refl) s t u
  past_originator ContentIdentifier =
      passes originator_slot content_id_slot (λ s x. refl) (λ s y. refl) (λ s x y. refl) s t u
  past_originator Deferral = passes originator_slot deferral_slot (λ s x. refl) (λ s y. refl) (λ s x y. refl) s t u
  past_originator Length = passes originator_slot length_slot (λ s x. refl) (λ s y. refl) (λ s x y. refl) s t u
  past_originator Bilateral = passes originator_slot bilateral_slot (λ s x. refl) (λ s y. refl) (λ s x y. refl) s t u
  past_originator RecipientList =
      passes originator_slot recipients_slot (λ s x. refl) (λ s y. refl) (λ s x y. refl) s t u
  past_originator ExtensionSet =
      passes originator_slot extensions_slot (λ s x. refl) (λ s y. refl) (λ s x y. refl) s t u

  -- each component passes the identifier
  past_id : (k : EnvelopePart) → Passes Identifier k
  past_id Originator = passes id_slot originator_slot (λ s x. refl) (λ s y. refl) (λ s x y. refl) s t u
  past_id Identifier = λ m n. absurd (twice_in_field id_slot (λ s x. refl) s t u m n)
  past_id InformationTypes = passes id_slot eits_slot (λ s x. refl) (λ s y. refl) (λ s x y. refl) s t u
  past_id ContentType = passes id_slot content_kind_slot (λ s x. refl) (λ s y. refl) (λ s x y. refl) s t u
  past_id MessagePriority = passes id_slot priority_slot (λ s x. refl) (λ s y. refl) (λ s x y. refl) s t u
  past_id Indicators = passes id_slot indicators_slot (λ s x. refl) (λ s y. refl) (λ s x y. refl) s t u
  past_id TraceList = passes id_slot trace_slot (λ s x. refl) (λ s y. refl) (λ s x y. refl) s t u
  past_id ContentIdentifier = passes id_slot content_id_slot (λ s x. refl) (λ s y. refl) (λ s x y. refl) s t u
  past_id Deferral = passes id_slot deferral_slot (λ s x. refl) (λ s y. refl) (λ s x y. refl) s t u
  past_id Length = passes id_slot length_slot (λ s x. refl) (λ s y. refl) (λ s x y. refl) s t u
  past_id Bilateral = passes id_slot bilateral_slot (λ s x. refl) (λ s y. refl) (λ s x y. refl) s t u
  past_id RecipientList = passes id_slot recipients_slot (λ s x. refl) (λ s y. refl) (λ s x y. refl) s t u
  past_id ExtensionSet = passes id_slot extensions_slot (λ s x. refl) (λ s y. refl) (λ s x y. refl) s t u

  -- each component passes the encoded information types
  past_eits : (k : EnvelopePart) → Passes InformationTypes k
  past_eits Originator = passes eits_slot originator_slot (λ s x. refl) (λ s y. refl) (λ s x y. refl) s t u
  past_eits Identifier = passes eits_slot id_slot (λ s x. refl) (λ s y. refl) (λ s x y. refl) s t u
  past_eits InformationTypes = λ m n. absurd (twice_in_field eits_slot (λ s x. refl) s t u m n)
  past_eits ContentType = passes eits_slot content_kind_slot (λ s x. refl) (λ s y. refl) (λ s x y. refl) s t u
  past_eits MessagePriority = passes eits_slot priority_slot (λ s x. refl) (λ s y. refl) (λ s x y. refl) s t u
  past_eits Indicators = passes eits_slot indicators_slot (λ s x. refl) (λ s y. refl) (λ s x y. refl) s t u
  past_eits TraceList = passes eits_slot trace_slot (λ s x. refl) (λ s y. refl) (λ s x y. refl) s t u
  past_eits ContentIdentifier = passes eits_slot content_id_slot (λ s x. refl) (λ s y. refl) (λ s x y. refl) s t u
  past_eits Deferral = passes eits_slot deferral_slot (λ s x. refl) (λ s y. refl) (λ s x y. refl) s t u
  past_eits Length = passes eits_slot length_slot (λ s x. refl) (λ s y. refl) (λ s x y. refl) s t u
  past_eits Bilateral = passes eits_slot bilateral_slot (λ s x. refl) (λ s y. refl) (λ s x y. refl) s t u
  past_eits RecipientList = passes eits_slot recipients_slot (λ s x. refl) (λ s y. refl) (λ s x y. refl) s t u
  past_eits ExtensionSet = passes eits_slot extensions_slot (λ s x. refl) (λ s y. refl) (λ s x y. refl) s t u

  -- each component passes the content type
  past_content_kind : (k : EnvelopePart) → Passes ContentType k
  past_content_kind Originator =
      passes content_kind_slot originator_slot (λ s x. refl) (λ s y. refl) (λ s x y. refl) s t u
  past_content_kind Identifier = passes content_kind_slot id_slot (λ s x. refl) (λ s y. refl) (λ s x y. refl) s t u
  past_content_kind InformationTypes =
      passes content_kind_slot eits_slot (λ s x. refl) (λ s y. refl) (λ s x y. refl) s t u
  past_content_kind ContentType = λ m n. absurd (twice_in_field content_kind_slot (λ s x. refl) s t u m n)
  past_content_kind MessagePriority =
      passes content_kind_slot priority_slot (λ s x. refl) (λ s y. refl) (λ s x y. refl) s t u
  past_content_kind Indicators =
      passes content_kind_slot indicators_slot (λ s x. refl) (λ s y. refl) (λ s x y. refl) s t u
  past_content_kind TraceList = passes content_kind_slot trace_slot (λ s x. refl) (λ s y. refl) (λ s x y. refl) s t u
  past_content_kind ContentIdentifier =
      passes content_kind_slot content_id_slot (λ s x. refl) (λ s y. refl) (λ s x y. refl) s t u
  past_content_kind Deferral =
      passes content_kind_slot deferral_slot (λ s x. refl) (λ s y. refl) (λ s x y. refl) s t u
  past_content_kind Length = passes content_kind_slot length_slot (λ s x. refl) (λ s y. refl) (λ s x y. refl) s t u
  past_content_kind Bilateral =
      passes content_kind_slot bilateral_slot (λ s x. refl) (λ s y. refl) (λ s x y. refl) s t u
  past_content_kind RecipientList =
      passes content_kind_slot recipients_slot (λ s x. refl) (λ s y. refl) (λ s x y. refl) s t u
  past_content_kind ExtensionSet =
      passes content_kind_slot extensions_slot (λ s x. refl) (λ s y. refl) (λ s x y. refl) s t u

  -- each component passes the priority
  past_priority : (k : EnvelopePart) → Passes MessagePriority k
  past_priority Originator = passes priority_slot originator_slot (λ s x. refl) (λ s y. refl) (λ s x y. refl) s t u
  past_priority Identifier = passes priority_slot id_slot (λ s x. refl) (λ s y. refl) (λ s x y. refl) s t u
  past_priority InformationTypes = passes priority_slot eits_slot (λ s x. refl) (λ s y. refl) (λ s x y. refl) s t u
  past_priority ContentType =
      passes priority_slot content_kind_slot (λ s x. refl) (λ s y. refl) (λ s x y. refl) s t u
  past_priority MessagePriority = λ m n. absurd (twice_in_field priority_slot (λ s x. refl) s t u m n)
  past_priority Indicators = passes priority_slot indicators_slot (λ s x. refl) (λ s y. refl) (λ s x y. refl) s t u
  past_priority TraceList = passes priority_slot trace_slot (λ s x. refl) (λ s y. refl) (λ s x y. refl) s t u
  past_priority ContentIdentifier =
      passes priority_slot content_id_slot (λ s x. refl) (λ s y. refl) (λ s x y. refl) s t u
  past_priority Deferral = passes priority_slot deferral_slot (λ s x. refl) (λ s y. refl) (λ s x y. refl) s t u
  past_priority Length = passes priority_slot length_slot (λ s x. refl) (λ s y. refl) (λ s x y. refl) s t u
  past_priority Bilateral = passes priority_slot bilateral_slot (λ s x. refl) (λ s y. refl) (λ s x y. refl) s t u
  past_priority RecipientList =
      passes priority_slot recipients_slot (λ s x. refl) (λ s y. refl) (λ s x y. refl) s t u
  past_priority ExtensionSet = passes priority_slot extensions_slot (λ s x. refl) (λ s y. refl) (λ s x y. refl) s t u

  -- each component passes the indicators
  past_indicators : (k : EnvelopePart) → Passes Indicators k
  past_indicators Originator =
      passes indicators_slot originator_slot (λ s x. refl) (λ s y. refl) (λ s x y. refl) s t u
  past_indicators Identifier = passes indicators_slot id_slot (λ s x. refl) (λ s y. refl) (λ s x y. refl) s t u
  past_indicators InformationTypes =
      passes indicators_slot eits_slot (λ s x. refl) (λ s y. refl) (λ s x y. refl) s t u
  past_indicators ContentType =
      passes indicators_slot content_kind_slot (λ s x. refl) (λ s y. refl) (λ s x y. refl) s t u
  past_indicators MessagePriority =
      passes indicators_slot priority_slot (λ s x. refl) (λ s y. refl) (λ s x y. refl) s t u
  past_indicators Indicators = λ m n. absurd (twice_in_field indicators_slot (λ s x. refl) s t u m n)
  past_indicators TraceList = passes indicators_slot trace_slot (λ s x. refl) (λ s y. refl) (λ s x y. refl) s t u
  past_indicators ContentIdentifier =
      passes indicators_slot content_id_slot (λ s x. refl) (λ s y. refl) (λ s x y. refl) s t u
  past_indicators Deferral = passes indicators_slot deferral_slot (λ s x. refl) (λ s y. refl) (λ s x y. refl) s t u
  past_indicators Length = passes indicators_slot length_slot (λ s x. refl) (λ s y. refl) (λ s x y. refl) s t u
  past_indicators Bilateral = passes indicators_slot bilateral_slot (λ s x. refl) (λ s y. refl) (λ s x y. refl) s t u
  past_indicators RecipientList =
      passes indicators_slot recipients_slot (λ s x. refl) (λ s y. refl) (λ s x y. refl) s t u
  past_indicators ExtensionSet =
      passes indicators_slot extensions_slot (λ s x. refl) (λ s y. refl) (λ s x y. refl) s t u

  -- each component passes the trace
  past_trace : (k : EnvelopePart) → Passes TraceList k
  past_trace Originator = passes trace_slot originator_slot (λ s x. refl) (λ s y. refl) (λ s x y. refl) s t u
  past_trace Identifier = passes trace_slot id_slot (λ s x. refl) (λ s y. refl) (λ s x y. refl) s t u
  past_trace InformationTypes = passes trace_slot eits_slot (λ s x. refl) (λ s y. refl) (λ s x y. refl) s t u
  past_trace ContentType = passes trace_slot content_kind_slot (λ s x. refl) (λ s y. refl) (λ s x y. refl) s t u
  past_trace MessagePriority = passes trace_slot priority_slot (λ s x. refl) (λ s y. refl) (λ s x y. refl) s t u
  past_trace Indicators = passes trace_slot indicators_slot (λ s x. refl) (λ s y. refl) (λ s x y. refl) s t u
  past_trace TraceList = λ m n. absurd (twice_in_field trace_slot (λ s x. refl) s t u m n)
  past_trace ContentIdentifier = passes trace_slot content_id_slot (λ s x. refl) (λ s y. refl) (λ s x y. refl) s t u
  past_trace Deferral = passes trace_slot deferral_slot (λ s x. refl) (λ s y. refl) (λ s x y. refl) s t u
  past_trace Length = passes trace_slot length_slot (λ s x. refl) (λ s y. refl) (λ s x y. refl) s t u
  past_trace Bilateral = passes trace_slot bilateral_slot (λ s x. refl) (λ s y. refl) (λ s x y. refl) s t u
  past_trace RecipientList = passes trace_slot recipients_slot (λ s x. refl) (λ s y. refl) (λ s x y. refl) s t u
  past_trace ExtensionSet = passes trace_slot extensions_slot (λ s x. refl) (λ s y. refl) (λ s x y. refl) s t u

  -- each component passes the content identifier
  past_content_id : (k : EnvelopePart) → Passes ContentIdentifier k
  past_content_id Originator =
      passes content_id_slot originator_slot (λ s x. refl) (λ s y. refl) (λ s x y. refl) s t u
  past_content_id Identifier = passes content_id_slot id_slot (λ s x. refl) (λ s y. refl) (λ s x y. refl) s t u
  past_content_id InformationTypes =
      passes content_id_slot eits_slot (λ s x. refl) (λ s y. refl) (λ s x y. refl) s t u
  past_content_id ContentType =
      passes content_id_slot content_kind_slot (λ s x. refl) (λ s y. refl) (λ s x y. refl) s t u
  past_content_id MessagePriority =
      passes content_id_slot priority_slot (λ s x. refl) (λ s y. refl) (λ s x y. refl) s t u
  past_content_id Indicators =
      passes content_id_slot indicators_slot (λ s x. refl) (λ s y. refl) (λ s x y. refl) s t u
  past_content_id TraceList = passes content_id_slot trace_slot (λ s x. refl) (λ s y. refl) (λ s x y. refl) s t u
  past_content_id ContentIdentifier = λ m n. absurd (twice_in_field content_id_slot (λ s x. refl) s t u m n)
  past_content_id Deferral = passes content_id_slot deferral_slot (λ s x. refl) (λ s y. refl) (λ s x y. refl) s t u
  past_content_id Length = passes content_id_slot length_slot (λ s x. refl) (λ s y. refl) (λ s x y. refl) s t u
  past_content_id Bilateral = passes content_id_slot bilateral_slot (λ s x. refl) (λ s y. refl) (λ s x y. refl) s t u
  past_content_id RecipientList =
      passes content_id_slot recipients_slot (λ s x. refl) (λ s y. refl) (λ s x y. refl) s t u
  past_content_id ExtensionSet =
      passes content_id_slot extensions_slot (λ s x. refl) (λ s y. refl) (λ s x y. refl) s t u

  -- each component passes the time of deferral
  past_deferral : (k : EnvelopePart) → Passes Deferral k
  past_deferral Originator = passes deferral_slot originator_slot (λ s x. refl) (λ s y. refl) (λ s x y. refl) s t u
  past_deferral Identifier = passes deferral_slot id_slot (λ s x. refl) (λ s y. refl) (λ s x y. refl) s t u
  past_deferral InformationTypes = passes deferral_slot eits_slot (λ s x. refl) (λ s y. refl) (λ s x y. refl) s t u
  past_deferral ContentType =
      passes deferral_slot content_kind_slot (λ s x. refl) (λ s y. refl) (λ s x y. refl) s t u
  past_deferral MessagePriority =
      passes deferral_slot priority_slot (λ s x. refl) (λ s y. refl) (λ s x y. refl) s t u
  past_deferral Indicators = passes deferral_slot indicators_slot (λ s x. refl) (λ s y. refl) (λ s x y. refl) s t u
  past_deferral TraceList = passes deferral_slot trace_slot (λ s x. refl) (λ s y. refl) (λ s x y. refl) s t u
  past_deferral ContentIdentifier =
      passes deferral_slot content_id_slot (λ s x. refl) (λ s y. refl) (λ s x y. refl) s t u
  past_deferral Deferral = λ m n. absurd (twice_in_field deferral_slot (λ s x. refl) s t u m n)
  past_deferral Length = passes deferral_slot length_slot (λ s x. refl) (λ s y. refl) (λ s x y. refl) s t u
  past_deferral Bilateral = passes deferral_slot bilateral_slot (λ s x. refl) (λ s y. refl) (λ s x y. refl) s t u
  past_deferral RecipientList =
      passes deferral_slot recipients_slot (λ s x. refl) (λ s y. refl) (λ s x y. refl) s t u
  past_deferral ExtensionSet = passes deferral_slot extensions_slot (λ s x. refl) (λ s y. refl) (λ s x y. refl) s t u

  -- each component passes the length
  past_length : (k : EnvelopePart) → Passes Length k
  past_length Originator = passes length_slot originator_slot (λ s x. refl) (λ s y. refl) (λ s x y. refl) s t u
  past_length Identifier = passes length_slot id_slot (λ s x. refl) (λ s y. refl) (λ s x y. refl) s t u
  past_length InformationTypes = passes length_slot eits_slot (λ s x. refl) (λ s y. refl) (λ s x y. refl) s t u
  past_length ContentType = passes length_slot content_kind_slot (λ s x. refl) (λ s y. refl) (λ s x y. refl) s t u
  past_length MessagePriority = passes length_slot priority_slot (λ s x. refl) (λ s y. refl) (λ s x y. refl) s t u
  past_length Indicators = passes length_slot indicators_slot (λ s x. refl) (λ s y. refl) (λ s x y. refl) s t u
  past_length TraceList = passes length_slot trace_slot (λ s x. refl) (λ s y. refl) (λ s x y. refl) s t u
  past_length ContentIdentifier =
      passes length_slot content_id_slot (λ s x. refl) (λ s y. refl) (λ s x y. refl) s t u
  past_length Deferral = passes length_slot deferral_slot (λ s x. refl) (λ s y. refl) (λ s x y. refl) s t u
  past_length Length = λ m n. absurd (twice_in_field length_slot (λ s x. refl) s t u m n)
  past_length Bilateral = passes length_slot bilateral_slot (λ s x. refl) (λ s y. refl) (λ s x y. refl) s t u
  past_length RecipientList = passes length_slot recipients_slot (λ s x. refl) (λ s y. refl) (λ s x y. refl) s t u
  past_length ExtensionSet = passes length_slot extensions_slot (λ s x. refl) (λ s y. refl) (λ s x y. refl) s t u

  -- each component passes the bilateral information
  past_bilateral : (k : EnvelopePart) → Passes Bilateral k
  past_bilateral Originator = passes bilateral_slot originator_slot (λ s x. refl) (λ s y. refl) (λ s x y. refl) s t u
  past_bilateral Identifier = passes bilateral_slot id_slot (λ s x. refl) (λ s y. refl) (λ s x y. refl) s t u
  past_bilateral InformationTypes = passes bilateral_slot eits_slot (λ s x. refl) (λ s y. refl) (λ s x y. refl) s t u
  past_bilateral ContentType =
      passes bilateral_slot content_kind_slot (λ s x. refl) (λ s y. refl) (λ s x y. refl) s t u
  past_bilateral MessagePriority =
      passes bilateral_slot priority_slot (λ s x. refl) (λ s y. refl) (λ s x y. refl) s t u
  past_bilateral Indicators = passes bilateral_slot indicators_slot (λ s x. refl) (λ s y. refl) (λ s x y. refl) s t u
  past_bilateral TraceList = passes bilateral_slot trace_slot (λ s x. refl) (λ s y. refl) (λ s x y. refl) s t u
  past_bilateral ContentIdentifier =
      passes bilateral_slot content_id_slot (λ s x. refl) (λ s y. refl) (λ s x y. refl) s t u
  past_bilateral Deferral = passes bilateral_slot deferral_slot (λ s x. refl) (λ s y. refl) (λ s x y. refl) s t u
  past_bilateral Length = passes bilateral_slot length_slot (λ s x. refl) (λ s y. refl) (λ s x y. refl) s t u
  past_bilateral Bilateral = λ m n. absurd (twice_in_field bilateral_slot (λ s x. refl) s t u m n)
  past_bilateral RecipientList =
      passes bilateral_slot recipients_slot (λ s x. refl) (λ s y. refl) (λ s x y. refl) s t u
  past_bilateral ExtensionSet =
      passes bilateral_slot extensions_slot (λ s x. refl) (λ s y. refl) (λ s x y. refl) s t u

  -- each component passes the recipients
  past_recipients : (k : EnvelopePart) → Passes RecipientList k
  past_recipients Originator =
      passes recipients_slot originator_slot (λ s x. refl) (λ s y. refl) (λ s x y. refl) s t u
  past_recipients Identifier = passes recipients_slot id_slot (λ s x. refl) (λ s y. refl) (λ s x y. refl) s t u
  past_recipients InformationTypes =
      passes recipients_slot eits_slot (λ s x. refl) (λ s y. refl) (λ s x y. refl) s t u
  past_recipients ContentType =
      passes recipients_slot content_kind_slot (λ s x. refl) (λ s y. refl) (λ s x y. refl) s t u
  past_recipients MessagePriority =
      passes recipients_slot priority_slot (λ s x. refl) (λ s y. refl) (λ s x y. refl) s t u
  past_recipients Indicators =
      passes recipients_slot indicators_slot (λ s x. refl) (λ s y. refl) (λ s x y. refl) s t u
  past_recipients TraceList = passes recipients_slot trace_slot (λ s x. refl) (λ s y. refl) (λ s x y. refl) s t u
  past_recipients ContentIdentifier =
      passes recipients_slot content_id_slot (λ s x. refl) (λ s y. refl) (λ s x y. refl) s t u
  past_recipients Deferral = passes recipients_slot deferral_slot (λ s x. refl) (λ s y. refl) (λ s x y. refl) s t u
  past_recipients Length = passes recipients_slot length_slot (λ s x. refl) (λ s y. refl) (λ s x y. refl) s t u
  past_recipients Bilateral = passes recipients_slot bilateral_slot (λ s x. refl) (λ s y. refl) (λ s x y. refl) s t u
  past_recipients RecipientList = λ m n. absurd (twice_in_field recipients_slot (λ s x. refl) s t u m n)
  past_recipients ExtensionSet =
      passes recipients_slot extensions_slot (λ s x. refl) (λ s y. refl) (λ s x y. refl) s t u

  -- each component passes the extensions
  past_extensions : (k : EnvelopePart) → Passes ExtensionSet k
  past_extensions Originator =
      passes extensions_slot originator_slot (λ s x. refl) (λ s y. refl) (λ s x y. refl) s t u
  past_extensions Identifier = passes extensions_slot id_slot (λ s x. refl) (λ s y. refl) (λ s x y. refl) s t u
  past_extensions InformationTypes =
      passes extensions_slot eits_slot (λ s x. refl) (λ s y. refl) (λ s x y. refl) s t u
  past_extensions ContentType =
      passes extensions_slot content_kind_slot (λ s x. refl) (λ s y. refl) (λ s x y. refl) s t u
  past_extensions MessagePriority =
      passes extensions_slot priority_slot (λ s x. refl) (λ s y. refl) (λ s x y. refl) s t u
  past_extensions Indicators =
      passes extensions_slot indicators_slot (λ s x. refl) (λ s y. refl) (λ s x y. refl) s t u
  past_extensions TraceList = passes extensions_slot trace_slot (λ s x. refl) (λ s y. refl) (λ s x y. refl) s t u
  past_extensions ContentIdentifier =
      passes extensions_slot content_id_slot (λ s x. refl) (λ s y. refl) (λ s x y. refl) s t u
  past_extensions Deferral = passes extensions_slot deferral_slot (λ s x. refl) (λ s y. refl) (λ s x y. refl) s t u
  past_extensions Length = passes extensions_slot length_slot (λ s x. refl) (λ s y. refl) (λ s x y. refl) s t u
  past_extensions Bilateral = passes extensions_slot bilateral_slot (λ s x. refl) (λ s y. refl) (λ s x y. refl) s t u
  past_extensions RecipientList =
      passes extensions_slot recipients_slot (λ s x. refl) (λ s y. refl) (λ s x y. refl) s t u
  past_extensions ExtensionSet = λ m n. absurd (twice_in_field extensions_slot (λ s x. refl) s t u m n)

  swapped : (j k : EnvelopePart) → Passes j k
  swapped Originator = past_originator
  swapped Identifier = past_id
  swapped InformationTypes = past_eits
  swapped ContentType = past_content_kind
  swapped MessagePriority = past_priority
  swapped Indicators = past_indicators
  swapped TraceList = past_trace
  swapped ContentIdentifier = past_content_id
  swapped Deferral = past_deferral
  swapped Length = past_length
  swapped Bilateral = past_bilateral
  swapped RecipientList = past_recipients
  swapped ExtensionSet = past_extensions

-- whether it is a probe stays the same
probe_kept : (k : EnvelopePart) (depth : ℕ) (s t : EnvelopeParts) (tag : Tag) (content octets : List ℕ)
    → MakesEnvelopePart k depth s tag content octets t → t.probe ≡ s.probe
probe_kept Originator depth s t tag content octets m = ap (λ (r : EnvelopeParts). r.probe) m.1.after_is
probe_kept Identifier depth s t tag content octets m = ap (λ (r : EnvelopeParts). r.probe) m.1.after_is
probe_kept InformationTypes depth s t tag content octets m = ap (λ (r : EnvelopeParts). r.probe) m.1.after_is
probe_kept ContentType depth s t tag content octets m = ap (λ (r : EnvelopeParts). r.probe) m.1.after_is
probe_kept MessagePriority depth s t tag content octets m = ap (λ (r : EnvelopeParts). r.probe) m.1.after_is
probe_kept Indicators depth s t tag content octets m = ap (λ (r : EnvelopeParts). r.probe) m.1.after_is
probe_kept TraceList depth s t tag content octets m = ap (λ (r : EnvelopeParts). r.probe) m.1.after_is
probe_kept ContentIdentifier depth s t tag content octets m = ap (λ (r : EnvelopeParts). r.probe) m.1.after_is
probe_kept Deferral depth s t tag content octets m = ap (λ (r : EnvelopeParts). r.probe) m.1.after_is
probe_kept Length depth s t tag content octets m = ap (λ (r : EnvelopeParts). r.probe) m.1.after_is
probe_kept Bilateral depth s t tag content octets m = ap (λ (r : EnvelopeParts). r.probe) m.1.after_is
probe_kept RecipientList depth s t tag content octets m = ap (λ (r : EnvelopeParts). r.probe) m.1.after_is
probe_kept ExtensionSet depth s t tag content octets m = ap (λ (r : EnvelopeParts). r.probe) m.1.after_is

pub envelopes_change : ChangePlaces MakesEnvelope
envelopes_change depth s t u a b h k =
    let m = h.made in
    let n = k.made in
    let w = swapped depth s t u h.tag h.content a k.tag k.content b m.part n.part m.made n.made in (
      w.0,
      record {
        tag = k.tag;
        content = k.content;
        stands = k.stands;
        made = record {
          part = n.part;
          is_tag_of =
              subst (λ v. is_envelope_tag v n.part k.tag ≡ true)
              (probe_kept m.part depth s t h.tag h.content a m.made) n.is_tag_of;
          made = w.1;
        };
      },
      record {
        tag = h.tag;
        content = h.content;
        stands = h.stands;
        made = record {
          part = m.part;
          is_tag_of =
              subst (λ v. is_envelope_tag v m.part h.tag ≡ true)
              (sym (probe_kept n.part depth s w.0 k.tag k.content b w.1)) m.is_tag_of;
          made = w.2;
        };
      },
    )
