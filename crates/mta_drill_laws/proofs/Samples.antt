-- The sample of a message, whose envelope that of a drill's message is but for its identifier: it is read, by
-- computation, so all its parts are in their ranges.
use Rattle.std.proofs.Common.{◌≡◌, ℕ, zero, suc, true, List, [], ◌∷◌, nat_lt, refl, arith}
use Rattle.std.specs.Prelude.{Bool}
use Rattle.std.specs.List.{list_all}
use Rattle.std.proofs.lemmas.Bool.{and_parts, ltb-true}
use Rattle.mta_ber.specs.Octet.{IsOctets}
use Rattle.mta_ber.specs.Bits.{bits_in}
use Rattle.mta_ber.specs.Canon.{length_octets, high_octets, ident_octets, element}
use Rattle.mta_ber.specs.Contents.{int_content, bits_content}
use Rattle.mta_ber.specs.Element.{content_size, element_size, row, run, part_from, part, first, next_part, inner, alone}
use Rattle.mta_ber.specs.Head.{ident, length_at, head}
use Rattle.mta_ber.specs.Int.{int_in}
use Rattle.mta_ber.specs.Oid.{oid_in}
use Rattle.mta_ber.specs.Parts.{parts_from, parts_of}
use Rattle.mta_ber.specs.Strings.{gather, joined_as, text_in}
use Rattle.mta_names.specs.Extensions.{value_in, attribute_step, attribute_parts_in, attribute_in, extension_step}
use Rattle.mta_names.specs.Extensions.{extensions_in}
use Rattle.mta_names.specs.Labels.{country_choice, label_choice}
use Rattle.mta_names.specs.Lists.{units_in, pair_step, pair_in, pairs_in}
use Rattle.mta_names.specs.Names.{name_step, name_in, canonical_name}
use Rattle.mta_names.specs.Persons.{person_step, person_in}
use Rattle.mta_names.specs.Standard.{standard_step, standard_in}
use Rattle.mta_names.specs.Strings.{string_in, number_in}
use Rattle.mta_fields.specs.Domains.{domain_step, domain_in, canonical_domain}
use Rattle.mta_fields.specs.Expansions.{expansion_step, expansion_in}
use Rattle.mta_fields.specs.ExtensionFields.{plain_kind_in, kind_in, ext_step, ext_in}
use Rattle.mta_fields.specs.Identifiers.{id_step, id_in, canonical_id}
use Rattle.mta_fields.specs.TraceElements.{trace_step, trace_in, canonical_trace}
use Rattle.mta_fields.specs.Traces.{supplied_step, supplied_in, canonical_supplied}
use Rattle.mta_envelope_extensions.specs.Fields.{field_step, field_in}
use Rattle.mta_envelope_extensions.specs.Told.{extension_step as told_step, extensions_in as told_in}
use Rattle.mta_envelope_extensions.specs.Topics.{history_in}
use Rattle.mta_envelope_common.specs.ContentKinds.{content_kind_in}
use Rattle.mta_envelope_common.specs.ExtensionLists.{ext_list_in}
use Rattle.mta_envelope_common.specs.TraceLists.{trace_list_in, canonical_trace_list}
use Rattle.mta_envelope_recipient.specs.Lists.{recipients_in, canonical_recipients}
use Rattle.mta_envelope_recipient.specs.Recipients.{recipient_step, recipient_in, canonical_recipient}
use Rattle.mta_envelope.specs.Components.{length_in, envelope_step}
use Rattle.mta_envelope.specs.Contents.{content_as, content_in}
use Rattle.mta_envelope.specs.Envelopes.{envelope_in, envelope_front, envelope_middle, envelope_back, envelope_content}
use Rattle.mta_envelope.specs.Laws.{IsWholeEnvelope, KeepsEnvelope}
use Rattle.mta_envelope.specs.Messages.{message_as, set_in, last_in, message_in, canonical_message}
use Rattle.mta_apdu.specs.Apdus.{ApduValue, message, canonical_apdu, SpellsStored, apdu_as, apdu_in, ends, stored_of}
use Rattle.mta_apdu.proofs.ApduAgain.{stored_kept}
use Rattle.mta_apdu.proofs.ApduLaws.{stored_sound}
use Rattle.mta_procedures.specs.Rows.{envelope_to, sample, to, watt}

is_octet : ℕ → Bool
is_octet b = nat_lt b 256

octets_are : (xs : List ℕ) → list_all is_octet xs ≡ true → IsOctets xs
unfolding is_octet
octets_are [] e i = omega arith
octets_are (x ∷ xs) e zero = ltb-true x 256 (and_parts (nat_lt x 256) (list_all is_octet xs) e).0
octets_are (x ∷ xs) e (suc i) = octets_are xs (and_parts (nat_lt x 256) (list_all is_octet xs) e).1 i

unfoldable sample_octets : List ℕ
sample_octets = canonical_apdu (message sample)

abbrev sample_value : ApduValue
sample_value = message (message_as sample.envelope (content_as true sample.content.octets))

sample_spelled : SpellsStored sample_octets sample_value
unfolding value_in attribute_step attribute_parts_in attribute_in extension_step extensions_in country_choice
    label_choice units_in pair_step pair_in pairs_in name_step name_in canonical_name person_step person_in
    standard_step standard_in string_in number_in bits_in length_octets high_octets ident_octets element int_content
    bits_content content_size element_size row run part_from part first next_part inner alone ident length_at head
    int_in oid_in parts_from parts_of gather joined_as text_in domain_step domain_in canonical_domain expansion_step
    expansion_in plain_kind_in kind_in ext_step ext_in id_step id_in canonical_id trace_step trace_in canonical_trace
    supplied_step supplied_in canonical_supplied field_step field_in told_step told_in history_in content_kind_in
    ext_list_in trace_list_in canonical_trace_list recipients_in canonical_recipients recipient_step recipient_in
    canonical_recipient length_in envelope_step content_in envelope_in envelope_front envelope_middle envelope_back
    envelope_content set_in last_in message_in canonical_message apdu_as apdu_in ends stored_of sample_octets is_octet
sample_spelled = stored_sound sample_octets sample_value (octets_are sample_octets refl) refl

-- its envelope is whole
pub sample_whole : IsWholeEnvelope (envelope_to (to watt 1 ∷ []))
sample_whole = (stored_kept sample_octets sample_value sample_spelled).1.0

-- and what it keeps unread stands at its level
pub sample_keeps : KeepsEnvelope 2 (envelope_to (to watt 1 ∷ []))
sample_keeps = (stored_kept sample_octets sample_value sample_spelled).0
