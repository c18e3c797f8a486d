-- Worked histories, by computation.
use Rattle.std.proofs.Common.{◌≡◌, ℕ, zero, suc, ◌<◌, true, false, List, [], ◌∷◌, Some, nat_lt, refl}
use Rattle.std.proofs.Common.{ap, ◌∙◌, ◌≤◌, ◌^◌, arith}
use Rattle.std.specs.Prelude.{Bool, length}
use Rattle.std.specs.List.{list_all}
use Rattle.std.proofs.lemmas.Bool.{and_parts, ltb-true}
use Rattle.mta_ber.specs.Octet.{IsOctets}
use Rattle.mta_apdu.specs.Apdus.{message}
use Rattle.mta_apdu.proofs.ApduLaws.{apdu_sound}
use Rattle.mta_envelope.specs.Contents.{content_as}
use Rattle.mta_envelope.specs.Messages.{message_as}
use Rattle.mta_machine.specs.Apdu.{IsApdu}
use Rattle.mta_histories.specs.Classes.{class_of}
use Rattle.mta_histories.specs.History.{IsHistory, IsPossible, StepNeeds, MachineNeeds, after, after_step, when}
use Rattle.mta_histories.specs.Lanes.{State}
use Rattle.mta_histories.proofs.Dues.{of-one}
use Rattle.mta_procedures.specs.Rows.{sample, posted}
use Rattle.mta_worked_histories.specs.Cases.{plain_text, lists_text, peer_text, to_watt, to_list}
use Rattle.jiff_core.specs.Calendar.{days_from_civil, day_count, days_of_years, days_of_months}
use Rattle.mta_records.specs.declared.step.Step.{Step}
use Rattle.mta_records.specs.declared.step.Step.TheVariants as made
use Rattle.mta_lane_send.specs.declared.state.SendState.{SendState}
use Rattle.mta_lane_send.specs.declared.state.SendState.TheVariants.{Sending}
use Rattle.mta_lane_send.specs.Half.{is_ending}
use Rattle.mta_worked_histories.specs.Cases.{unknown_name, lists_of_each_other, started, sent_over, sending_in}
use Rattle.mta_worked_histories.specs.Cases.{UnknownNameIsReported, ListsOfEachOtherEnd, StartedIsSent}
use Rattle.mta_ber.specs.Bits.{bits_in}
use Rattle.mta_ber.specs.Canon.{length_octets, high_octets, ident_octets, element}
use Rattle.mta_ber.specs.Contents.{int_content, bits_content, civil_from, civil_of, utc_content}
use Rattle.mta_ber.specs.Element.{content_size, element_size, row, run, part_from, part, first, next_part, inner, alone}
use Rattle.mta_ber.specs.Head.{ident, length_at, head}
use Rattle.mta_ber.specs.Int.{int_in}
use Rattle.mta_ber.specs.Oid.{oid_in}
use Rattle.mta_ber.specs.Parts.{parts_from, parts_of}
use Rattle.mta_ber.specs.Strings.{gather, joined_as, text_in}
use Rattle.mta_ber.specs.Times.{offset, stamp, stamp_seconds, moment_of_stamp, moment_of, utc_in}
use Rattle.mta_names.specs.Extensions.{value_in, attribute_step, attribute_parts_in, attribute_in, extension_step}
use Rattle.mta_names.specs.Extensions.{extensions_in}
use Rattle.mta_names.specs.Labels.{country_choice, label_choice}
use Rattle.mta_names.specs.Lists.{units_in, pair_step, pair_in, pairs_in}
use Rattle.mta_names.specs.Names.{name_step, name_in, canonical_name}
use Rattle.mta_names.specs.Normal.{normal_text, is_same_name}
use Rattle.mta_names.specs.Persons.{person_step, person_in}
use Rattle.mta_names.specs.Standard.{standard_step, standard_in}
use Rattle.mta_names.specs.Strings.{string_in, number_in}
use Rattle.mta_fields.specs.Domains.{domain_step, domain_in, canonical_domain}
use Rattle.mta_fields.specs.Expansions.{expansion_step, expansion_in, canonical_expansion}
use Rattle.mta_fields.specs.ExtensionFields.{plain_kind_in, kind_in, ext_step, ext_in, canonical_ext}
use Rattle.mta_fields.specs.Identifiers.{id_step, id_in, canonical_id}
use Rattle.mta_fields.specs.TraceElements.{trace_step, trace_in, canonical_trace}
use Rattle.mta_fields.specs.Traces.{supplied_step, supplied_in, canonical_supplied}
use Rattle.mta_name_text.specs.Forms.{text_form}
use Rattle.mta_name_text.specs.Made.{name_of_text, pattern_of_text}
use Rattle.mta_name_text.specs.Reading.{is_front, named, step_front, step_kind, step_value, step as text_step, finish}
use Rattle.mta_name_text.specs.Reading.{parts_of_text}
use Rattle.mta_name_text.specs.Shapes.{is_value, is_begun}
use Rattle.mta_envelope_extensions.specs.Fields.{field_step, field_in}
use Rattle.mta_envelope_extensions.specs.Told.{extension_step as told_step, extensions_in as told_in}
use Rattle.mta_envelope_extensions.specs.Topics.{history_in}
use Rattle.mta_envelope_common.specs.ContentKinds.{content_kind_in}
use Rattle.mta_envelope_common.specs.ExtensionLists.{ext_list_in}
use Rattle.mta_envelope_common.specs.TraceLists.{trace_list_in, canonical_trace_list}
use Rattle.mta_envelope_recipient.specs.Lists.{recipients_in, canonical_recipients}
use Rattle.mta_envelope_recipient.specs.Recipients.{recipient_step, recipient_in, canonical_recipient}
use Rattle.mta_envelope.specs.Components.{length_in, envelope_step}
use Rattle.mta_envelope.specs.Contents.{content_in}
use Rattle.mta_envelope.specs.Envelopes.{envelope_in, envelope_front, envelope_middle, envelope_back, envelope_content}
use Rattle.mta_envelope.specs.Messages.{set_in, last_in, message_in, probe_in, canonical_message, canonical_probe}
use Rattle.mta_report_recipient.specs.Deliveries.{delivery_step, delivery_in}
use Rattle.mta_report_recipient.specs.Failures.{failure_step, failure_in}
use Rattle.mta_report_recipient.specs.LastTraces.{last_step, last_in as last_trace_in, canonical_last}
use Rattle.mta_report_recipient.specs.Outcomes.{outcome_choice}
use Rattle.mta_report_recipient.specs.ReportedRecipients.{reported_step, reported_in, reported_list_in}
use Rattle.mta_report_recipient.specs.ReportedRecipients.{canonical_reported}
use Rattle.mta_report_recipient.specs.ReportedRecipients.{canonical_reported_list}
use Rattle.mta_report.specs.ReportContents.{content_step, content_in as report_content_in, canonical_content}
use Rattle.mta_report.specs.ReportEnvelopes.{envelope_step as report_envelope_step, envelope_in as report_envelope_in}
use Rattle.mta_report.specs.ReportEnvelopes.{canonical_envelope}
use Rattle.mta_report.specs.Reports.{report_step, report_in, canonical_report}
use Rattle.mta_apdu.specs.Apdus.{apdu_as, apdu_in, ends, stored_of, apdu_of}
use Rattle.mta_tables.specs.Hops.{is_best, best_hop}
use Rattle.mta_tables.specs.Lines.{name_of, pattern_of, peer_words, hold_words, route_line, peer_line, mailbox_line}
use Rattle.mta_tables.specs.Lines.{list_line, from_line, member_line, hold_line, line_of}
use Rattle.mta_tables.specs.Reading.{take_line}
use Rattle.mta_tables.specs.Tables.{tables_of}
use Rattle.mta_procedures.specs.Bits.{with_responsibility, reported_indicators}
use Rattle.mta_procedures.specs.Copies.{outgoing_message, outgoing_probe, outgoing_report}
use Rattle.mta_procedures.specs.Heads.{outgoing_head}
use Rattle.mta_procedures.specs.Members.{history_octets, members_copy}
use Rattle.mta_procedures.specs.Reports.{report_id, report_of}
use Rattle.mta_procedures.specs.Verdicts.{first_case, verdict_of_message, verdict_of_probe, verdict_of_report}
use Rattle.mta_procedures.specs.Walks.{report_walk, passed_to}
use Rattle.mta_machine.specs.Apdu.{value_of, responsible_in}
use Rattle.mta_machine.specs.Rules.{tables_value, is_tables_text, names_peer, peer_word, mailbox_word, route_word}
use Rattle.mta_machine.specs.Rules.{verdict_of, is_expired, delivery_report, non_delivery_report, expansion}
use Rattle.mta_machine.specs.Rules.{accepted_in, passed_back, outgoing_copy}

is_octet : ℕ → Bool
is_octet b = nat_lt b 256

octets_are : (xs : List ℕ) → list_all is_octet xs ≡ true → IsOctets xs
unfolding is_octet
octets_are [] e i = omega arith
octets_are (x ∷ xs) e zero = ltb-true x 256 (and_parts (nat_lt x 256) (list_all is_octet xs) e).0
octets_are (x ∷ xs) e (suc i) = octets_are xs (and_parts (nat_lt x 256) (list_all is_octet xs) e).1 i

plain_is_read : is_tables_text plain_text ≡ true
unfolding value_in attribute_step attribute_parts_in attribute_in extension_step extensions_in country_choice
    label_choice units_in pair_step pair_in pairs_in name_step name_in canonical_name normal_text is_same_name
    person_step person_in standard_step standard_in string_in number_in text_form name_of_text pattern_of_text is_front
    named step_front step_kind step_value text_step finish parts_of_text is_value is_begun is_best best_hop name_of
    pattern_of peer_words hold_words route_line peer_line mailbox_line list_line from_line member_line hold_line line_of
    take_line tables_of tables_value is_tables_text plain_text
plain_is_read = refl

to_watt_is : IsApdu to_watt
unfolding value_in attribute_step attribute_parts_in attribute_in extension_step extensions_in country_choice
    label_choice units_in pair_step pair_in pairs_in name_step name_in canonical_name normal_text is_same_name
    person_step person_in standard_step standard_in string_in number_in text_form name_of_text pattern_of_text is_front
    named step_front step_kind step_value text_step finish parts_of_text is_value is_begun is_best best_hop name_of
    pattern_of peer_words hold_words route_line peer_line mailbox_line list_line from_line member_line hold_line line_of
    take_line tables_of bits_in length_octets high_octets ident_octets element int_content bits_content civil_from
    civil_of utc_content content_size element_size row run part_from part first next_part inner alone ident length_at
    head int_in oid_in parts_from parts_of gather joined_as text_in offset stamp stamp_seconds moment_of_stamp moment_of
    utc_in domain_step domain_in canonical_domain expansion_step expansion_in canonical_expansion plain_kind_in kind_in
    ext_step ext_in canonical_ext id_step id_in canonical_id trace_step trace_in canonical_trace supplied_step
    supplied_in canonical_supplied field_step field_in told_step told_in history_in content_kind_in ext_list_in
    trace_list_in canonical_trace_list recipients_in canonical_recipients recipient_step recipient_in
    canonical_recipient length_in envelope_step content_in envelope_in envelope_front envelope_middle envelope_back
    envelope_content set_in last_in message_in probe_in canonical_message canonical_probe delivery_step delivery_in
    failure_step failure_in last_step last_trace_in canonical_last outcome_choice reported_step reported_in
    reported_list_in canonical_reported canonical_reported_list content_step report_content_in canonical_content
    report_envelope_step report_envelope_in canonical_envelope report_step report_in canonical_report apdu_as apdu_in
    ends stored_of apdu_of with_responsibility reported_indicators outgoing_message outgoing_probe outgoing_report
    outgoing_head history_octets members_copy report_id report_of first_case verdict_of_message verdict_of_probe
    verdict_of_report report_walk passed_to value_of responsible_in tables_value is_tables_text names_peer peer_word
    mailbox_word route_word verdict_of is_expired delivery_report non_delivery_report expansion accepted_in passed_back
    outgoing_copy to_watt is_octet
to_watt_is = (
  message (message_as sample.envelope (content_as true sample.content.octets)),
  apdu_sound to_watt _ (octets_are to_watt refl) refl,
)

at_once : (a b : ℕ) → a ≡ 0 → a ≤ b
at_once a b e = omega (arith, e)

few : (n : ℕ) → nat_lt n 4 ≡ true → n < 2 ^ 32
few n e = let small : n < 4 = ltb-true n 4 e in omega (arith, small)

-- a step that is allowed is possible where it is in time and items are few
possible : {s : State} {step : Step} → StepNeeds s (class_of step) (when s step)
    → MachineNeeds s (class_of step) (when s step) → s.moment ≤ when s step
    → length (after_step s step).machine.items < 2 ^ 32 → IsPossible s step
possible allowed as_machine timely numbers =
    record { allowed = allowed; as_machine = as_machine; timely = timely; numbers = numbers }

to_list_is : IsApdu to_list
unfolding value_in attribute_step attribute_parts_in attribute_in extension_step extensions_in country_choice
    label_choice units_in pair_step pair_in pairs_in name_step name_in canonical_name normal_text is_same_name
    person_step person_in standard_step standard_in string_in number_in text_form name_of_text pattern_of_text is_front
    named step_front step_kind step_value text_step finish parts_of_text is_value is_begun is_best best_hop name_of
    pattern_of peer_words hold_words route_line peer_line mailbox_line list_line from_line member_line hold_line line_of
    take_line tables_of bits_in length_octets high_octets ident_octets element int_content bits_content civil_from
    civil_of utc_content content_size element_size row run part_from part first next_part inner alone ident length_at
    head int_in oid_in parts_from parts_of gather joined_as text_in offset stamp stamp_seconds moment_of_stamp moment_of
    utc_in domain_step domain_in canonical_domain expansion_step expansion_in canonical_expansion plain_kind_in kind_in
    ext_step ext_in canonical_ext id_step id_in canonical_id trace_step trace_in canonical_trace supplied_step
    supplied_in canonical_supplied field_step field_in told_step told_in history_in content_kind_in ext_list_in
    trace_list_in canonical_trace_list recipients_in canonical_recipients recipient_step recipient_in
    canonical_recipient length_in envelope_step content_in envelope_in envelope_front envelope_middle envelope_back
    envelope_content set_in last_in message_in probe_in canonical_message canonical_probe delivery_step delivery_in
    failure_step failure_in last_step last_trace_in canonical_last outcome_choice reported_step reported_in
    reported_list_in canonical_reported canonical_reported_list content_step report_content_in canonical_content
    report_envelope_step report_envelope_in canonical_envelope report_step report_in canonical_report apdu_as apdu_in
    ends stored_of apdu_of with_responsibility reported_indicators outgoing_message outgoing_probe outgoing_report
    outgoing_head history_octets members_copy report_id report_of first_case verdict_of_message verdict_of_probe
    verdict_of_report report_walk passed_to value_of responsible_in tables_value is_tables_text names_peer peer_word
    mailbox_word route_word verdict_of is_expired delivery_report non_delivery_report expansion accepted_in passed_back
    outgoing_copy to_list is_octet
to_list_is = (
  message (message_as posted.envelope (content_as true posted.content.octets)),
  apdu_sound to_list _ (octets_are to_list refl) refl,
)

-- ---- a name that nobody has

unknown_possible : IsHistory unknown_name
unfolding value_in attribute_step attribute_parts_in attribute_in extension_step extensions_in country_choice
    label_choice units_in pair_step pair_in pairs_in name_step name_in canonical_name normal_text is_same_name
    person_step person_in standard_step standard_in string_in number_in text_form name_of_text pattern_of_text is_front
    named step_front step_kind step_value text_step finish parts_of_text is_value is_begun is_best best_hop name_of
    pattern_of peer_words hold_words route_line peer_line mailbox_line list_line from_line member_line hold_line line_of
    take_line tables_of bits_in length_octets high_octets ident_octets element int_content bits_content civil_from
    civil_of utc_content content_size element_size row run part_from part first next_part inner alone ident length_at
    head int_in oid_in parts_from parts_of gather joined_as text_in offset stamp stamp_seconds moment_of_stamp moment_of
    utc_in domain_step domain_in canonical_domain expansion_step expansion_in canonical_expansion plain_kind_in kind_in
    ext_step ext_in canonical_ext id_step id_in canonical_id trace_step trace_in canonical_trace supplied_step
    supplied_in canonical_supplied field_step field_in told_step told_in history_in content_kind_in ext_list_in
    trace_list_in canonical_trace_list recipients_in canonical_recipients recipient_step recipient_in
    canonical_recipient length_in envelope_step content_in envelope_in envelope_front envelope_middle envelope_back
    envelope_content set_in last_in message_in probe_in canonical_message canonical_probe delivery_step delivery_in
    failure_step failure_in last_step last_trace_in canonical_last outcome_choice reported_step reported_in
    reported_list_in canonical_reported canonical_reported_list content_step report_content_in canonical_content
    report_envelope_step report_envelope_in canonical_envelope report_step report_in canonical_report apdu_as apdu_in
    ends stored_of apdu_of with_responsibility reported_indicators outgoing_message outgoing_probe outgoing_report
    outgoing_head history_octets members_copy report_id report_of first_case verdict_of_message verdict_of_probe
    verdict_of_report report_walk passed_to value_of responsible_in tables_value is_tables_text names_peer peer_word
    mailbox_word route_word verdict_of is_expired delivery_report non_delivery_report expansion accepted_in passed_back
    outgoing_copy days_from_civil day_count days_of_years days_of_months plain_text lists_text peer_text to_watt to_list
unknown_possible = (
  record { allowed = refl; as_machine = tt; timely = at_once _ _ refl; numbers = few _ refl },
  (
    record {
      allowed = tt;
      as_machine = (to_watt_is, (λ e. absurd cc), at_once _ _ refl);
      timely = at_once _ _ refl;
      numbers = few _ refl;
    },
    (
      record {
        allowed = refl;
        as_machine = (of-one _ 1 refl, (refl, tt), (1, refl, refl), at_once _ _ refl);
        timely =
            at_once _ _ refl;
        numbers = few _ refl;
      },
      (
        record {
          allowed = refl;
          as_machine = (of-one _ 1 refl, (refl, tt), (1, refl, refl), at_once _ _ refl);
          timely =
              at_once _ _ refl;
          numbers = few _ refl;
        },
        tt,
      ),
    ),
  ),
)

pub unknown_name_is_reported : UnknownNameIsReported
unfolding value_in attribute_step attribute_parts_in attribute_in extension_step extensions_in country_choice
    label_choice units_in pair_step pair_in pairs_in name_step name_in canonical_name normal_text is_same_name
    person_step person_in standard_step standard_in string_in number_in text_form name_of_text pattern_of_text is_front
    named step_front step_kind step_value text_step finish parts_of_text is_value is_begun is_best best_hop name_of
    pattern_of peer_words hold_words route_line peer_line mailbox_line list_line from_line member_line hold_line line_of
    take_line tables_of bits_in length_octets high_octets ident_octets element int_content bits_content civil_from
    civil_of utc_content content_size element_size row run part_from part first next_part inner alone ident length_at
    head int_in oid_in parts_from parts_of gather joined_as text_in offset stamp stamp_seconds moment_of_stamp moment_of
    utc_in domain_step domain_in canonical_domain expansion_step expansion_in canonical_expansion plain_kind_in kind_in
    ext_step ext_in canonical_ext id_step id_in canonical_id trace_step trace_in canonical_trace supplied_step
    supplied_in canonical_supplied field_step field_in told_step told_in history_in content_kind_in ext_list_in
    trace_list_in canonical_trace_list recipients_in canonical_recipients recipient_step recipient_in
    canonical_recipient length_in envelope_step content_in envelope_in envelope_front envelope_middle envelope_back
    envelope_content set_in last_in message_in probe_in canonical_message canonical_probe delivery_step delivery_in
    failure_step failure_in last_step last_trace_in canonical_last outcome_choice reported_step reported_in
    reported_list_in canonical_reported canonical_reported_list content_step report_content_in canonical_content
    report_envelope_step report_envelope_in canonical_envelope report_step report_in canonical_report apdu_as apdu_in
    ends stored_of apdu_of with_responsibility reported_indicators outgoing_message outgoing_probe outgoing_report
    outgoing_head history_octets members_copy report_id report_of first_case verdict_of_message verdict_of_probe
    verdict_of_report report_walk passed_to value_of responsible_in tables_value is_tables_text names_peer peer_word
    mailbox_word route_word verdict_of is_expired delivery_report non_delivery_report expansion accepted_in passed_back
    outgoing_copy days_from_civil day_count days_of_years days_of_months plain_text lists_text peer_text to_watt to_list
unknown_name_is_reported = record {
  history = unknown_possible;
  first = refl;
  second = refl;
  no_third = refl;
  no_delivery = refl;
}

-- ---- lists of each other

lists_possible : IsHistory lists_of_each_other
unfolding value_in attribute_step attribute_parts_in attribute_in extension_step extensions_in country_choice
    label_choice units_in pair_step pair_in pairs_in name_step name_in canonical_name normal_text is_same_name
    person_step person_in standard_step standard_in string_in number_in text_form name_of_text pattern_of_text is_front
    named step_front step_kind step_value text_step finish parts_of_text is_value is_begun is_best best_hop name_of
    pattern_of peer_words hold_words route_line peer_line mailbox_line list_line from_line member_line hold_line line_of
    take_line tables_of bits_in length_octets high_octets ident_octets element int_content bits_content civil_from
    civil_of utc_content content_size element_size row run part_from part first next_part inner alone ident length_at
    head int_in oid_in parts_from parts_of gather joined_as text_in offset stamp stamp_seconds moment_of_stamp moment_of
    utc_in domain_step domain_in canonical_domain expansion_step expansion_in canonical_expansion plain_kind_in kind_in
    ext_step ext_in canonical_ext id_step id_in canonical_id trace_step trace_in canonical_trace supplied_step
    supplied_in canonical_supplied field_step field_in told_step told_in history_in content_kind_in ext_list_in
    trace_list_in canonical_trace_list recipients_in canonical_recipients recipient_step recipient_in
    canonical_recipient length_in envelope_step content_in envelope_in envelope_front envelope_middle envelope_back
    envelope_content set_in last_in message_in probe_in canonical_message canonical_probe delivery_step delivery_in
    failure_step failure_in last_step last_trace_in canonical_last outcome_choice reported_step reported_in
    reported_list_in canonical_reported canonical_reported_list content_step report_content_in canonical_content
    report_envelope_step report_envelope_in canonical_envelope report_step report_in canonical_report apdu_as apdu_in
    ends stored_of apdu_of with_responsibility reported_indicators outgoing_message outgoing_probe outgoing_report
    outgoing_head history_octets members_copy report_id report_of first_case verdict_of_message verdict_of_probe
    verdict_of_report report_walk passed_to value_of responsible_in tables_value is_tables_text names_peer peer_word
    mailbox_word route_word verdict_of is_expired delivery_report non_delivery_report expansion accepted_in passed_back
    outgoing_copy days_from_civil day_count days_of_years days_of_months plain_text lists_text peer_text to_watt to_list
lists_possible = (
  record { allowed = refl; as_machine = tt; timely = at_once _ _ refl; numbers = few _ refl },
  (
    record {
      allowed = tt;
      as_machine = (to_list_is, (λ e. absurd cc), at_once _ _ refl);
      timely = at_once _ _ refl;
      numbers = few _ refl;
    },
    (
      record {
        allowed = refl;
        as_machine = (of-one _ 1 refl, (refl, tt), (0, (1, refl, refl)), at_once _ _ refl);
        timely = at_once _ _ refl;
        numbers = few _ refl;
      },
      (
        record {
          allowed = refl;
          as_machine = (of-one _ 1 refl, (refl, tt), (1, (1, refl, refl)), at_once _ _ refl);
          timely = at_once _ _ refl;
          numbers = few _ refl;
        },
        (
          record {
            allowed = refl;
            as_machine = (of-one _ 1 refl, (refl, tt), (0, (1, refl, refl)), at_once _ _ refl);
            timely = at_once _ _ refl;
            numbers = few _ refl;
          },
          tt,
        ),
      ),
    ),
  ),
)

pub lists_of_each_other_end : ListsOfEachOtherEnd
unfolding value_in attribute_step attribute_parts_in attribute_in extension_step extensions_in country_choice
    label_choice units_in pair_step pair_in pairs_in name_step name_in canonical_name normal_text is_same_name
    person_step person_in standard_step standard_in string_in number_in text_form name_of_text pattern_of_text is_front
    named step_front step_kind step_value text_step finish parts_of_text is_value is_begun is_best best_hop name_of
    pattern_of peer_words hold_words route_line peer_line mailbox_line list_line from_line member_line hold_line line_of
    take_line tables_of bits_in length_octets high_octets ident_octets element int_content bits_content civil_from
    civil_of utc_content content_size element_size row run part_from part first next_part inner alone ident length_at
    head int_in oid_in parts_from parts_of gather joined_as text_in offset stamp stamp_seconds moment_of_stamp moment_of
    utc_in domain_step domain_in canonical_domain expansion_step expansion_in canonical_expansion plain_kind_in kind_in
    ext_step ext_in canonical_ext id_step id_in canonical_id trace_step trace_in canonical_trace supplied_step
    supplied_in canonical_supplied field_step field_in told_step told_in history_in content_kind_in ext_list_in
    trace_list_in canonical_trace_list recipients_in canonical_recipients recipient_step recipient_in
    canonical_recipient length_in envelope_step content_in envelope_in envelope_front envelope_middle envelope_back
    envelope_content set_in last_in message_in probe_in canonical_message canonical_probe delivery_step delivery_in
    failure_step failure_in last_step last_trace_in canonical_last outcome_choice reported_step reported_in
    reported_list_in canonical_reported canonical_reported_list content_step report_content_in canonical_content
    report_envelope_step report_envelope_in canonical_envelope report_step report_in canonical_report apdu_as apdu_in
    ends stored_of apdu_of with_responsibility reported_indicators outgoing_message outgoing_probe outgoing_report
    outgoing_head history_octets members_copy report_id report_of first_case verdict_of_message verdict_of_probe
    verdict_of_report report_walk passed_to value_of responsible_in tables_value is_tables_text names_peer peer_word
    mailbox_word route_word verdict_of is_expired delivery_report non_delivery_report expansion accepted_in passed_back
    outgoing_copy days_from_civil day_count days_of_years days_of_months plain_text lists_text peer_text to_watt to_list
lists_of_each_other_end =
    record { history = lists_possible; first = refl; second = refl; third = refl; no_fourth = refl }

-- ---- a message that is sent

sent_possible : IsHistory sent_over
unfolding value_in attribute_step attribute_parts_in attribute_in extension_step extensions_in country_choice
    label_choice units_in pair_step pair_in pairs_in name_step name_in canonical_name normal_text is_same_name
    person_step person_in standard_step standard_in string_in number_in text_form name_of_text pattern_of_text is_front
    named step_front step_kind step_value text_step finish parts_of_text is_value is_begun is_best best_hop name_of
    pattern_of peer_words hold_words route_line peer_line mailbox_line list_line from_line member_line hold_line line_of
    take_line tables_of bits_in length_octets high_octets ident_octets element int_content bits_content civil_from
    civil_of utc_content content_size element_size row run part_from part first next_part inner alone ident length_at
    head int_in oid_in parts_from parts_of gather joined_as text_in offset stamp stamp_seconds moment_of_stamp moment_of
    utc_in domain_step domain_in canonical_domain expansion_step expansion_in canonical_expansion plain_kind_in kind_in
    ext_step ext_in canonical_ext id_step id_in canonical_id trace_step trace_in canonical_trace supplied_step
    supplied_in canonical_supplied field_step field_in told_step told_in history_in content_kind_in ext_list_in
    trace_list_in canonical_trace_list recipients_in canonical_recipients recipient_step recipient_in
    canonical_recipient length_in envelope_step content_in envelope_in envelope_front envelope_middle envelope_back
    envelope_content set_in last_in message_in probe_in canonical_message canonical_probe delivery_step delivery_in
    failure_step failure_in last_step last_trace_in canonical_last outcome_choice reported_step reported_in
    reported_list_in canonical_reported canonical_reported_list content_step report_content_in canonical_content
    report_envelope_step report_envelope_in canonical_envelope report_step report_in canonical_report apdu_as apdu_in
    ends stored_of apdu_of with_responsibility reported_indicators outgoing_message outgoing_probe outgoing_report
    outgoing_head history_octets members_copy report_id report_of first_case verdict_of_message verdict_of_probe
    verdict_of_report report_walk passed_to value_of responsible_in tables_value is_tables_text names_peer peer_word
    mailbox_word route_word verdict_of is_expired delivery_report non_delivery_report expansion accepted_in passed_back
    outgoing_copy days_from_civil day_count days_of_years days_of_months plain_text lists_text peer_text to_watt to_list
sent_possible = (
  possible refl tt (at_once _ _ refl) (few _ refl),
  (
    possible tt (to_watt_is, (λ e. absurd cc), at_once _ _ refl) (at_once _ _ refl) (few _ refl),
    (
      possible
          (record {
            named = refl;
            room = omega arith;
            new = tt;
            number = omega arith;
            checkpoint_fits = omega arith;
            window_fits = (omega arith, omega arith);
          }) tt (at_once _ _ refl) (few _ refl),
      (
        possible
            (record {
              lane = _;
              lane_is = refl;
              current = refl;
              needs = (refl, refl, omega arith, omega arith, omega arith);
            }) tt (at_once _ _ refl) (few _ refl),
        (
          possible
              (record {
                lane = _;
                lane_is = refl;
                current = refl;
                needs = record {
                  agreed = refl;
                  idle = refl;
                  next = refl;
                  some_recipients = λ e. absurd cc;
                  different = (refl, tt);
                  pending = of-one _ 1 refl;
                  free = of-one _ 1 refl;
                  relayed = of-one _ 1 refl;
                  text = _;
                  text_is = refl;
                  item = _;
                  item_is = refl;
                  copy = _;
                  copy_is = refl;
                };
              }) tt (at_once _ _ refl) (few _ refl),
          (
            possible (record { lane = _; lane_is = refl; current = refl; needs = refl }) tt (at_once _ _ refl)
                (few _ refl),
            (
              possible (record { lane = _; lane_is = refl; current = refl; needs = refl }) tt (at_once _ _ refl)
                  (few _ refl),
              tt,
            ),
          ),
        ),
      ),
    ),
  ),
)

not_again : (lane g k moment : ℕ) → IsPossible (after started) (made.Start lane g k 1 (1 ∷ []) moment) → ⊥
unfolding value_in attribute_step attribute_parts_in attribute_in extension_step extensions_in country_choice
    label_choice units_in pair_step pair_in pairs_in name_step name_in canonical_name normal_text is_same_name
    person_step person_in standard_step standard_in string_in number_in text_form name_of_text pattern_of_text is_front
    named step_front step_kind step_value text_step finish parts_of_text is_value is_begun is_best best_hop name_of
    pattern_of peer_words hold_words route_line peer_line mailbox_line list_line from_line member_line hold_line line_of
    take_line tables_of bits_in length_octets high_octets ident_octets element int_content bits_content civil_from
    civil_of utc_content content_size element_size row run part_from part first next_part inner alone ident length_at
    head int_in oid_in parts_from parts_of gather joined_as text_in offset stamp stamp_seconds moment_of_stamp moment_of
    utc_in domain_step domain_in canonical_domain expansion_step expansion_in canonical_expansion plain_kind_in kind_in
    ext_step ext_in canonical_ext id_step id_in canonical_id trace_step trace_in canonical_trace supplied_step
    supplied_in canonical_supplied field_step field_in told_step told_in history_in content_kind_in ext_list_in
    trace_list_in canonical_trace_list recipients_in canonical_recipients recipient_step recipient_in
    canonical_recipient length_in envelope_step content_in envelope_in envelope_front envelope_middle envelope_back
    envelope_content set_in last_in message_in probe_in canonical_message canonical_probe delivery_step delivery_in
    failure_step failure_in last_step last_trace_in canonical_last outcome_choice reported_step reported_in
    reported_list_in canonical_reported canonical_reported_list content_step report_content_in canonical_content
    report_envelope_step report_envelope_in canonical_envelope report_step report_in canonical_report apdu_as apdu_in
    ends stored_of apdu_of with_responsibility reported_indicators outgoing_message outgoing_probe outgoing_report
    outgoing_head history_octets members_copy report_id report_of first_case verdict_of_message verdict_of_probe
    verdict_of_report report_walk passed_to value_of responsible_in tables_value is_tables_text names_peer peer_word
    mailbox_word route_word verdict_of is_expired delivery_report non_delivery_report expansion accepted_in passed_back
    outgoing_copy days_from_civil day_count days_of_years days_of_months plain_text lists_text peer_text to_watt to_list
not_again lane g k moment p = let free : 1 ≡ 0 = p.allowed.needs.free 1 refl in absurd (omega (arith, free))

no_report : (moment : ℕ) → IsPossible (after started) (made.Report 1 1 moment) → ⊥
unfolding value_in attribute_step attribute_parts_in attribute_in extension_step extensions_in country_choice
    label_choice units_in pair_step pair_in pairs_in name_step name_in canonical_name normal_text is_same_name
    person_step person_in standard_step standard_in string_in number_in text_form name_of_text pattern_of_text is_front
    named step_front step_kind step_value text_step finish parts_of_text is_value is_begun is_best best_hop name_of
    pattern_of peer_words hold_words route_line peer_line mailbox_line list_line from_line member_line hold_line line_of
    take_line tables_of bits_in length_octets high_octets ident_octets element int_content bits_content civil_from
    civil_of utc_content content_size element_size row run part_from part first next_part inner alone ident length_at
    head int_in oid_in parts_from parts_of gather joined_as text_in offset stamp stamp_seconds moment_of_stamp moment_of
    utc_in domain_step domain_in canonical_domain expansion_step expansion_in canonical_expansion plain_kind_in kind_in
    ext_step ext_in canonical_ext id_step id_in canonical_id trace_step trace_in canonical_trace supplied_step
    supplied_in canonical_supplied field_step field_in told_step told_in history_in content_kind_in ext_list_in
    trace_list_in canonical_trace_list recipients_in canonical_recipients recipient_step recipient_in
    canonical_recipient length_in envelope_step content_in envelope_in envelope_front envelope_middle envelope_back
    envelope_content set_in last_in message_in probe_in canonical_message canonical_probe delivery_step delivery_in
    failure_step failure_in last_step last_trace_in canonical_last outcome_choice reported_step reported_in
    reported_list_in canonical_reported canonical_reported_list content_step report_content_in canonical_content
    report_envelope_step report_envelope_in canonical_envelope report_step report_in canonical_report apdu_as apdu_in
    ends stored_of apdu_of with_responsibility reported_indicators outgoing_message outgoing_probe outgoing_report
    outgoing_head history_octets members_copy report_id report_of first_case verdict_of_message verdict_of_probe
    verdict_of_report report_walk passed_to value_of responsible_in tables_value is_tables_text names_peer peer_word
    mailbox_word route_word verdict_of is_expired delivery_report non_delivery_report expansion accepted_in passed_back
    outgoing_copy days_from_civil day_count days_of_years days_of_months plain_text lists_text peer_text to_watt to_list
no_report moment p = let free : 1 ≡ 0 = p.allowed in absurd (omega (arith, free))

not_yet : (g moment : ℕ) → IsPossible (after started) (made.Sent 1 g 1 moment) → ⊥
unfolding value_in attribute_step attribute_parts_in attribute_in extension_step extensions_in country_choice
    label_choice units_in pair_step pair_in pairs_in name_step name_in canonical_name normal_text is_same_name
    person_step person_in standard_step standard_in string_in number_in text_form name_of_text pattern_of_text is_front
    named step_front step_kind step_value text_step finish parts_of_text is_value is_begun is_best best_hop name_of
    pattern_of peer_words hold_words route_line peer_line mailbox_line list_line from_line member_line hold_line line_of
    take_line tables_of bits_in length_octets high_octets ident_octets element int_content bits_content civil_from
    civil_of utc_content content_size element_size row run part_from part first next_part inner alone ident length_at
    head int_in oid_in parts_from parts_of gather joined_as text_in offset stamp stamp_seconds moment_of_stamp moment_of
    utc_in domain_step domain_in canonical_domain expansion_step expansion_in canonical_expansion plain_kind_in kind_in
    ext_step ext_in canonical_ext id_step id_in canonical_id trace_step trace_in canonical_trace supplied_step
    supplied_in canonical_supplied field_step field_in told_step told_in history_in content_kind_in ext_list_in
    trace_list_in canonical_trace_list recipients_in canonical_recipients recipient_step recipient_in
    canonical_recipient length_in envelope_step content_in envelope_in envelope_front envelope_middle envelope_back
    envelope_content set_in last_in message_in probe_in canonical_message canonical_probe delivery_step delivery_in
    failure_step failure_in last_step last_trace_in canonical_last outcome_choice reported_step reported_in
    reported_list_in canonical_reported canonical_reported_list content_step report_content_in canonical_content
    report_envelope_step report_envelope_in canonical_envelope report_step report_in canonical_report apdu_as apdu_in
    ends stored_of apdu_of with_responsibility reported_indicators outgoing_message outgoing_probe outgoing_report
    outgoing_head history_octets members_copy report_id report_of first_case verdict_of_message verdict_of_probe
    verdict_of_report report_walk passed_to value_of responsible_in tables_value is_tables_text names_peer peer_word
    mailbox_word route_word verdict_of is_expired delivery_report non_delivery_report expansion accepted_in passed_back
    outgoing_copy days_from_civil day_count days_of_years days_of_months plain_text lists_text peer_text to_watt to_list
not_yet g moment p =
    let there : Some (Sending 1 0) ≡ Some p.allowed.lane.sending = ap sending_in p.allowed.lane_is in
    let same : Sending 1 0 ≡ p.allowed.lane.sending = cc in
    let clash : false ≡ true = ap (λ (st : SendState). is_ending st 1) same ∙ p.allowed.needs in
    absurd cc

pub started_is_sent : StartedIsSent
unfolding value_in attribute_step attribute_parts_in attribute_in extension_step extensions_in country_choice
    label_choice units_in pair_step pair_in pairs_in name_step name_in canonical_name normal_text is_same_name
    person_step person_in standard_step standard_in string_in number_in text_form name_of_text pattern_of_text is_front
    named step_front step_kind step_value text_step finish parts_of_text is_value is_begun is_best best_hop name_of
    pattern_of peer_words hold_words route_line peer_line mailbox_line list_line from_line member_line hold_line line_of
    take_line tables_of bits_in length_octets high_octets ident_octets element int_content bits_content civil_from
    civil_of utc_content content_size element_size row run part_from part first next_part inner alone ident length_at
    head int_in oid_in parts_from parts_of gather joined_as text_in offset stamp stamp_seconds moment_of_stamp moment_of
    utc_in domain_step domain_in canonical_domain expansion_step expansion_in canonical_expansion plain_kind_in kind_in
    ext_step ext_in canonical_ext id_step id_in canonical_id trace_step trace_in canonical_trace supplied_step
    supplied_in canonical_supplied field_step field_in told_step told_in history_in content_kind_in ext_list_in
    trace_list_in canonical_trace_list recipients_in canonical_recipients recipient_step recipient_in
    canonical_recipient length_in envelope_step content_in envelope_in envelope_front envelope_middle envelope_back
    envelope_content set_in last_in message_in probe_in canonical_message canonical_probe delivery_step delivery_in
    failure_step failure_in last_step last_trace_in canonical_last outcome_choice reported_step reported_in
    reported_list_in canonical_reported canonical_reported_list content_step report_content_in canonical_content
    report_envelope_step report_envelope_in canonical_envelope report_step report_in canonical_report apdu_as apdu_in
    ends stored_of apdu_of with_responsibility reported_indicators outgoing_message outgoing_probe outgoing_report
    outgoing_head history_octets members_copy report_id report_of first_case verdict_of_message verdict_of_probe
    verdict_of_report report_walk passed_to value_of responsible_in tables_value is_tables_text names_peer peer_word
    mailbox_word route_word verdict_of is_expired delivery_report non_delivery_report expansion accepted_in passed_back
    outgoing_copy days_from_civil day_count days_of_years days_of_months plain_text lists_text peer_text to_watt to_list
started_is_sent = record {
  history = sent_possible;
  meanwhile = refl;
  sending = refl;
  copied = refl;
  not_again = not_again;
  no_report = no_report;
  not_yet = not_yet;
  sent = refl;
  idle = refl;
  no_more = refl;
}
