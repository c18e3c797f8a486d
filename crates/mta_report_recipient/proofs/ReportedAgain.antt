-- Recipients of whom is reported that are written are spelled so, and are read again.
use Rattle.std.proofs.Common.{◌≡◌, ℕ, ◌+◌, ◌≤◌, ◌<◌, ◌^◌, Bool, true, false, cond, eqb, List, [], ◌∷◌, ◌++◌, length}
use Rattle.std.proofs.Common.{Option, Some, None, refl, sym, ap, subst, ◌∙◌, append_assoc, arith, inl, inr, pos}
use Rattle.std.specs.Prelude.{IfSome, unwrap_or}
use Rattle.std.specs.List.{flat_map}
use Rattle.std.proofs.lemmas.Bool.{eqb-true}
use Rattle.std.proofs.lemmas.Bool.Decides.{nat_tests}
use Rattle.mta_ber.specs.Bits.{BitString}
use Rattle.mta_ber.specs.Canon.{IsTag, constructed, primitive, optional}
use Rattle.mta_ber.specs.Components.{IsComponent}
use Rattle.mta_ber.specs.Contents.{int_content, bits_content, utc_content, canon_int, canon_utc}
use Rattle.mta_ber.specs.Explicit.{SpellsExplicit}
use Rattle.mta_ber.specs.Int.{in_range}
use Rattle.mta_ber.specs.Moments.{SpellsMoment}
use Rattle.mta_names.specs.declared.attributes.Attributes.{Attributes}
use Rattle.mta_names.specs.Laws.{IsRawAt, KeepsName}
use Rattle.mta_names.specs.Names.{SpellsName, canonical_name, name_content, kept}
use Rattle.mta_names.specs.Strings.{SpellsNumber, AddsItem}
use Rattle.mta_names.specs.Values.{Each, IsName}
use Rattle.mta_names.proofs.Again.{low_tag, number_spelled, explicit_spelled}
use Rattle.mta_names.proofs.NameAgain.{name_spelled}
use Rattle.mta_names.proofs.Rows.{puts, component, short_inside, row_spelled, items_row, each_both}
use Rattle.mta_fields.proofs.Tagged.{tagged_again}
use Rattle.mta_fields.specs.declared.extension.ExtFields.{ExtFields}
use Rattle.mta_fields.specs.ExtensionFields.{IsExtField, canonical_ext}
use Rattle.mta_fields.specs.Laws.{KeepsExtField}
use Rattle.mta_fields.proofs.FieldAgain.{moment_spelled}
use Rattle.mta_envelope_common.specs.ExtensionLists.{SpellsExtList}
use Rattle.mta_envelope_common.specs.Indicators.{SpellsIndicators, canonical_indicators}
use Rattle.mta_envelope_common.proofs.Again.{indicators_spelled, ext_list_spelled, ext_list_of, write_ext_list}
use Rattle.mta_envelope_common.proofs.Again.{ext_list_written, ext_list_held}
use Rattle.mta_envelope_common.proofs.SetRows.{SetRow, SetPiece, set_none, set_more, set_optional, set_last}
use Rattle.mta_report_recipient.specs.declared.delivery.DeliveryPart.TheVariants as deliveries
use Rattle.mta_report_recipient.specs.declared.delivery.DeliveryParts.{DeliveryParts}
use Rattle.mta_report_recipient.specs.declared.failure.FailurePart.TheVariants as failures
use Rattle.mta_report_recipient.specs.declared.failure.FailureParts.{FailureParts}
use Rattle.mta_report_recipient.specs.declared.last.LastPart.TheVariants as lasts
use Rattle.mta_report_recipient.specs.declared.last.LastParts.{LastParts}
use Rattle.mta_report_recipient.specs.declared.last.LastTrace.{LastTrace}
use Rattle.mta_report_recipient.specs.declared.outcome.Outcome.{Outcome}
use Rattle.mta_report_recipient.specs.declared.outcome.Outcome.TheVariants.{Delivery, NonDelivery}
use Rattle.mta_report_recipient.specs.declared.reported.ReportedFields.{ReportedFields}
use Rattle.mta_report_recipient.specs.declared.reported.ReportedPart.TheVariants as recipients
use Rattle.mta_report_recipient.specs.declared.reported.ReportedParts.{ReportedParts}
use Rattle.mta_report_recipient.specs.Deliveries.{with_moment, with_user, MakesDelivery, SpellsDelivery, no_delivery}
use Rattle.mta_report_recipient.specs.Deliveries.{canonical_user}
use Rattle.mta_report_recipient.specs.Failures.{with_reason, with_diagnostic, MakesFailure, SpellsFailure, no_failure}
use Rattle.mta_report_recipient.specs.Failures.{canonical_diagnostic}
use Rattle.mta_report_recipient.specs.LastTraces.{with_arrival, with_outcome, with_converted, MakesLast, SpellsLast}
use Rattle.mta_report_recipient.specs.LastTraces.{no_last, last_content, canonical_last}
use Rattle.mta_report_recipient.specs.Laws.{IsWholeReported, KeepsReported, RecipientsAreReadAgain}
use Rattle.mta_report_recipient.specs.Outcomes.{SpellsOutcome, canonical_choice, canonical_outcome}
use Rattle.mta_report_recipient.specs.ReportedRecipients.{with_name, with_number, with_indicators, with_last}
use Rattle.mta_report_recipient.specs.ReportedRecipients.{with_intended, with_supplementary, with_extensions}
use Rattle.mta_report_recipient.specs.ReportedRecipients.{MakesReported, SpellsReported, no_reported, reported}
use Rattle.mta_report_recipient.specs.ReportedRecipients.{reported_in, is_set, SpellsReportedItem, SpellsReportedList}
use Rattle.mta_report_recipient.specs.ReportedRecipients.{canonical_intended, reported_content, canonical_reported}
use Rattle.mta_names.specs.Bounded.{IsCode}
use Rattle.mta_report_recipient.specs.Values.{IsMoment, IsNumber, IsOutcome, IsReported}
use Rattle.mta_report_recipient.proofs.ReportedLaws.{reported_full}

-- ---- numbers

recipient_number_range : (n : ℕ) → 1 ≤ n → n ≤ 32767 → in_range (pos 1) (pos 32767) (pos n) ≡ true
recipient_number_range n low high = grind (arith, nat_tests)

recipient_number_spelled : (n : ℕ) → IsNumber n → SpellsNumber 1 32767 false (int_content (pos n)) n
recipient_number_spelled n h =
    let s = number_spelled 32767 n h.1 (let le : n ≤ 32767 = h.1 in omega arith) in
    record {
      primitive = s.primitive;
      short = s.short;
      few = s.few;
      value = s.value;
      range =
          recipient_number_range n h.0 h.1;
    }

code_spelled : (n : ℕ) → n ≤ 32767 → SpellsNumber 0 32767 false (int_content (pos n)) n
code_spelled n h = number_spelled 32767 n h (omega arith)

-- ---- deliveries: a type of user is a component where it is not public

abbrev user_of : ℕ → Option ℕ
user_of user = cond (eqb user 0) None (Some user)

abbrev write_user : ℕ → List ℕ
write_user user = canon_int (primitive 2 1) (pos user)

user_written : (user : ℕ) → optional write_user (user_of user) ≡ canonical_user user
user_written user = go (eqb user 0)
  where
    go : (b : Bool) → optional write_user (cond b None (Some user)) ≡ cond b [] (write_user user)
    go true = refl
    go false = refl

user_held : (user : ℕ) → unwrap_or (user_of user) 0 ≡ user
user_held user = go (eqb user 0) refl
  where
    go : (b : Bool) → eqb user 0 ≡ b → unwrap_or (cond b None (Some user)) 0 ≡ user
    go true is = sym (eqb-true user 0 is)
    go false is = refl

user_is : (user : ℕ) → IsCode user → IfSome (user_of user) IsCode
user_is user h = go (eqb user 0)
  where
    go : (b : Bool) → IfSome (cond b None (Some user)) IsCode
    go true = tt
    go false = h

abbrev delivery_parts : Option ℕ → Option ℕ → DeliveryParts
delivery_parts moment user = record { moment = moment; user = user }

abbrev delivery_octets : ℕ → ℕ → List ℕ
delivery_octets moment user = canon_utc (primitive 2 0) moment ++ canonical_user user

delivery_row : (depth moment user : ℕ) → depth ≤ 16 → IsMoment moment → IsCode user
    → SetRow MakesDelivery depth no_delivery (delivery_octets moment user) (delivery_parts (Some moment) (user_of user))
delivery_row depth moment user d h k =
    let half = delivery_parts (Some moment) None in
    let whole = delivery_parts (Some moment) (user_of user) in
    subst (λ o. SetRow MakesDelivery depth no_delivery (canon_utc (primitive 2 0) moment ++ o) whole)
    (user_written user)
    (set_more MakesDelivery depth no_delivery half whole (canon_utc (primitive 2 0) moment)
    (optional write_user (user_of user))
    (λ short. component MakesDelivery depth no_delivery half (primitive 2 0) (utc_content moment)
    (low_tag 2 0 false (omega arith) (omega arith)) d short
    (record {
      part = deliveries.Moment;
      is_tag_of = refl;
      absent = refl;
      made =
          puts (SpellsMoment depth false (utc_content moment)) (with_moment no_delivery) moment
          (moment_spelled depth moment h d);
    }))
    (set_last MakesDelivery depth half whole (optional write_user (user_of user))
    (set_optional MakesDelivery depth write_user IsCode (λ o. delivery_parts (Some moment) o) (user_of user) [] whole
    (user_is user k)
    (λ x is short. component MakesDelivery depth half (delivery_parts (Some moment) (Some x)) (primitive 2 1)
    (int_content (pos x)) (low_tag 2 1 false (omega arith) (omega arith)) d short
    (record {
      part = deliveries.User;
      is_tag_of = refl;
      absent = refl;
      made =
          puts (SpellsNumber 0 32767 false (int_content (pos x))) (with_user half) x (code_spelled x is);
    }))
    (set_none MakesDelivery depth whole))))

delivery_spelled : (depth moment user : ℕ) → IsMoment moment → IsCode user → depth + 1 ≤ 16
    → length (delivery_octets moment user) < 2 ^ 64
    → SpellsDelivery depth true (delivery_octets moment user) (Delivery moment user)
delivery_spelled depth moment user h k d short =
    let parts = delivery_parts (Some moment) (user_of user) in
    record {
      is_constructed = refl;
      parts = parts;
      spelled = row_spelled MakesDelivery depth no_delivery parts (delivery_octets moment user)
          (delivery_row (depth + 1) moment user d h k short);
      moment = moment;
      moment_is = refl;
      value = ap (λ u. Delivery moment u) (sym (user_held user));
    }

-- ---- non-deliveries

abbrev failure_parts : Option ℕ → Option ℕ → FailureParts
failure_parts reason diagnostic = record { reason = reason; diagnostic = diagnostic }

abbrev failure_octets : ℕ → Option ℕ → List ℕ
failure_octets reason diagnostic = canon_int (primitive 2 0) (pos reason) ++ optional canonical_diagnostic diagnostic

failure_row : (depth reason : ℕ) (diagnostic : Option ℕ) → depth ≤ 16 → IsCode reason → IfSome diagnostic IsCode
    → SetRow MakesFailure depth no_failure (failure_octets reason diagnostic) (failure_parts (Some reason) diagnostic)
failure_row depth reason diagnostic d h k =
    let half = failure_parts (Some reason) None in
    let whole = failure_parts (Some reason) diagnostic in
    set_more MakesFailure depth no_failure half whole (canon_int (primitive 2 0) (pos reason))
    (optional canonical_diagnostic diagnostic)
    (λ short. component MakesFailure depth no_failure half (primitive 2 0) (int_content (pos reason))
    (low_tag 2 0 false (omega arith) (omega arith)) d short
    (record {
      part = failures.Reason;
      is_tag_of = refl;
      absent = refl;
      made =
          puts (SpellsNumber 0 32767 false (int_content (pos reason))) (with_reason no_failure) reason
          (code_spelled reason h);
    }))
    (set_last MakesFailure depth half whole (optional canonical_diagnostic diagnostic)
    (set_optional MakesFailure depth canonical_diagnostic IsCode
    (λ o. failure_parts (Some reason) o) diagnostic [] whole k
    (λ x is short. component MakesFailure depth half (failure_parts (Some reason) (Some x)) (primitive 2 1)
    (int_content (pos x)) (low_tag 2 1 false (omega arith) (omega arith)) d short
    (record {
      part = failures.Diagnostic;
      is_tag_of = refl;
      absent = refl;
      made =
          puts (SpellsNumber 0 32767 false (int_content (pos x))) (with_diagnostic half) x (code_spelled x is);
    }))
    (set_none MakesFailure depth whole)))

failure_spelled : (depth reason : ℕ) (diagnostic : Option ℕ) → IsCode reason → IfSome diagnostic IsCode → depth + 1 ≤ 16
    → length (failure_octets reason diagnostic) < 2 ^ 64 → SpellsFailure depth true (failure_octets reason diagnostic)
    (NonDelivery reason diagnostic)
failure_spelled depth reason diagnostic h k d short =
    let parts = failure_parts (Some reason) diagnostic in
    record {
      is_constructed = refl;
      parts = parts;
      spelled = row_spelled MakesFailure depth no_failure parts (failure_octets reason diagnostic)
          (failure_row (depth + 1) reason diagnostic d h k short);
      reason = reason;
      reason_is = refl;
      value = refl;
    }

-- ---- what came of a message, in its explicit tag

outcome_spelled : (depth : ℕ) (v : Outcome) → IsOutcome v → depth + 2 ≤ 16 → length (canonical_choice v) < 2 ^ 64
    → SpellsExplicit SpellsOutcome depth true (canonical_choice v) v
outcome_spelled depth (Delivery moment user) h d short =
    let content = delivery_octets moment user in
    explicit_spelled SpellsOutcome depth (constructed 2 0) content (Delivery moment user)
    (low_tag 2 0 true (omega arith) (omega arith)) (omega arith) short
    (inl (
      refl,
      delivery_spelled (depth + 1) moment user h.0 h.1 (omega arith)
          (short_inside (constructed 2 0) content short),
    ))
outcome_spelled depth (NonDelivery reason diagnostic) h d short =
    let content = failure_octets reason diagnostic in
    explicit_spelled SpellsOutcome depth (constructed 2 1) content (NonDelivery reason diagnostic)
    (low_tag 2 1 true (omega arith) (omega arith)) (omega arith) short
    (inr (
      refl,
      failure_spelled (depth + 1) reason diagnostic h.0 h.1 (omega arith)
          (short_inside (constructed 2 1) content short),
    ))

-- ---- last traces

abbrev last_parts : Option ℕ → Option Outcome → Option (List ℕ) → LastParts
last_parts arrival outcome converted = record { arrival = arrival; outcome = outcome; converted = converted }

abbrev last_of : ℕ → Option (List ℕ) → Outcome → LastTrace
last_of arrival converted outcome = record { arrival = arrival; converted = converted; outcome = outcome }

last_row : (depth arrival : ℕ) (converted : Option (List ℕ)) (outcome : Outcome) → depth + 2 ≤ 16 → IsMoment arrival
    → IfSome converted (IsRawAt depth 1 5) → IsOutcome outcome
    → SetRow MakesLast depth no_last
    (optional kept converted ++ (canon_utc (primitive 2 0) arrival ++ canonical_outcome outcome))
    (last_parts (Some arrival) (Some outcome) converted)
last_row depth arrival converted outcome d h k o =
    let first = last_parts None None converted in
    let half = last_parts (Some arrival) None converted in
    let whole = last_parts (Some arrival) (Some outcome) converted in
    let time = canon_utc (primitive 2 0) arrival in
    let result = canonical_outcome outcome in
    set_optional MakesLast depth kept (IsRawAt depth 1 5) (λ c. last_parts None None c) converted
    (time ++ result) whole k
    (λ x is short. record {
      tag = is.tag;
      content = is.content;
      stands = is.stands;
      made =
          record {
            part = lasts.Converted;
            is_tag_of = is.is_tag_of;
            absent = refl;
            made =
                puts (λ y. y ≡ x) (with_converted no_last) x refl;
          };
    })
    (set_more MakesLast depth first half whole time result
    (λ short. component MakesLast depth first half (primitive 2 0) (utc_content arrival)
    (low_tag 2 0 false (omega arith) (omega arith)) (omega arith) short
    (record {
      part = lasts.Arrival;
      is_tag_of = refl;
      absent = refl;
      made =
          puts (SpellsMoment depth false (utc_content arrival)) (with_arrival first) arrival
          (moment_spelled depth arrival h (omega arith));
    }))
    (set_last MakesLast depth half whole result
    (set_more MakesLast depth half whole whole result []
    (λ short. component MakesLast depth half whole (constructed 2 1) (canonical_choice outcome)
    (low_tag 2 1 true (omega arith) (omega arith)) (omega arith) short
    (record {
      part = lasts.ReportType;
      is_tag_of = refl;
      absent = refl;
      made =
          puts (SpellsExplicit SpellsOutcome depth true (canonical_choice outcome)) (with_outcome half) outcome
          (outcome_spelled depth outcome o d (short_inside (constructed 2 1) (canonical_choice outcome) short));
    }))
    (set_none MakesLast depth whole))))

last_spelled : (depth arrival : ℕ) (converted : Option (List ℕ)) (outcome : Outcome) → IsMoment arrival
    → IfSome converted (IsRawAt (depth + 1) 1 5) → IsOutcome outcome → depth + 3 ≤ 16
    → length (last_content arrival converted outcome) < 2 ^ 64
    → SpellsLast depth true (last_content arrival converted outcome) (last_of arrival converted outcome)
last_spelled depth arrival converted outcome h k o d short =
    let parts = last_parts (Some arrival) (Some outcome) converted in
    let row = subst (λ octets. SetRow MakesLast (depth + 1) no_last octets parts)
    (sym (append_assoc (optional kept converted) (canon_utc (primitive 2 0) arrival) (canonical_outcome outcome)))
    (last_row (depth + 1) arrival converted outcome (omega arith) h k o) in
    record {
      is_constructed = refl;
      parts = parts;
      spelled = row_spelled MakesLast depth no_last parts (last_content arrival converted outcome) (row short);
      arrival = arrival;
      arrival_is = refl;
      outcome = outcome;
      outcome_is = refl;
      value = refl;
    }

-- ---- recipients

abbrev parts_of : Option Attributes → Option ℕ → Option BitString → Option LastTrace → Option Attributes
    → Option (List ℕ) → Option (List ExtFields) → ReportedParts
parts_of name number indicators last intended supplementary extensions = record {
  name = name;
  number = number;
  indicators = indicators;
  last = last;
  intended = intended;
  supplementary = supplementary;
  extensions = extensions;
}

-- what a list of extension fields has to be, to be a component in the level `depth`
record IsExtList (depth : ℕ) (vs : List ExtFields) : Type 0 where
  fields : Each IsExtField vs
  kept : Each (KeepsExtField (depth + 1)) vs

ext_list_is : (depth : ℕ) (vs : List ExtFields) → Each IsExtField vs → Each (KeepsExtField (depth + 1)) vs
    → IfSome (ext_list_of vs) (IsExtList depth)
ext_list_is depth [] h k = tt
ext_list_is depth (v ∷ vs) h k = record { fields = h; kept = k }

module _ (depth : ℕ) (d : depth + 4 ≤ 16) (v : ReportedFields) where
  abbrev name : List ℕ
  name = canonical_name (constructed 2 0) v.name

  abbrev number : List ℕ
  number = canon_int (primitive 2 1) (pos v.number)

  abbrev indicators : List ℕ
  indicators = canonical_indicators (primitive 2 2) v.indicators

  abbrev last : List ℕ
  last = canonical_last v.arrival v.converted v.outcome

  abbrev extensions : List ℕ
  extensions = optional (write_ext_list (constructed 2 6)) (ext_list_of v.extensions)

  abbrev behind : List ℕ
  behind = optional canonical_intended v.intended ++ (optional kept v.supplementary ++ extensions)

  abbrev the_last : LastTrace
  the_last = last_of v.arrival v.converted v.outcome

  abbrev state : Option Attributes → Option (List ℕ) → Option (List ExtFields) → ReportedParts
  state intended supplementary extensions =
      parts_of (Some v.name) (Some v.number) (Some v.indicators) (Some the_last) intended supplementary extensions

  abbrev whole : ReportedParts
  whole = state v.intended v.supplementary (ext_list_of v.extensions)

  extensions_row : Each IsExtField v.extensions → Each (KeepsExtField (depth + 1)) v.extensions
      → SetRow MakesReported depth (state v.intended v.supplementary None) extensions whole
  extensions_row h k =
      set_last MakesReported depth (state v.intended v.supplementary None) whole extensions
      (set_optional MakesReported depth (write_ext_list (constructed 2 6)) (IsExtList depth)
      (λ o. state v.intended v.supplementary o) (ext_list_of v.extensions) [] whole
      (ext_list_is depth v.extensions h k)
      (λ x is short. component MakesReported depth (state v.intended v.supplementary None)
      (state v.intended v.supplementary (Some x)) (constructed 2 6) (flat_map canonical_ext x)
      (low_tag 2 6 true (omega arith) (omega arith)) (omega arith) short
      (record {
        part = recipients.Extensions;
        is_tag_of = refl;
        absent = refl;
        made =
            puts (SpellsExtList depth true (flat_map canonical_ext x))
            (with_extensions (state v.intended v.supplementary None)) x
            (ext_list_spelled depth x is.fields is.kept (omega arith)
            (short_inside (constructed 2 6) (flat_map canonical_ext x) short));
      }))
      (set_none MakesReported depth whole))

  supplementary_row : IfSome v.supplementary (IsRawAt depth 2 5)
      → SetRow MakesReported depth (state v.intended v.supplementary None) extensions whole
      → SetRow MakesReported depth (state v.intended None None) (optional kept v.supplementary ++ extensions) whole
  supplementary_row k r =
      set_optional MakesReported depth kept (IsRawAt depth 2 5)
      (λ o. state v.intended o None) v.supplementary extensions whole k
      (λ x is short. record {
        tag = is.tag;
        content = is.content;
        stands = is.stands;
        made =
            record {
              part = recipients.Supplementary;
              is_tag_of = is.is_tag_of;
              absent = refl;
              made =
                  puts (λ y. y ≡ x) (with_supplementary (state v.intended None None)) x refl;
            };
      })
      r

  intended_row : IfSome v.intended (λ n. IsName n × KeepsName depth n)
      → SetRow MakesReported depth (state v.intended None None) (optional kept v.supplementary ++ extensions) whole
      → SetRow MakesReported depth (state None None None) behind whole
  unfolding canonical_name
  intended_row k r =
      set_optional MakesReported depth canonical_intended (λ n. IsName n × KeepsName depth n)
      (λ o. state o None None) v.intended (optional kept v.supplementary ++ extensions) whole k
      (λ x is short. component MakesReported depth (state None None None) (state (Some x) None None) (constructed 2 4)
      (name_content x) (low_tag 2 4 true (omega arith) (omega arith)) (omega arith) short
      (record {
        part = recipients.Intended;
        is_tag_of = refl;
        absent = refl;
        made =
            puts (SpellsName depth true (name_content x)) (with_intended (state None None None)) x
            (name_spelled depth x is.0 is.1 d (short_inside (constructed 2 4) (name_content x) short));
      }))
      r

  last_there : IsReported v → IfSome v.converted (IsRawAt (depth + 1) 1 5)
      → SetPiece MakesReported depth (parts_of (Some v.name) (Some v.number) (Some v.indicators) None None None None)
      last (state None None None)
  unfolding canonical_last
  last_there h k short =
      let content = last_content v.arrival v.converted v.outcome in
      let before = parts_of (Some v.name) (Some v.number) (Some v.indicators) None None None None in
      component MakesReported depth before (state None None None) (constructed 2 3) content
      (low_tag 2 3 true (omega arith) (omega arith)) (omega arith) short
      (record {
        part = recipients.Last;
        is_tag_of = refl;
        absent = refl;
        made =
            puts (SpellsLast depth true content) (with_last before) the_last
            (last_spelled depth v.arrival v.converted v.outcome h.arrival k h.outcome (omega arith)
            (short_inside (constructed 2 3) content short));
      })

  indicators_there : IsReported v
      → SetPiece MakesReported depth (parts_of (Some v.name) (Some v.number) None None None None None) indicators
      (parts_of (Some v.name) (Some v.number) (Some v.indicators) None None None None)
  indicators_there h short =
      let before = parts_of (Some v.name) (Some v.number) None None None None None in
      component MakesReported depth before
      (parts_of (Some v.name) (Some v.number) (Some v.indicators) None None None None) (primitive 2 2)
      (bits_content v.indicators) (low_tag 2 2 false (omega arith) (omega arith)) (omega arith) short
      (record {
        part = recipients.Indicators;
        is_tag_of = refl;
        absent = refl;
        made =
            puts (SpellsIndicators depth false (bits_content v.indicators)) (with_indicators before) v.indicators
            (indicators_spelled depth v.indicators h.indicators (omega arith));
      })

  number_there : IsReported v → SetPiece MakesReported depth
      (parts_of (Some v.name) None None None None None None) number
      (parts_of (Some v.name) (Some v.number) None None None None None)
  number_there h short =
      let before = parts_of (Some v.name) None None None None None None in
      component MakesReported depth before (parts_of (Some v.name) (Some v.number) None None None None None)
      (primitive 2 1) (int_content (pos v.number)) (low_tag 2 1 false (omega arith) (omega arith))
      (omega arith) short
      (record {
        part = recipients.Number;
        is_tag_of = refl;
        absent = refl;
        made =
            puts (SpellsNumber 1 32767 false (int_content (pos v.number))) (with_number before) v.number
            (recipient_number_spelled v.number h.number);
      })

  name_there : IsName v.name → KeepsName depth v.name
      → SetPiece MakesReported depth no_reported name (parts_of (Some v.name) None None None None None None)
  unfolding canonical_name
  name_there h k short =
      component MakesReported depth no_reported (parts_of (Some v.name) None None None None None None) (constructed 2 0)
      (name_content v.name) (low_tag 2 0 true (omega arith) (omega arith)) (omega arith) short
      (record {
        part = recipients.Actual;
        is_tag_of = refl;
        absent = refl;
        made =
            puts (SpellsName depth true (name_content v.name)) (with_name no_reported) v.name
            (name_spelled depth v.name h k d (short_inside (constructed 2 0) (name_content v.name) short));
      })

  all_row : IsReported v → IsName v.name → KeepsName depth v.name → IfSome v.converted (IsRawAt (depth + 1) 1 5)
      → SetRow MakesReported depth (state None None None) behind whole
      → SetRow MakesReported depth no_reported (name ++ (number ++ (indicators ++ (last ++ behind)))) whole
  all_row h n kn kc r =
      set_more MakesReported depth no_reported (parts_of (Some v.name) None None None None None None) whole name
      (number ++ (indicators ++ (last ++ behind))) (name_there n kn)
      (set_more MakesReported depth (parts_of (Some v.name) None None None None None None)
      (parts_of (Some v.name) (Some v.number) None None None None None) whole number
      (indicators ++ (last ++ behind)) (number_there h)
      (set_more MakesReported depth (parts_of (Some v.name) (Some v.number) None None None None None)
      (parts_of (Some v.name) (Some v.number) (Some v.indicators) None None None None) whole indicators
      (last ++ behind) (indicators_there h)
      (set_more MakesReported depth (parts_of (Some v.name) (Some v.number) (Some v.indicators) None None None None)
      (state None None None) whole last behind (last_there h kc) r)))

both_so : {A : Type 0} (P Q : A → Type 0) (o : Option A) → IfSome o P → IfSome o Q → IfSome o (λ x. P x × Q x)
both_so P Q None h k = tt
both_so P Q (Some x) h k = (h, k)

regroup_7 : (a b c d e f g : List ℕ) → a ++ (b ++ (c ++ (d ++ (e ++ (f ++ g))))) ≡ a ++ b ++ c ++ d ++ e ++ f ++ g
regroup_7 a b c d e f g = simp append_assoc

grouped : (v : ReportedFields) → canonical_name (constructed 2 0) v.name
    ++ (canon_int (primitive 2 1) (pos v.number)
    ++ (canonical_indicators (primitive 2 2) v.indicators ++ (canonical_last v.arrival v.converted v.outcome ++
    (optional canonical_intended v.intended
    ++ (optional kept v.supplementary
    ++ optional (write_ext_list (constructed 2 6)) (ext_list_of v.extensions)))))) ≡ reported_content v
grouped v =
    regroup_7 (canonical_name (constructed 2 0) v.name) (canon_int (primitive 2 1) (pos v.number))
    (canonical_indicators (primitive 2 2) v.indicators) (canonical_last v.arrival v.converted v.outcome)
    (optional canonical_intended v.intended) (optional kept v.supplementary)
    (optional (write_ext_list (constructed 2 6)) (ext_list_of v.extensions))
    ∙ ap (λ octets. canonical_name (constructed 2 0) v.name ++ canon_int (primitive 2 1) (pos v.number)
    ++ canonical_indicators (primitive 2 2) v.indicators ++ canonical_last v.arrival v.converted v.outcome
    ++ optional canonical_intended v.intended ++ optional kept v.supplementary ++ octets)
    (ext_list_written (constructed 2 6) v.extensions)

value_is : (v : ReportedFields) → v ≡ reported v.name v.number v.indicators (last_of v.arrival v.converted v.outcome)
    (parts_of (Some v.name) (Some v.number) (Some v.indicators)
    (Some (last_of v.arrival v.converted v.outcome)) v.intended v.supplementary (ext_list_of v.extensions))
value_is v = ap (λ (xs : List ExtFields). record {
  name = v.name;
  number = v.number;
  indicators = v.indicators;
  arrival = v.arrival;
  converted = v.converted;
  outcome = v.outcome;
  intended = v.intended;
  supplementary =
      v.supplementary;
  extensions = xs;
}) (sym (ext_list_held v.extensions))

pub reported_spelled : (depth : ℕ) (v : ReportedFields) → IsWholeReported v → KeepsReported depth v → depth + 5 ≤ 16
    → length (reported_content v) < 2 ^ 64 → SpellsReported depth (constructed 0 17) (reported_content v) v
reported_spelled depth v h k d short =
    let below : depth + 1 + 4 ≤ 16 = omega arith in
    let two : depth + 2 ≡ depth + 1 + 1 = omega arith in
    let parts = parts_of (Some v.name) (Some v.number) (Some v.indicators)
    (Some (last_of v.arrival v.converted v.outcome)) v.intended v.supplementary (ext_list_of v.extensions) in
    let extensions = extensions_row (depth + 1) below v h.extensions
    (subst (λ n. Each (KeepsExtField n) v.extensions) two k.extensions) in
    let intended = intended_row (depth + 1) below v
    (both_so IsName (KeepsName (depth + 1)) v.intended h.intended k.intended)
    (supplementary_row (depth + 1) below v k.supplementary extensions) in
    let row = all_row (depth + 1) below v h.reported h.name k.name
    (subst (λ n. IfSome v.converted (IsRawAt n 1 5)) two k.converted) intended in
    let all = subst (λ octets. SetRow MakesReported (depth + 1) no_reported octets parts) (grouped v) row in
    record {
      is_tag_of = refl;
      parts = parts;
      spelled = row_spelled MakesReported depth no_reported parts (reported_content v) (all short);
      name = v.name;
      name_is = refl;
      number = v.number;
      number_is = refl;
      indicators = v.indicators;
      indicators_is = refl;
      last = last_of v.arrival v.converted v.outcome;
      last_is = refl;
      value = value_is v;
    }

set_low : IsTag (constructed 0 17)
set_low = low_tag 0 17 true (omega arith) (omega arith)

pub reported_again : RecipientsAreReadAgain
unfolding canonical_reported
reported_again depth v h k d = tagged_again reported_in SpellsReported reported_full depth (constructed 0 17)
    (reported_content v) v set_low (omega arith) (reported_spelled depth v h k d)

-- ---- lists of recipients

reported_item : (depth : ℕ) → depth + 5 ≤ 16 → (vs : List ReportedFields) (v : ReportedFields) → IsWholeReported v
    × KeepsReported depth v → length (canonical_reported v) < 2 ^ 64
    → IsComponent (AddsItem is_set SpellsReportedItem) depth vs (canonical_reported v) (vs ++ v ∷ [])
unfolding canonical_reported
reported_item depth d vs v h short =
    component (AddsItem is_set SpellsReportedItem) depth vs (vs ++ v ∷ []) (constructed 0 17)
    (reported_content v) set_low (omega arith) short
    (record {
      is_item_tag = refl;
      item = v;
      spelled =
          reported_spelled depth v h.0 h.1 d (short_inside (constructed 0 17) (reported_content v) short);
      after_is =
          refl;
    })

pub reported_list_spelled : (depth : ℕ) (vs : List ReportedFields) → Each IsWholeReported vs
    → Each (KeepsReported (depth + 1)) vs → 1 ≤ length vs → length vs ≤ 32767 → depth + 6 ≤ 16
    → length (flat_map canonical_reported vs) < 2 ^ 64
    → SpellsReportedList depth true (flat_map canonical_reported vs) vs
reported_list_spelled depth vs h k some few d short =
    let both = each_both IsWholeReported (KeepsReported (depth + 1)) vs h k in
    record {
      is_constructed = refl;
      spelled = row_spelled (AddsItem is_set SpellsReportedItem) depth [] vs (flat_map canonical_reported vs)
          (items_row (AddsItem is_set SpellsReportedItem) (depth + 1) (λ ys. ys) canonical_reported
          (λ v. IsWholeReported v × KeepsReported (depth + 1) v)
          (reported_item (depth + 1) (omega arith)) [] vs both short);
      at_least = some;
      at_most = few;
    }
