-- The envelope of a members' copy is one.
use Rattle.std.proofs.Common.{◌≡◌, ℕ, ◌+◌, ◌<◌, ◌≤◌, ◌^◌, true, List}
use Rattle.std.proofs.Common.{[], ◌∷◌, ◌++◌, length, Option, Some, None, refl, sym, ◌∙◌, ap, subst}
use Rattle.std.proofs.Common.{arith, length-append}
use Rattle.std.specs.List.{flat_map}
use Rattle.mta_ber.specs.Canon.{constructed}
use Rattle.mta_ber.specs.Times.{last_moment}
use Rattle.mta_names.specs.Values.{Each}
use Rattle.mta_names.proofs.Rows.{element_stands}
use Rattle.mta_fields.specs.declared.expansion.ExpansionFields.{ExpansionFields}
use Rattle.mta_fields.specs.declared.extension.ExtFields.{ExtFields}
use Rattle.mta_fields.specs.declared.trace.TraceFields.{TraceFields}
use Rattle.mta_fields.specs.Expansions.{canonical_expansion}
use Rattle.mta_fields.specs.ExtensionFields.{IsElement}
use Rattle.mta_fields.specs.Laws.{IsWholeExpansion, KeepsExpansion}
use Rattle.mta_fields.proofs.Kept.{expansion_above}
use Rattle.mta_envelope_extensions.specs.declared.value.Said.{Said}
use Rattle.mta_envelope_extensions.specs.declared.value.Said.TheVariants.{History}
use Rattle.mta_envelope_extensions.specs.declared.value.Topic.{Topic}
use Rattle.mta_envelope_extensions.specs.declared.value.Topic.TheVariants.{ExpansionHistory, LatestDelivery}
use Rattle.mta_envelope_extensions.specs.declared.value.Topic.TheVariants.{ExpansionProhibited}
use Rattle.mta_envelope_extensions.specs.Told.{values_of, history_said, latest_said, prohibited_said, Says}
use Rattle.mta_envelope_extensions.specs.Topics.{IsSaidBy}
use Rattle.mta_envelope_recipient.specs.declared.recipient.RecipientFields.{RecipientFields}
use Rattle.mta_envelope.specs.declared.envelope.EnvelopeFields.{EnvelopeFields}
use Rattle.mta_envelope.specs.Envelopes.{IsEnvelope, told_history}
use Rattle.mta_tables.specs.declared.entry.MailList.{MailList}
use Rattle.mta_procedures.specs.Histories.{longest_history}
use Rattle.mta_procedures.specs.Members.{expanded_history, expansion_of, history_octets, members_envelope, members_from}
use Rattle.mta_procedures.specs.Members.{with_history}
use Rattle.mta_procedures.specs.Readings.{IsWritableList}
use Rattle.mta_procedures.specs.Situations.{Situation}
use Rattle.mta_procedures.specs.Traces.{longest_trace, own_trace}
use Rattle.mta_procedures.proofs.ExpandedLaws.{AreKept, history_kept, sequence_low, value_says, told_more, values_other}
use Rattle.mta_procedures.proofs.ExpandedLaws.{values_history, length-members_from}
use Rattle.mta_procedures.proofs.WholeLaws.{each_behind, one_more}

-- ---- histories

-- what the expansions keep stands at the levels above
kept_above : (depth : ℕ) (xs : List ExpansionFields) → 1 ≤ depth → Each (KeepsExpansion depth) xs
    → Each (KeepsExpansion 1) xs
kept_above depth [] le h = tt
kept_above depth (x ∷ xs) le h = (expansion_above depth 1 x le h.0, kept_above depth xs le h.1)

said_kept : (xs : List ExpansionFields) (v : List ℕ) → IsSaidBy ExpansionHistory v (History xs) → AreKept 1 xs
said_kept xs v h =
    let k = history_kept h.depth h.tag.constructed h.content xs h.spelled.1 in
    record { expansions = k.expansions; kept = kept_above (h.depth + 1) xs (omega arith) k.kept }

kept_before : (vals : List (List ℕ)) (h : List ExpansionFields)
    → Says ExpansionHistory vals (history_said (told_history h)) → AreKept 1 h
kept_before vals [] s = record { expansions = tt; kept = tt }
kept_before [] (x ∷ xs) s = absurd s
kept_before (v ∷ []) (x ∷ xs) s = said_kept (x ∷ xs) v s
kept_before (v ∷ w ∷ vs) (x ∷ xs) s = absurd s

few_values : (t : Topic) (vs : List (List ℕ)) (o : Option Said) → Says t vs o → length vs ≤ 1
few_values t [] o h = omega arith
few_values t (v ∷ []) o h = omega arith
few_values t (v ∷ w ∷ vs) o h = absurd h

pub history_element : (xs : List ExpansionFields) → length (flat_map canonical_expansion xs) < 2 ^ 64
    → IsElement (history_octets xs)
unfolding history_octets
history_element xs short = record {
  depth = 0;
  tag = constructed 0 16;
  content = flat_map canonical_expansion xs;
  stands = element_stands 0 (constructed 0 16) (flat_map canonical_expansion xs) sequence_low short (omega arith);
}

-- ---- the envelope

pub members_is_envelope : (s : Situation) (l : MailList) (e : EnvelopeFields) (r : RecipientFields) → IsEnvelope e
    → IsWritableList l → 1 ≤ length l.members → length l.members ≤ 1000
    → length e.trace < longest_trace → length e.history < longest_history → s.moment ≤ last_moment
    → length (flat_map canonical_expansion (expanded_history s l e)) < 2 ^ 64
    → IsEnvelope (members_envelope s l e r)
members_is_envelope s l e r h w some few short_trace short_history moment counted =
    let xs = expanded_history s l e in
    let x = expansion_of s l in
    let v = history_octets xs in
    let t = h.said.told in
    let old = kept_before (values_of ExpansionHistory e.extensions) e.history t.history in
    let all : AreKept 1 xs = record {
      expansions = each_behind IsWholeExpansion e.history x old.expansions (record { name = w.name; moment = moment });
      kept = each_behind (KeepsExpansion 1) e.history x old.kept (w.name_kept 2);
    } in
    let more : length xs ≡ length e.history + 1 = length-append e.history (x ∷ []) in
    let at_least : 1 ≤ length xs = omega arith in
    let at_most : length xs ≤ 512 = omega (arith, more, short_history) in
    let says = value_says 0 xs all at_least at_most (omega arith) counted in
    let told : Says ExpansionHistory (v ∷ []) (history_said (Some xs)) =
    record { depth = 0; tag = says.tag; content = says.content; stands = says.stands; spelled = says.spelled } in
    let Told : Option (List ExpansionFields) → Type 0 = λ o. Says ExpansionHistory (v ∷ []) (history_said o) in
    let Held : List (List ℕ) → Type 0 = λ vs. Says ExpansionHistory vs (history_said (told_history xs)) in
    let count = length-members_from 1 r l.members in
    record {
      eits = h.eits;
      content_kind = h.content_kind;
      content_id = h.content_id;
      indicators = h.indicators;
      deferral = h.deferral;
      length_fits = h.length_fits;
      bilateral = h.bilateral;
      some_recipients = omega (arith, count, some);
      few_recipients = omega (arith, count, few);
      few_elements = one_more e.trace (own_trace s None true) short_trace;
      said = record {
        prohibition = h.said.prohibition;
        prohibited_is = h.said.prohibited_is;
        told = record {
          history = subst Held (sym (values_history v e.extensions (few_values ExpansionHistory _ _ t.history)))
              (subst Told (sym (told_more e.history x)) told);
          latest = subst (λ vs. Says LatestDelivery vs (latest_said e.latest))
              (sym (values_other LatestDelivery v e.extensions refl)) t.latest;
          prohibited = subst (λ vs. Says ExpansionProhibited vs (prohibited_said h.said.prohibition))
              (sym (values_other ExpansionProhibited v e.extensions refl)) t.prohibited;
        };
      };
    }

-- ---- part by part

abbrev with_parts : EnvelopeFields → List RecipientFields → List TraceFields → List ExtFields
    → List ExpansionFields
    → EnvelopeFields
with_parts v rs t x h = record v { recipients = rs; trace = t; extensions = x; history = h }

pub members_so : (s : Situation) (l : MailList) (v w : EnvelopeFields) (r : RecipientFields)
    (rs : List RecipientFields) (t : List TraceFields) (o : List ℕ) (x : List ExtFields) (h : List ExpansionFields)
    → rs ≡ members_from 1 r l.members → t ≡ v.trace ++ own_trace s None true ∷ []
    → h ≡ expanded_history s l v → o ≡ history_octets h → x ≡ with_history o v.extensions
    → w ≡ with_parts v rs t x h → w ≡ members_envelope s l v r
members_so s l v w r rs t o x h recipients trace history value extensions whole =
    let all = members_from 1 r l.members in
    let longer = v.trace ++ own_trace s None true ∷ [] in
    let told = with_history (history_octets (expanded_history s l v)) v.extensions in
    let fields : x ≡ told =
    extensions ∙ ap (λ a. with_history a v.extensions) (value ∙ ap history_octets history) in
    whole
    ∙ ap (λ a. with_parts v a t x h) recipients
    ∙ ap (λ a. with_parts v all a x h) trace
    ∙ ap (λ a. with_parts v all longer a h) fields
    ∙ ap (λ a. with_parts v all longer told a) history
