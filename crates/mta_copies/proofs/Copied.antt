-- The copy of an envelope and of a report is one, and is told by its parts.
use Rattle.std.proofs.Common.{◌≡◌, ℕ, suc, ◌+◌, ◌<◌, List, [], ◌∷◌, ◌++◌, length}
use Rattle.std.proofs.Common.{Option, None, Result, Ok, Err, false, refl, ap, ◌∙◌, arith}
use Rattle.std.specs.Prelude.{IfOk}
use Rattle.mta_fields.specs.declared.expansion.ExpansionFields.{ExpansionFields}
use Rattle.mta_fields.specs.declared.extension.ExtFields.{ExtFields}
use Rattle.mta_fields.specs.declared.trace.TraceFields.{TraceFields}
use Rattle.mta_envelope_recipient.specs.declared.recipient.RecipientFields.{RecipientFields}
use Rattle.mta_envelope.specs.declared.envelope.EnvelopeFields.{EnvelopeFields}
use Rattle.mta_ber.specs.Canon.{constructed, element}
use Rattle.mta_envelope.specs.Envelopes.{IsEnvelope, envelope_content}
use Rattle.mta_envelope.specs.Messages.{canonical_probe}
use Rattle.mta_report.specs.declared.fields.ReportFields.{ReportFields}
use Rattle.mta_report.specs.ReportValues.{IsReport}
use Rattle.mta_procedures.specs.Copies.{chosen_from, deferred_time, outgoing_envelope, outgoing_fields}
use Rattle.mta_procedures.specs.Copies.{responsible_for}
use Rattle.mta_procedures.specs.Situations.{Situation}
use Rattle.mta_procedures.specs.Traces.{longest_trace, own_trace}
use Rattle.mta_procedures.proofs.WholeLaws.{one_more}

pub if_ok_so : {A E : Type 0} (made : Result A E) (P Q : A → Type 0) → ((a : A) → P a → Q a) → IfOk made P
    → IfOk made Q
if_ok_so (Ok a) P Q f h = f a h
if_ok_so (Err e) P Q f h = h

length-chosen_from : (k : ℕ) (chosen : List ℕ) (rs : List RecipientFields)
    → length (chosen_from k chosen rs) ≡ length rs
length-chosen_from k chosen [] = refl
length-chosen_from k chosen (r ∷ rs) = ap (λ n. suc n) (length-chosen_from (k + 1) chosen rs)

pub outgoing_is_envelope : (s : Situation) (e : EnvelopeFields) (chosen : List ℕ) → IsEnvelope e
    → length e.trace < longest_trace → IsEnvelope (outgoing_envelope s e chosen)
outgoing_is_envelope s e chosen h short =
    let count = length-chosen_from 1 chosen e.recipients in
    record {
      eits = h.eits;
      content_kind = h.content_kind;
      content_id = h.content_id;
      indicators = h.indicators;
      deferral = h.deferral;
      length_fits = h.length_fits;
      bilateral = h.bilateral;
      some_recipients = omega (arith, count, h.some_recipients);
      few_recipients = omega (arith, count, h.few_recipients);
      few_elements = one_more e.trace (own_trace s (deferred_time s e.deferral) false) short;
      said = h.said;
    }

pub outgoing_is_report : (s : Situation) (p : ReportFields) → IsReport p → length p.trace < longest_trace
    → IsReport (outgoing_fields s p)
outgoing_is_report s p h short = record {
  trace = one_more p.trace (own_trace s None false) short;
  subject_trace = h.subject_trace;
  eits = h.eits;
  content_kind = h.content_kind;
  content_id = h.content_id;
  returned = h.returned;
  additional = h.additional;
  recipients = h.recipients;
}

-- ---- part by part

abbrev pub with_parts : EnvelopeFields → List RecipientFields → List TraceFields → List ExtFields
    → List ExpansionFields
    → EnvelopeFields
with_parts v rs t x h = record v { recipients = rs; trace = t; extensions = x; history = h }

abbrev pub with_two : EnvelopeFields → List RecipientFields → List TraceFields → EnvelopeFields
with_two v rs t = record v { recipients = rs; trace = t }

pub same_others : (v : EnvelopeFields) (rs : List RecipientFields) (t : List TraceFields) (x : List ExtFields)
    (h : List ExpansionFields) → x ≡ v.extensions → h ≡ v.history → with_parts v rs t x h ≡ with_two v rs t
same_others v rs t x h extensions history =
    ap (λ a. with_parts v rs t a h) extensions ∙ ap (λ a. with_parts v rs t v.extensions a) history

pub outgoing_so : (s : Situation) (v w : EnvelopeFields) (chosen : List ℕ) (d : Option ℕ)
    (rs : List RecipientFields) (t : List TraceFields)
    → d ≡ deferred_time s v.deferral → rs ≡ responsible_for chosen v.recipients
    → t ≡ v.trace ++ own_trace s d false ∷ [] → w ≡ with_two v rs t → w ≡ outgoing_envelope s v chosen
outgoing_so s v w chosen d rs t deferred recipients trace whole =
    let all = responsible_for chosen v.recipients in
    whole
    ∙ ap (λ a. with_two v a t) recipients
    ∙ ap (λ a. with_two v all a) (trace ∙ ap (λ o. v.trace ++ own_trace s o false ∷ []) deferred)

pub report_so : (s : Situation) (v w : ReportFields) (t : List TraceFields)
    → t ≡ v.trace ++ own_trace s None false ∷ [] → w ≡ record v { trace = t } → w ≡ outgoing_fields s v
report_so s v w t trace whole = whole ∙ ap (λ a. record v { trace = a }) trace

-- the octets of a probe are those of its envelope under their tag
pub probe_is : (e : EnvelopeFields) → element (constructed 2 2) (envelope_content e) ≡ canonical_probe e
unfolding canonical_probe
probe_is e = refl
