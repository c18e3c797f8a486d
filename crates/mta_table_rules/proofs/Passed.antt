-- Reports that are passed back.
use Rattle.std.proofs.Common.{◌≡◌, ℕ, ◌<◌, true, List, [], ◌∷◌, ◌++◌, length}
use Rattle.std.proofs.Common.{Option, Some, None, ap, subst, ◌∙◌}
use Rattle.std.specs.Option.{option_map}
use Rattle.std.proofs.lemmas.Option.{same_Some}
use Rattle.mta_names.specs.declared.attributes.Attributes.{Attributes}
use Rattle.mta_fields.specs.declared.trace.TraceFields.{TraceFields}
use Rattle.mta_envelope_recipient.specs.declared.recipient.RecipientFields.{RecipientFields}
use Rattle.mta_envelope.specs.declared.envelope.EnvelopeFields.{EnvelopeFields}
use Rattle.mta_envelope.specs.Messages.{MessageValue}
use Rattle.mta_report.specs.declared.fields.ReportFields.{ReportFields}
use Rattle.mta_report.specs.ReportValues.{IsReport}
use Rattle.mta_apdu.specs.Apdus.{ApduValue, message, probe, report}
use Rattle.mta_tables.specs.Tables.{TablesValue}
use Rattle.mta_procedures.specs.declared.verdict.Verdict.TheVariants as Verdicts
use Rattle.mta_procedures.specs.Ends.{IsOfMessages, IsOfProbes}
use Rattle.mta_procedures.specs.Situations.{Situation, situation}
use Rattle.mta_procedures.specs.Traces.{longest_trace, own_trace}
use Rattle.mta_procedures.specs.Verdicts.{length_for_members, verdict_of_probe}
use Rattle.mta_procedures.specs.Verdicts.{verdict_on_message}
use Rattle.mta_procedures.specs.Walks.{passed_back}
use Rattle.mta_procedures.proofs.EndLaws.{messages_have_theirs, probes_have_theirs}
use Rattle.mta_procedures.proofs.WholeLaws.{one_more}
use Rattle.mta_machine.specs.Items.{numbered}
use Rattle.mta_machine.specs.Rules.{verdict_under}
use Rattle.mta_sound_laws.proofs.Passed.{by_report}
use Rattle.mta_state.specs.Asked.{Passes}
use Rattle.mta_table_rules.specs.Copied.{trace_in}

-- ---- room for an element of the trace

no_message : (format : ℕ) (s : Situation) (m : MessageValue) (o : Option RecipientFields)
    → option_map (verdict_on_message format s m) o ≡ Some Verdicts.Back → ⊥
no_message format s m None e = absurd cc
no_message format s m (Some x) e =
    subst IsOfMessages (same_Some (verdict_on_message format s m x) Verdicts.Back e)
    (messages_have_theirs format s m x (length_for_members s m x))

no_probe : (format : ℕ) (s : Situation) (v : EnvelopeFields) (o : Option RecipientFields)
    → option_map (verdict_of_probe format s v) o ≡ Some Verdicts.Back → ⊥
no_probe format s v None e = absurd cc
no_probe format s v (Some x) e =
    subst IsOfProbes (same_Some (verdict_of_probe format s v x) Verdicts.Back e) (probes_have_theirs format s v x)

-- the trace of what is passed back has room for an element
pub has_room : (format : ℕ) (t : TablesValue) (v : ApduValue) (arrival r moment : ℕ)
    → Passes (verdict_under format t v arrival r moment) → length (trace_in v) < longest_trace
has_room format t (message m) arrival r moment e =
    absurd (no_message format (situation t arrival moment) m (numbered m.envelope.recipients r) e)
has_room format t (probe v) arrival r moment e =
    absurd (no_probe format (situation t arrival moment) v (numbered v.recipients r) e)
has_room format t (report v) arrival r moment e =
    by_report (situation t arrival moment) v (numbered (v.destination ∷ []) r) e

-- ---- the report that is made

pub passed_is_report : (s : Situation) (p : ReportFields) (n : Attributes) → IsReport p
    → length p.trace < longest_trace → IsReport (passed_back s p n)
passed_is_report s p n h short = record {
  trace = one_more p.trace (own_trace s None true) short;
  subject_trace = h.subject_trace;
  eits = h.eits;
  content_kind = h.content_kind;
  content_id = h.content_id;
  returned = h.returned;
  additional = h.additional;
  recipients = h.recipients;
}

-- the parts with another trace, and then with another destination
pub redirected_so : (s : Situation) (p q : ReportFields) (t : List TraceFields) (n : Attributes)
    → t ≡ p.trace ++ own_trace s None true ∷ [] → q ≡ record p { trace = t }
    → record q { destination = n } ≡ passed_back s p n
redirected_so s p q t n trace whole =
    ap (λ (x : ReportFields). record x { destination = n }) whole
    ∙ ap (λ (x : List TraceFields). record p { destination = n; trace = x }) trace
