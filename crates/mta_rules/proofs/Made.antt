-- What is made here has its parts in their ranges.
use Rattle.std.proofs.Common.{◌≡◌, ℕ, ◌≤◌, Bool, true, false, List, [], ◌∷◌, ap}
use Rattle.std.proofs.Common.{None, Some, ◌∙◌, arith}
use Rattle.std.specs.Option.{option_map}
use Rattle.std.specs.Prelude.{◌||◌, if◌then◌else◌}
use Rattle.mta_ber.specs.Bits.{BitString, bit}
use Rattle.mta_ber.specs.Times.{last_moment}
use Rattle.mta_fields.specs.declared.domain.DomainFields.{DomainFields}
use Rattle.mta_names.specs.declared.attributes.Attributes.{Attributes}
use Rattle.mta_fields.specs.declared.extension.ExtFields.{ExtFields}
use Rattle.mta_fields.specs.declared.trace.TraceFields.{TraceFields}
use Rattle.mta_envelope_common.specs.Indicators.{IsIndicators}
use Rattle.mta_envelope_recipient.specs.declared.recipient.RecipientFields.{RecipientFields}
use Rattle.mta_envelope_recipient.specs.Recipients.{IsRecipient}
use Rattle.mta_envelope.specs.declared.envelope.EnvelopeFields.{EnvelopeFields}
use Rattle.mta_envelope.specs.Envelopes.{IsEnvelope}
use Rattle.mta_report_recipient.specs.declared.outcome.Outcome.{Outcome}
use Rattle.mta_report_recipient.specs.declared.reported.ReportedFields.{ReportedFields}
use Rattle.mta_report.specs.declared.fields.ReportFields.{ReportFields}
use Rattle.mta_report_recipient.specs.Values.{IsOutcome, IsReported}
use Rattle.mta_report.specs.ReportValues.{IsReport}
use Rattle.mta_tables.specs.Tables.{TablesValue}
use Rattle.mta_procedures.specs.Bits.{reported_indicators, with_set}
use Rattle.mta_procedures.specs.Reports.{reported_of, report_of, report_to}
use Rattle.mta_procedures.specs.Walks.{report_walk}
use Rattle.mta_rules.specs.declared.report.About.{About}
use Rattle.mta_rules.specs.About.{IsAbout, about_of, told}
use Rattle.mta_procedures.proofs.SetLaws.{set_fits}

reported_fit : (b : BitString) → IsIndicators b → IsIndicators (reported_indicators b)
unfolding reported_indicators
reported_fit b h = at (bit b 1 || bit b 2)
  where
    at : (asked : Bool) → IsIndicators (if asked then b else with_set 2 b)
    at true = h
    at false = set_fits 2 b (omega arith) h

pub reported_is_one : (arrival : ℕ) (r : RecipientFields) (outcome : Outcome) → IsRecipient r
    → arrival ≤ last_moment → IsOutcome outcome → IsReported (reported_of arrival r outcome)
reported_is_one arrival r outcome h a o = record {
  number = (h.some, h.small);
  indicators = reported_fit r.indicators h.indicators;
  arrival = a;
  converted = tt;
  outcome = o;
  supplementary = tt;
}

pub report_is_one : (domain : DomainFields) (number arrival : ℕ) (e : EnvelopeFields) (r : RecipientFields)
    (outcome : Outcome) (destination : Attributes) → IsEnvelope e
    → IsReport (told (about_of domain number e) destination (reported_of arrival r outcome ∷ []))
report_is_one domain number arrival e r outcome destination h = record {
  trace = omega arith;
  subject_trace = tt;
  eits = tt;
  content_kind = h.content_kind;
  content_id = h.content_id;
  returned = tt;
  additional = tt;
  recipients = record { some = omega arith; few = omega arith };
}

-- ---- the same, part by part

abbrev reported_with : ℕ → RecipientFields → Outcome → Attributes → BitString → List ExtFields
    → ReportedFields
reported_with arrival r outcome n b x = record (reported_of arrival r outcome) {
  name = n;
  indicators = b;
  extensions = x;
}

pub reported_so : (arrival : ℕ) (r : RecipientFields) (outcome : Outcome) (n : Attributes) (b : BitString)
    (x : List ExtFields) → n ≡ r.name → b ≡ reported_indicators r.indicators → x ≡ []
    → reported_with arrival r outcome n b x ≡ reported_of arrival r outcome
reported_so arrival r outcome n b x name indicators none =
    ap (λ a. reported_with arrival r outcome a b x) name
    ∙ ap (λ a. reported_with arrival r outcome r.name a x) indicators
    ∙ ap (λ a. reported_with arrival r outcome r.name (reported_indicators r.indicators) a) none

-- ---- a report, part by part

abbrev with_rows : About → Attributes → List ReportedFields → List TraceFields → List ExtFields → List ExtFields
    → ReportFields
with_rows a d rs tr x y = record (told a d rs) { trace = tr; extensions = x; content_extensions = y }

pub told_so : (a : About) (d : Attributes) (rs : List ReportedFields) (tr : List TraceFields) (x y : List ExtFields)
    → tr ≡ [] → x ≡ [] → y ≡ [] → with_rows a d rs tr x y ≡ told a d rs
told_so a d rs tr x y no-trace no-fields none =
    ap (λ v. with_rows a d rs v x y) no-trace
    ∙ ap (λ v. with_rows a d rs [] v y) no-fields
    ∙ ap (λ v. with_rows a d rs [] [] v) none

about_so : (domain : DomainFields) (number : ℕ) (e : EnvelopeFields) (a : About) → IsAbout domain number e a
    → a ≡ about_of domain number e
about_so domain number e a h =
    let w = about_of domain number e in
    ap (λ v. record a { id = v }) h.id
    ∙ ap (λ v. record w { subject = v; content_kind = a.content_kind; content_id = a.content_id }) h.subject
    ∙ ap (λ v. record w { content_kind = v; content_id = a.content_id }) h.content_kind
    ∙ ap (λ v. record w { content_id = v }) h.content_id

pub made_so : (domain : DomainFields) (number arrival : ℕ) (e : EnvelopeFields) (r : RecipientFields) (o : Outcome)
    (d : Attributes) (v : ReportFields) (a : About) (n : Attributes) (rs : List ReportedFields)
    → IsAbout domain number e a → n ≡ d → rs ≡ reported_of arrival r o ∷ [] → v ≡ told a n rs
    → v ≡ told (about_of domain number e) d (reported_of arrival r o ∷ [])
made_so domain number arrival e r o d v a n rs is name all whole =
    whole
    ∙ ap (λ b. told b n rs) (about_so domain number e a is)
    ∙ ap (λ b. told (about_of domain number e) b rs) name
    ∙ ap (λ b. told (about_of domain number e) d b) all

-- ---- none exactly where the walk ends

pub report_none : (t : TablesValue) (number arrival : ℕ) (e v : EnvelopeFields) (r : RecipientFields) (o : Outcome)
    → None ≡ report_walk t v → v ≡ e → None ≡ report_of t number arrival e r o
unfolding report_of
report_none t number arrival e v r o ends same =
    ap (option_map (report_to t number arrival e r o)) (ends ∙ ap (report_walk t) same)

pub report_some : (t : TablesValue) (number arrival : ℕ) (e v : EnvelopeFields) (r : RecipientFields) (o : Outcome)
    (domain : DomainFields) (d : Attributes) (p : ReportFields) → Some d ≡ report_walk t v → v ≡ e
    → domain ≡ t.domain → p ≡ told (about_of domain number e) d (reported_of arrival r o ∷ [])
    → Some p ≡ report_of t number arrival e r o
unfolding report_of
report_some t number arrival e v r o domain d p goes same own whole =
    ap (λ a. Some a) (whole ∙ ap (λ a. told (about_of a number e) d (reported_of arrival r o ∷ [])) own)
    ∙ ap (option_map (report_to t number arrival e r o)) (goes ∙ ap (report_walk t) same)
