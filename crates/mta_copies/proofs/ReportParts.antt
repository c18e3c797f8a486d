-- A report of equal parts.
use Rattle.std.proofs.Common.{◌≡◌, List, ap, ◌∙◌}
use Rattle.mta_fields.specs.declared.trace.TraceFields.{TraceFields}
use Rattle.mta_report.specs.declared.fields.ReportFields.{ReportFields}
use Rattle.mta_copies.specs.declared.outgoing_parts.Subject.{Subject}
use Rattle.mta_copies.specs.declared.outgoing_parts.Others.{Others}
use Rattle.mta_copies.specs.Parts.{IsSubject, AreOthers}

abbrev joined : Subject → Others → List TraceFields → ReportFields
joined s o trace = record {
  id = o.id;
  destination = o.destination;
  trace = trace;
  extensions = o.extensions;
  subject = s.subject;
  subject_trace = s.subject_trace;
  eits = s.eits;
  content_kind = s.content_kind;
  content_id = s.content_id;
  returned = o.returned;
  additional = o.additional;
  content_extensions = o.content_extensions;
  recipients = o.recipients;
}

-- its parts as they are
abbrev subject_of : ReportFields → Subject
subject_of v = record {
  subject = v.subject;
  subject_trace = v.subject_trace;
  eits = v.eits;
  content_kind = v.content_kind;
  content_id = v.content_id;
}

abbrev others_of : ReportFields → Others
others_of v = record {
  id = v.id;
  destination = v.destination;
  extensions = v.extensions;
  returned = v.returned;
  additional = v.additional;
  content_extensions = v.content_extensions;
  recipients = v.recipients;
}

is_subject : (v : ReportFields) (s : Subject) → IsSubject v s → s ≡ subject_of v
is_subject v s h =
    let w = subject_of v in
    ap (λ a. record s { subject = a }) h.subject
    ∙ ap (λ a. record s { subject = v.subject; subject_trace = a }) h.subject_trace
    ∙ ap (λ a. record w { eits = a; content_kind = s.content_kind; content_id = s.content_id }) h.eits
    ∙ ap (λ a. record w { content_kind = a; content_id = s.content_id }) h.content_kind
    ∙ ap (λ a. record w { content_id = a }) h.content_id

are_others : (v : ReportFields) (o : Others) → AreOthers v o → o ≡ others_of v
are_others v o h =
    let w = others_of v in
    ap (λ a. record o { id = a }) h.id
    ∙ ap (λ a. record o { id = v.id; destination = a }) h.destination
    ∙ ap (λ a. record o { id = v.id; destination = v.destination; extensions = a }) h.extensions
    ∙ ap (λ a. record w {
      returned = a;
      additional = o.additional;
      content_extensions = o.content_extensions;
      recipients = o.recipients;
    }) h.returned
    ∙ ap (λ a. record w {
      additional = a;
      content_extensions = o.content_extensions;
      recipients = o.recipients;
    }) h.additional
    ∙ ap (λ a. record w { content_extensions = a; recipients = o.recipients }) h.content_extensions
    ∙ ap (λ a. record w { recipients = a }) h.recipients

pub with_trace : (v : ReportFields) (s : Subject) (o : Others) (trace : List TraceFields) → IsSubject v s
    → AreOthers v o → joined s o trace ≡ record v { trace = trace }
with_trace v s o trace h k =
    ap (λ a. joined a o trace) (is_subject v s h) ∙ ap (λ a. joined (subject_of v) a trace) (are_others v o k)
