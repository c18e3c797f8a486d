-- Equal parts of a report.
use Rattle.std.specs.Prelude.{◌≡◌}
use Rattle.mta_report.specs.declared.fields.ReportFields.{ReportFields}
use Rattle.mta_copies.specs.declared.outgoing_parts.Subject.{Subject}
use Rattle.mta_copies.specs.declared.outgoing_parts.Others.{Others}

-- what it says of its subject message
pub record IsSubject (v : ReportFields) (s : Subject) : Type 0 where
  pub subject : s.subject ≡ v.subject
  pub subject_trace : s.subject_trace ≡ v.subject_trace
  pub eits : s.eits ≡ v.eits
  pub content_kind : s.content_kind ≡ v.content_kind
  pub content_id : s.content_id ≡ v.content_id

-- what else it has, but its trace
pub record AreOthers (v : ReportFields) (o : Others) : Type 0 where
  pub id : o.id ≡ v.id
  pub destination : o.destination ≡ v.destination
  pub extensions : o.extensions ≡ v.extensions
  pub returned : o.returned ≡ v.returned
  pub additional : o.additional ≡ v.additional
  pub content_extensions : o.content_extensions ≡ v.content_extensions
  pub recipients : o.recipients ≡ v.recipients
