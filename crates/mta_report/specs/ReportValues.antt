-- What each part of a report may be (X.411, ReportTransferEnvelope and ReportTransferContent).
use Rattle.std.specs.Prelude.{◌≤◌, List, length, IfSome}
use Rattle.mta_names.specs.Values.{IsRaw}
use Rattle.mta_fields.specs.declared.trace.TraceFields.{TraceFields}
use Rattle.mta_envelope_common.specs.ContentIdentifiers.{IsContentId}
use Rattle.mta_envelope_common.specs.ContentKinds.{IsContentKind}
use Rattle.mta_report_recipient.specs.declared.reported.ReportedFields.{ReportedFields}
use Rattle.mta_report.specs.declared.fields.ReportFields.{ReportFields}

-- 0 to 512 trace elements
abbrev pub IsTraceRow : List TraceFields → Type 0
IsTraceRow vs = length vs ≤ 512

-- 1 to 32,767 recipients
pub record IsReportedRow (vs : List ReportedFields) : Type 0 where
  pub some : 1 ≤ length vs
  pub few : length vs ≤ 32767

pub record IsReport (v : ReportFields) : Type 0 where
  pub trace : IsTraceRow v.trace
  pub subject_trace : IfSome v.subject_trace (IsRaw 1 9)
  pub eits : IfSome v.eits (IsRaw 1 5)
  pub content_kind : IfSome v.content_kind IsContentKind
  pub content_id : IfSome v.content_id IsContentId
  pub returned : IfSome v.returned (IsRaw 2 1)
  pub additional : IfSome v.additional (IsRaw 2 2)
  pub recipients : IsReportedRow v.recipients
