-- The text of a report: its lines in order.
use Rattle.std.specs.Prelude.{ℕ, List, ◌++◌, codes}
use Rattle.mta_report.specs.declared.fields.ReportFields.{ReportFields}
use Rattle.mta_apdu_text.specs.Lines.{line_if, id_line, name_line, content_type_line, content_id_line, trace_lines}
use Rattle.mta_apdu_text.specs.Reporteds.{reported_lines}

-- of the subject: its identifier, content type and content identifier
unfoldable pub subject_lines : ReportFields → List ℕ
subject_lines r = id_line (codes "subject ") r.subject
    ++ (line_if content_type_line r.content_kind ++ line_if content_id_line r.content_id)

unfoldable pub report_text : ReportFields → List ℕ
report_text r = id_line (codes "report ") r.id
    ++ (name_line (codes "destination ") r.destination
    ++ (trace_lines r.trace ++ (subject_lines r ++ reported_lines r.recipients)))
