-- The front of the content of a report, up to its content identifier.
use Rattle.std.specs.Prelude.{ℕ, List, ◌++◌}
use Rattle.mta_ber.specs.Canon.{optional}
use Rattle.mta_names.specs.Names.{kept}
use Rattle.mta_fields.specs.Identifiers.{canonical_id}
use Rattle.mta_envelope_common.specs.ContentIdentifiers.{canonical_content_id}
use Rattle.mta_envelope_common.specs.ContentKinds.{kind_in_front, kind_in_place}
use Rattle.mta_report.specs.declared.fields.ReportFields.{ReportFields}

abbrev pub content_front : ReportFields → List ℕ
content_front v =
    optional kind_in_front v.content_kind
    ++ canonical_id v.subject
    ++ optional kept v.eits
    ++ optional kind_in_place v.content_kind
    ++ optional kept v.subject_trace
    ++ optional canonical_content_id v.content_id
