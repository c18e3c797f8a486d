use Rattle.std.proofs.Common.{List, [], ◌∷◌, ◌++◌, None, false, sym, ap, subst, ◌∙◌}
use Rattle.mta_fields.specs.declared.trace.TraceFields.{TraceFields}
use Rattle.mta_report.specs.declared.fields.ReportFields.{ReportFields}
use Rattle.mta_report.specs.ReportValues.{IsReport}
use Rattle.mta_procedures.specs.Copies.{outgoing_fields}
use Rattle.mta_procedures.specs.Situations.{Situation, situation}
use Rattle.mta_procedures.specs.Traces.{own_trace}
use Rattle.mta_copies.proofs.Copied.{outgoing_is_report, report_so}
use Rattle.mta_copies.proofs.outgoing.report_copy.Goals as goal

pub from_fields-requires : goal.from_fields-requires
from_fields-requires c =
    let s : Situation = situation c.args.tables.now c.args.arrival 0 in
    let so = report_so s c.fields-fields.result.now c.in_ok-parts.parts c.in_ok-trace.trace
    (c.in_ok-trace.ensures
    ∙ ap (λ (a : List TraceFields). a ++ own_trace s None false ∷ []) c.as_slice.ensures)
    c.in_ok-parts.ensures in
    let whole = so ∙ ap (λ (a : ReportFields). outgoing_fields s a) c.fields-fields.ensures.exact in
    subst IsReport (sym whole) (outgoing_is_report s c.args.report.now c.fields-fields.ensures.report c.requires.room)

pub returns : goal.returns
returns c =
    let s : Situation = situation c.args.tables.now c.args.arrival 0 in
    let so = report_so s c.fields-fields.result.now c.in_ok-parts.parts c.in_ok-trace.trace
    (c.in_ok-trace.ensures
    ∙ ap (λ (a : List TraceFields). a ++ own_trace s None false ∷ []) c.as_slice.ensures)
    c.in_ok-parts.ensures in
    c.from_fields.ensures ∙ so ∙ ap (λ (a : ReportFields). outgoing_fields s a) c.fields-fields.ensures.exact
