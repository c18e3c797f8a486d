use Rattle.std.proofs.Common.{List, [], ◌∷◌, ◌++◌, None, true, sym, ap, subst, ◌∙◌}
use Rattle.mta_fields.specs.declared.trace.TraceFields.{TraceFields}
use Rattle.mta_report.specs.declared.fields.ReportFields.{ReportFields}
use Rattle.mta_report.specs.ReportValues.{IsReport}
use Rattle.mta_procedures.specs.Situations.{Situation, situation}
use Rattle.mta_procedures.specs.Traces.{own_trace}
use Rattle.mta_procedures.specs.Walks.{passed_back}
use Rattle.mta_table_rules.proofs.Passed.{passed_is_report, redirected_so}
use Rattle.mta_table_rules.proofs.passing.redirected.Goals as goal

pub from_fields-requires : goal.from_fields-requires
from_fields-requires c =
    let s : Situation = situation c.args.tables.now c.args.arrival 0 in
    let so = redirected_so s c.fields-fields.result.now c.in_ok-parts.parts c.in_ok-trace.trace c.args.name
    (c.in_ok-trace.ensures
    ∙ ap (λ (a : List TraceFields). a ++ own_trace s None true ∷ []) c.as_slice.ensures)
    c.in_ok-parts.ensures in
    let whole = so ∙ ap (λ (a : ReportFields). passed_back s a c.args.name) c.fields-fields.ensures.exact in
    subst IsReport (sym whole)
    (passed_is_report s c.args.report.now c.args.name c.fields-fields.ensures.report c.requires.room)

pub returns : goal.returns
returns c =
    let s : Situation = situation c.args.tables.now c.args.arrival 0 in
    let so = redirected_so s c.fields-fields.result.now c.in_ok-parts.parts c.in_ok-trace.trace c.args.name
    (c.in_ok-trace.ensures
    ∙ ap (λ (a : List TraceFields). a ++ own_trace s None true ∷ []) c.as_slice.ensures)
    c.in_ok-parts.ensures in
    c.from_fields.ensures ∙ so ∙ ap (λ (a : ReportFields). passed_back s a c.args.name) c.fields-fields.ensures.exact
