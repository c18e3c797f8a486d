use Rattle.std.proofs.Common.{◌∙◌}
use Rattle.mta_copies.proofs.ReportParts.{with_trace}
use Rattle.mta_copies.proofs.outgoing_parts.report_with.Goals as goal

pub returns : goal.returns
returns c =
    c.of_parts.ensures
    ∙ with_trace c.args.fields.now c.in_ok-subject.subject c.in_ok-others.others c.args.trace
    c.in_ok-subject.ensures c.in_ok-others.ensures
