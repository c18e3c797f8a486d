use Rattle.std.proofs.Common.{◌≡◌, false, Ok, sym, ◌∙◌}
use Rattle.mta_report.specs.Reports.{report, report_complete}
use Rattle.mta_report_recipient.proofs.AbsentParts.{one_of_two}
use Rattle.mta_report.proofs.reading.finished.Goals as goal

pub returns-else-is_complete : goal.returns-else-is_complete
returns-else-is_complete c =
    let s = c.args.parts in
    let absent : report_complete s ≡ false = sym c.is_complete.ensures ∙ c.if-is_complete.false in
    rw c.bad.ensures (one_of_two s.envelope s.content (λ x0 x1. Ok (report x0 x1)) c.args.at absent)
