use Rattle.std.proofs.Common.{◌≡◌, false, Ok, sym, ◌∙◌}
use Rattle.mta_report.specs.ReportContents.{report_content, content_complete}
use Rattle.mta_report_recipient.proofs.AbsentParts.{one_of_two}
use Rattle.mta_report.proofs.content.finished.Goals as goal

pub returns-else-is_complete : goal.returns-else-is_complete
returns-else-is_complete c =
    let s = c.args.parts in
    let absent : content_complete s ≡ false = sym c.is_complete.ensures ∙ c.if-is_complete.false in
    rw c.bad.ensures (one_of_two s.subject s.recipients (λ x0 x1. Ok (report_content x0 x1 s)) c.args.at absent)
