use Rattle.std.proofs.Common.{◌≡◌, false, Ok, sym, ◌∙◌}
use Rattle.mta_report_recipient.specs.ReportedRecipients.{reported, reported_complete}
use Rattle.mta_report_recipient.proofs.AbsentParts.{one_of_four}
use Rattle.mta_report_recipient.proofs.reported.finished.Goals as goal

pub returns-else-is_complete : goal.returns-else-is_complete
returns-else-is_complete c =
    let s = c.args.parts in
    let absent : reported_complete s ≡ false = sym c.is_complete.ensures ∙ c.if-is_complete.false in
    rw c.bad.ensures (one_of_four s.name s.number s.indicators s.last
    (λ x0 x1 x2 x3. Ok (reported x0 x1 x2 x3 s)) c.args.at absent)
