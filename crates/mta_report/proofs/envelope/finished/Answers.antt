use Rattle.std.proofs.Common.{◌≡◌, false, Ok, sym, ◌∙◌}
use Rattle.mta_report.specs.ReportEnvelopes.{report_envelope, envelope_complete}
use Rattle.mta_report_recipient.proofs.AbsentParts.{one_of_three}
use Rattle.mta_report.proofs.envelope.finished.Goals as goal

pub returns-else-is_complete : goal.returns-else-is_complete
returns-else-is_complete c =
    let s = c.args.parts in
    let absent : envelope_complete s ≡ false = sym c.is_complete.ensures ∙ c.if-is_complete.false in
    rw c.bad.ensures (one_of_three s.destination s.id s.trace
    (λ x0 x1 x2. Ok (report_envelope x0 x1 x2 s)) c.args.at absent)
