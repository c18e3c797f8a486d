use Rattle.mta_ber.specs.Seen.{view}
use Rattle.mta_ber.proofs.StringLaws.{reads_found, reads_as}
use Rattle.mta_rtse.specs.Request.{rtorq_in}
use Rattle.mta_rtse.specs.Spelling.{SpellsRtorq}
use Rattle.mta_rtse.proofs.ApduLaws.{rtorq_found, rtorq_full}
use Rattle.mta_rtse.proofs.request.read_request.Goals as goal

pub returns-clause-found : goal.returns-clause-found
returns-clause-found c =
    let v = c.args.whole.now in
    reads_found (SpellsRtorq v.depth v.tag v.content.now v.octets.now) c.request_from.result
    (rtorq_in (view v)) c.request_from.ensures (λ x e. rtorq_found x (view v) v.bytes e)

pub returns-clause-only : goal.returns-clause-only
returns-clause-only c = λ x h.
    let v = c.args.whole.now in
    reads_as c.request_from.result (rtorq_in (view v)) x c.request_from.ensures (rtorq_full x (view v) v.shallow h)
