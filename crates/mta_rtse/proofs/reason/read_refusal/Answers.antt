use Rattle.mta_ber.specs.Seen.{view}
use Rattle.mta_ber.proofs.StringLaws.{reads_found, reads_as}
use Rattle.mta_rtse.specs.Reason.{rtorj_in}
use Rattle.mta_rtse.specs.Spelling.{SpellsRtorj}
use Rattle.mta_rtse.proofs.ApduLaws.{rtorj_found, rtorj_full}
use Rattle.mta_rtse.proofs.reason.read_refusal.Goals as goal

pub returns-clause-found : goal.returns-clause-found
returns-clause-found c =
    let v = c.args.whole.now in
    reads_found (SpellsRtorj v.depth v.tag v.content.now v.octets.now) c.refusal_from.result
    (rtorj_in (view v)) c.refusal_from.ensures (λ x e. rtorj_found x (view v) v.bytes e)

pub returns-clause-only : goal.returns-clause-only
returns-clause-only c = λ x h.
    let v = c.args.whole.now in
    reads_as c.refusal_from.result (rtorj_in (view v)) x c.refusal_from.ensures (rtorj_full x (view v) v.shallow h)
