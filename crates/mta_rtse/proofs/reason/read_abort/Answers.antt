use Rattle.mta_ber.specs.Seen.{view}
use Rattle.mta_ber.proofs.StringLaws.{reads_found, reads_as}
use Rattle.mta_rtse.specs.Reason.{rtab_in}
use Rattle.mta_rtse.specs.Spelling.{SpellsRtab}
use Rattle.mta_rtse.proofs.ApduLaws.{rtab_found, rtab_full}
use Rattle.mta_rtse.proofs.reason.read_abort.Goals as goal

pub returns-clause-found : goal.returns-clause-found
returns-clause-found c =
    let v = c.args.whole.now in
    reads_found (SpellsRtab v.depth v.tag v.content.now v.octets.now) c.abort_from.result
    (rtab_in (view v)) c.abort_from.ensures (λ x e. rtab_found x (view v) v.bytes e)

pub returns-clause-only : goal.returns-clause-only
returns-clause-only c = λ x h.
    let v = c.args.whole.now in
    reads_as c.abort_from.result (rtab_in (view v)) x c.abort_from.ensures (rtab_full x (view v) v.shallow h)
