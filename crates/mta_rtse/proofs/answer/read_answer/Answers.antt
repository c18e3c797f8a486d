use Rattle.mta_ber.specs.Seen.{view}
use Rattle.mta_ber.proofs.StringLaws.{reads_found, reads_as}
use Rattle.mta_rtse.specs.Answer.{rtoac_in}
use Rattle.mta_rtse.specs.Spelling.{SpellsRtoac}
use Rattle.mta_rtse.proofs.ApduLaws.{rtoac_found, rtoac_full}
use Rattle.mta_rtse.proofs.answer.read_answer.Goals as goal

pub returns-clause-found : goal.returns-clause-found
returns-clause-found c =
    let v = c.args.whole.now in
    reads_found (SpellsRtoac v.depth v.tag v.content.now v.octets.now) c.answer_from.result
    (rtoac_in (view v)) c.answer_from.ensures (λ x e. rtoac_found x (view v) v.bytes e)

pub returns-clause-only : goal.returns-clause-only
returns-clause-only c = λ x h.
    let v = c.args.whole.now in
    reads_as c.answer_from.result (rtoac_in (view v)) x c.answer_from.ensures (rtoac_full x (view v) v.shallow h)
