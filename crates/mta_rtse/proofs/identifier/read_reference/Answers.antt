use Rattle.mta_ber.specs.Seen.{view}
use Rattle.mta_ber.proofs.StringLaws.{reads_found, reads_as}
use Rattle.mta_rtse.specs.Identifier.{reference_in}
use Rattle.mta_rtse.specs.Spelling.{SpellsReference}
use Rattle.mta_rtse.proofs.ReferenceLaws.{reference_found, reference_full}
use Rattle.mta_rtse.proofs.identifier.read_reference.Goals as goal

pub returns-clause-found : goal.returns-clause-found
returns-clause-found c =
    let v = c.args.whole.now in
    reads_found (SpellsReference v.depth v.tag v.content.now v.octets.now) c.reference_from.result
    (reference_in (view v)) c.reference_from.ensures (λ x e. reference_found x (view v) v.bytes e)

pub returns-clause-only : goal.returns-clause-only
returns-clause-only c = λ x h.
    let v = c.args.whole.now in
    reads_as c.reference_from.result (reference_in (view v)) x c.reference_from.ensures
    (reference_full x (view v) v.shallow h)
