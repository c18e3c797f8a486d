use Rattle.mta_ber.specs.Seen.{view}
use Rattle.mta_ber.proofs.StringLaws.{reads_found, reads_as}
use Rattle.mta_envelope_common.specs.ContentKinds.{content_kind_in, SpellsContentKind}
use Rattle.mta_envelope_common.proofs.KindLaws.{kind_sound, kind_full}
use Rattle.mta_envelope_common.proofs.kind.read_content_kind.Goals as goal

pub returns-clause-found : goal.returns-clause-found
returns-clause-found c =
    let v = c.args.part.now in
    reads_found (SpellsContentKind v.depth v.tag v.content.now v.octets.now) c.content_kind_of.result
    (content_kind_in (view v)) c.content_kind_of.ensures (λ x e. kind_sound x (view v) e)

pub returns-clause-only : goal.returns-clause-only
returns-clause-only c = λ x h. let v = c.args.part.now in
    reads_as c.content_kind_of.result (content_kind_in (view v)) x c.content_kind_of.ensures (kind_full x (view v) h)
