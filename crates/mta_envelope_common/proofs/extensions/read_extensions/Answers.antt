use Rattle.mta_ber.specs.Seen.{view}
use Rattle.mta_ber.proofs.StringLaws.{reads_found, reads_as}
use Rattle.mta_envelope_common.specs.ExtensionLists.{ext_list_in, SpellsExtList}
use Rattle.mta_envelope_common.proofs.ExtListLaws.{ext_list_sound, ext_list_full}
use Rattle.mta_envelope_common.proofs.extensions.read_extensions.Goals as goal

pub returns-clause-found : goal.returns-clause-found
returns-clause-found c =
    let v = c.args.part.now in
    reads_found (SpellsExtList v.depth v.tag.constructed v.content.now) c.extensions_of.result
    (ext_list_in (view v)) c.extensions_of.ensures (λ x e. ext_list_sound x (view v) v.bytes e)

pub returns-clause-only : goal.returns-clause-only
returns-clause-only c = λ x h. let v = c.args.part.now in
    reads_as c.extensions_of.result (ext_list_in (view v)) x c.extensions_of.ensures (ext_list_full x (view v) h)
