use Rattle.mta_ber.specs.Seen.{view}
use Rattle.mta_names.proofs.Tools.{fails_as, ok_as}
use Rattle.mta_envelope_extensions.specs.Told.{extensions_in}
use Rattle.mta_envelope_extensions.proofs.ToldLaws.{extensions_sound, extensions_full, extensions_are}
use Rattle.mta_envelope_extensions.proofs.extensions.read_extensions.Goals as goal

pub returns-in-Ok-clause-found : goal.returns-in-Ok-clause-found
returns-in-Ok-clause-found c = let v = c.args.whole.now in
    extensions_sound c.in-Ok.extensions (view v) v.bytes c.in-Ok.ensures

pub returns-in-Ok-clause-only : goal.returns-in-Ok-clause-only
returns-in-Ok-clause-only c = λ n h. let v = c.args.whole.now in
    ok_as (extensions_in (view v)) c.in-Ok.extensions n c.in-Ok.ensures (extensions_full n (view v) h)

pub returns-in-Ok-clause-told : goal.returns-in-Ok-clause-told
returns-in-Ok-clause-told c =
    let v = c.args.whole.now in
    extensions_are v.depth v.tag.constructed v.content.now c.in-Ok.extensions
    (extensions_sound c.in-Ok.extensions (view v) v.bytes c.in-Ok.ensures)

pub returns-in-Err-clause-only : goal.returns-in-Err-clause-only
returns-in-Err-clause-only c = λ n h. let v = c.args.whole.now in
    fails_as c.in-Err.fault (extensions_in (view v)) n c.in-Err.ensures (extensions_full n (view v) h)
