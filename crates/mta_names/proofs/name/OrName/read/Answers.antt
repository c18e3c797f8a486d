use Rattle.mta_ber.specs.Seen.{view}
use Rattle.mta_names.specs.Names.{name_in}
use Rattle.mta_names.proofs.NameLaws.{name_sound, name_full, name_is}
use Rattle.mta_names.proofs.Tools.{fails_as, ok_as}
use Rattle.mta_names.proofs.name.OrName.read.Goals as goal

pub invariant_of-result : goal.invariant_of-result
invariant_of-result c =
    let v = c.args.whole.now in
    name_is v.depth v.tag.constructed v.content.now c.in-Ok.attributes
    (name_sound c.in-Ok.attributes (view v) v.bytes c.in-Ok.ensures)

pub returns-in-Ok-clause-found : goal.returns-in-Ok-clause-found
returns-in-Ok-clause-found c = let v = c.args.whole.now in
    name_sound c.in-Ok.attributes (view v) v.bytes c.in-Ok.ensures

pub returns-in-Ok-clause-only : goal.returns-in-Ok-clause-only
returns-in-Ok-clause-only c = λ n h. let v = c.args.whole.now in
    ok_as (name_in (view v)) c.in-Ok.attributes n c.in-Ok.ensures (name_full n (view v) h)

pub returns-in-Err-clause-only : goal.returns-in-Err-clause-only
returns-in-Err-clause-only c = λ n h. let v = c.args.whole.now in
    fails_as c.in-Err.fault (name_in (view v)) n c.in-Err.ensures (name_full n (view v) h)
