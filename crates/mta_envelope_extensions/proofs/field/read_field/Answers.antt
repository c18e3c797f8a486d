use Rattle.mta_ber.specs.Seen.{view}
use Rattle.mta_envelope_extensions.proofs.FieldLaws.{field_sound, field_is}
use Rattle.mta_envelope_extensions.proofs.field.read_field.Goals as goal

pub returns-in-Ok-clause-field : goal.returns-in-Ok-clause-field
returns-in-Ok-clause-field c =
    let v = c.args.whole.now in
    let s = field_sound c.args.held c.in-Ok.told (view v) v.bytes c.in-Ok.ensures in
    let f = field_is c.args.held v.depth v.tag.constructed v.content.now c.in-Ok.told s in
    f.field
