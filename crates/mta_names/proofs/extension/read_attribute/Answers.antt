use Rattle.mta_ber.specs.Seen.{view}
use Rattle.mta_names.proofs.ExtensionLaws.{fields_sound, fields_fit}
use Rattle.mta_names.proofs.extension.read_attribute.Goals as goal

pub attribute_of-requires : goal.attribute_of-requires
attribute_of-requires c =
    let v = c.args.whole.now in
    fields_fit c.args.taken v.depth v.tag.constructed v.content.now c.in_ok-fields.fields
    (fields_sound c.args.taken c.in_ok-fields.fields (view v) v.bytes c.in_ok-fields.ensures)
