use Rattle.mta_ber.specs.Seen.{view}
use Rattle.mta_names.proofs.PersonLaws.{person_sound, person_is}
use Rattle.mta_names.proofs.person.read_person.Goals as goal

pub from_fields-requires : goal.from_fields-requires
from_fields-requires c =
    let v = c.args.whole.now in
    person_is v.depth v.tag.constructed v.content.now c.in_ok-fields.fields
    (person_sound c.in_ok-fields.fields (view v) v.bytes c.in_ok-fields.ensures)
