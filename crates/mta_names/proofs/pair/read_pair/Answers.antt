use Rattle.mta_ber.specs.Seen.{view}
use Rattle.mta_names.proofs.ListLaws.{pair_sound, pair_fits}
use Rattle.mta_names.proofs.pair.read_pair.Goals as goal

pub from_fields-requires : goal.from_fields-requires
from_fields-requires c =
    let v = c.args.whole.now in
    pair_fits v.depth v.tag v.content.now v.octets.now c.in_ok-fields.fields
    (pair_sound c.in_ok-fields.fields (view v) v.bytes c.in_ok-fields.ensures)
