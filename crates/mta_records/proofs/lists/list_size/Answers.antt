use Rattle.mta_records.proofs.Lengths.{list_sized}
use Rattle.mta_records.proofs.lists.list_size.Goals as goal

pub returns : goal.returns
returns g c =
    list_sized (g.F.Field.spelled c.args.two) c.args.values.now c.values_size.result c.saturating_add.result
    c.values_size.ensures c.saturating_add.ensures
