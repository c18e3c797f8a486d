use Rattle.mta_histories.proofs.Compacting.{named_items_keep, snapshots_show_the_same}
use Rattle.mta_histories.proofs.law.snapshots_show_the_same.Goals as goal

pub returns : goal.returns
returns c = record { shown = snapshots_show_the_same; named = named_items_keep }
