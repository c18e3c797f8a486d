use Rattle.mta_procedures.proofs.RowLaws.{latest_counts, latest_does_not_count}
use Rattle.mta_procedures.proofs.rows.the_latest_delivery_counts.Goals as goal

pub returns : goal.returns
returns c = record { first = latest_does_not_count; second = latest_counts }
