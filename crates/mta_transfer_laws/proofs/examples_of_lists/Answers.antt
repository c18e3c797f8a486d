use Rattle.mta_transfer_laws.proofs.Again.{puts_again}
use Rattle.mta_transfer_laws.proofs.Dropping.{drops, late, idle, crosses, unclosed}
use Rattle.mta_transfer_laws.proofs.examples_of_lists.Goals as goal

pub returns : goal.returns
returns c = record {
  dropping = drops;
  late = late;
  unconfirmed = idle;
  crossed = crosses;
  unclosed = unclosed;
  again =
      puts_again;
}
