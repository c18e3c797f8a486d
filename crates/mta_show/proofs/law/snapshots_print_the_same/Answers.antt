use Rattle.mta_show.proofs.Compacted.{queues_print_the_same, mailboxes_print_the_same}
use Rattle.mta_show.proofs.law.snapshots_print_the_same.Goals as goal

pub returns : goal.returns
returns c = record { queue = queues_print_the_same; mailboxes = mailboxes_print_the_same }
