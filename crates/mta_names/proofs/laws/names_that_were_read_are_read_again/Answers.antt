use Rattle.mta_names.proofs.Kept.{name_kept, name_above, read_names_again}
use Rattle.mta_names.proofs.laws.names_that_were_read_are_read_again.Goals as goal

pub returns-clause-kept : goal.returns-clause-kept
returns-clause-kept c = name_kept

pub returns-clause-above : goal.returns-clause-above
returns-clause-above c = name_above

pub returns-clause-again : goal.returns-clause-again
returns-clause-again c = read_names_again
