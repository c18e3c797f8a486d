use Rattle.mta_names.proofs.Definite.{name_fits, fitting_names_again}
use Rattle.mta_names.proofs.laws.names_that_fit_are_read_again.Goals as goal

pub returns-clause-kept : goal.returns-clause-kept
returns-clause-kept c = name_fits

pub returns-clause-again : goal.returns-clause-again
returns-clause-again c = fitting_names_again
