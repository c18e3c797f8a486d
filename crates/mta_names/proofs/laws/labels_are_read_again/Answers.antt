use Rattle.mta_names.proofs.Again.{countries_again, labels_again, label_choices_again}
use Rattle.mta_names.proofs.laws.labels_are_read_again.Goals as goal

pub returns-clause-countries : goal.returns-clause-countries
returns-clause-countries c = countries_again

pub returns-clause-labels : goal.returns-clause-labels
returns-clause-labels c = labels_again

pub returns-clause-choices : goal.returns-clause-choices
returns-clause-choices c = label_choices_again
