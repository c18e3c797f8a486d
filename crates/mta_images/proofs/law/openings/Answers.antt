use Rattle.mta_images.proofs.GoingOn.{each_is_opened, found_is_left, one_opening, opened_is_left}
use Rattle.mta_images.proofs.law.openings.Goals as goal

pub returns-clause-each : goal.returns-clause-each
returns-clause-each c = each_is_opened

pub returns-clause-one : goal.returns-clause-one
returns-clause-one c = one_opening

pub returns-clause-opened : goal.returns-clause-opened
returns-clause-opened c = opened_is_left

pub returns-clause-found : goal.returns-clause-found
returns-clause-found c = found_is_left
