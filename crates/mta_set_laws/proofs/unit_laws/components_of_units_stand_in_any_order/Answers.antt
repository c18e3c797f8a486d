use Rattle.mta_set_laws.proofs.UnitsInAnyOrder.{binds_in_any_order, requests_in_any_order, answers_in_any_order}
use Rattle.mta_set_laws.proofs.UnitsInAnyOrder.{reasons_in_any_order}
use Rattle.mta_set_laws.proofs.unit_laws.components_of_units_stand_in_any_order.Goals as goal

pub returns-clause-binds : goal.returns-clause-binds
returns-clause-binds c = binds_in_any_order

pub returns-clause-requests : goal.returns-clause-requests
returns-clause-requests c = requests_in_any_order

pub returns-clause-answers : goal.returns-clause-answers
returns-clause-answers c = answers_in_any_order

pub returns-clause-reasons : goal.returns-clause-reasons
returns-clause-reasons c = reasons_in_any_order
