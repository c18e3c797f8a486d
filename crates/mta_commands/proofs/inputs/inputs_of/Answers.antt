use Rattle.std.proofs.Common.{refl}
use Rattle.mta_commands.specs.Inputs.{no_tables, no_apdu, both}
use Rattle.mta_commands.proofs.inputs.inputs_of.Goals as goal

pub returns-in-Err : goal.returns-in-Err
returns-in-Err g c = no_tables c.in-Err.stop c.in-Err.ensures refl

pub returns-in-Ok-apdu_of : goal.returns-in-Ok-apdu_of
returns-in-Ok-apdu_of g c = both (record { tables = c.in-Ok.tables; apdu = c.in-Ok-apdu_of.apdu }) c.in-Ok.ensures
    c.in-Ok-apdu_of.ensures

pub returns-in-Err-apdu_of : goal.returns-in-Err-apdu_of
returns-in-Err-apdu_of g c = no_apdu c.in-Err-apdu_of.stop c.in-Ok.tables c.in-Ok.ensures c.in-Err-apdu_of.ensures
