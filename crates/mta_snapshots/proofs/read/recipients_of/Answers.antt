use Rattle.mta_apdu.specs.Apdus.{apdu_value}
use Rattle.mta_snapshots.proofs.Reading.{read_as}
use Rattle.mta_snapshots.proofs.read.recipients_of.Goals as goal

pub returns-in_ok-statuses-in-Ok : goal.returns-in_ok-statuses-in-Ok
returns-in_ok-statuses-in-Ok c =
    read_as c.args.octets.now (apdu_value c.in-Ok.apdu) c.in_ok-statuses-in-Ok.field-0 c.in-Ok.ensures.found
    c.in_ok-statuses-in-Ok.ensures
