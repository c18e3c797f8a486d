use Rattle.mta_apdu.specs.Apdus.{apdu_value}
use Rattle.mta_state.proofs.Stored.{fault_stored, statuses_stored}
use Rattle.mta_state.proofs.reading.statuses_of.Goals as goal

pub returns-in-Err-clause-bad : goal.returns-in-Err-clause-bad
returns-in-Err-clause-bad c =
    fault_stored c.args.octets.now c.in-Err.fault c.in-Err.ensures.exact c.in-Err.ensures.only

pub returns-in-Ok-statuses-clause-accepted : goal.returns-in-Ok-statuses-clause-accepted
returns-in-Ok-statuses-clause-accepted c =
    let value = apdu_value c.in-Ok.read in (
      (value, c.in-Ok.ensures.found),
      statuses_stored c.args.octets.now value c.in-Ok-statuses.statuses c.in-Ok.ensures.exact c.in-Ok.ensures.found
          c.in-Ok-statuses.ensures,
    )
