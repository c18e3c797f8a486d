use Rattle.mta_state.proofs.Decodings.{decoded_of}
use Rattle.mta_state.proofs.readings.Reading.detach.Goals as goal

pub returns-in-Some : goal.returns-in-Some
returns-in-Some c = λ octets reading.
    decoded_of octets c.args.self c.in-Some.apdu c.apdu_detached.result reading c.in-Some.is c.apdu_detached.ensures
