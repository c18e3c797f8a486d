use Rattle.mta_state.proofs.Placed.{decoded_of}
use Rattle.mta_state.proofs.decoded.Decoded.of_apdu.Goals as goal

pub returns : goal.returns
returns c = λ whole spells places.
    decoded_of whole c.args.apdu c.apdu_detached.result c.back_of-back.result spells places
    (c.apdu_detached.ensures whole.now) c.back_of-back.ensures
