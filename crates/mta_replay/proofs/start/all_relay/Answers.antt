use Rattle.mta_state.specs.Kept.{state_of}
use Rattle.mta_replay.proofs.Starting.{relays_all}
use Rattle.mta_replay.proofs.start.all_relay.Goals as goal

pub returns : goal.returns
returns g c =
    relays_all (state_of c.args.kept.now) c.args.peer.now c.args.moment c.args.number c.args.recipients.now
    c.loop-recipient.recipient-index c.loop-recipient-test.false c.loop-recipient.invariant
