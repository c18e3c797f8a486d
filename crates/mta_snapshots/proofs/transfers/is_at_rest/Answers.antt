use Rattle.mta_state.specs.Kept.{state_of}
use Rattle.mta_snapshots.proofs.Going.{at_rest_is}
use Rattle.mta_snapshots.proofs.transfers.is_at_rest.Goals as goal

pub returns-in-Some : goal.returns-in-Some
returns-in-Some g c =
    at_rest_is (state_of c.args.kept.now) c.args.lane.now c.in-Some.transfer.now c.rests_on.result c.in-Some.ensures
    c.rests_on.ensures
