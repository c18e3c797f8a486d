use Rattle.std.proofs.Common.{None, sym, ◌∙◌}
use Rattle.mta_records.specs.declared.lane.LaneRole.TheVariants.{Initiator}
use Rattle.mta_worker.proofs.Proposing.{found_is_open}
use Rattle.mta_worker.proofs.proposal.open_lane.Goals as goal

pub returns-in-Some-clause-none : goal.returns-in-Some-clause-none
returns-in-Some-clause-none g c = λ e.
    absurd (found_is_open Initiator c.args.peer.now None c.args.spool.now.current.lanes.open_lanes c.in-Some.number
    c.in-Some.ensures (sym c.lane.ensures ∙ e))
