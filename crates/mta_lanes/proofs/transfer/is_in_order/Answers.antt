use Rattle.std.proofs.lemmas.List.Sorted.{non_decreasing_from_is_sorted}
use Rattle.mta_lanes.proofs.Searching.{in_order}
use Rattle.mta_lanes.proofs.transfer.is_in_order.Goals as goal

pub returns : goal.returns
returns c =
    in_order c.args.recipients.now c.is_sorted.result _
    (non_decreasing_from_is_sorted c.args.recipients.now c.is_sorted.result c.is_sorted.ensures.cases)
