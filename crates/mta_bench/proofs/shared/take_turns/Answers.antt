use Rattle.std.proofs.Common.{◌∙◌}
use Rattle.mta_bench.proofs.shared.take_turns.Goals as goal

pub loop-number-preserved : goal.loop-number-preserved
loop-number-preserved g c =
    let i = c.loop-number.invariant in
    let w = c.take_turn.ensures in
    record { ready = (w.lock ∙ i.ready.0, w.rests); one = w.parts ∙ i.one }
