use Rattle.std.proofs.Common.{sym, subst}
use Rattle.mta_state.specs.Kept.{state_of}
use Rattle.mta_replay.specs.declared.touched.Touched.{Touched}
use Rattle.mta_replay.specs.Queued.{IsPutDown}
use Rattle.mta_replay.specs.Touched.{IsTouched}
use Rattle.mta_replay.proofs.PutDown.{put_touched}
use Rattle.mta_replay.proofs.queued.put_down.Goals as goal

pub returns-in-One : goal.returns-in-One
returns-in-One c =
    let s = state_of c.args.kept.now in
    let old = c.args.queues.now in
    let new = c.put_down_one.new.queues in
    subst (λ (t : Touched). IsPutDown s (IsTouched t) 2 old new) (sym c.in-One.is)
    (put_touched s c.in-One.item c.in-One.recipient old new c.put_down_one.ensures)
