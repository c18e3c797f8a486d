use Rattle.std.proofs.Common.{Option, ap, subst, ◌∙◌}
use Rattle.std.specs.Prelude.{IfOk}
use Rattle.mta_histories.specs.Lanes.{Lane, lane_at}
use Rattle.mta_state.specs.Kept.{state_of}
use Rattle.mta_spool.specs.Shown.{Shown}
use Rattle.mta_spool.specs.Starting.{IsResumed}
use Rattle.mta_spool.proofs.Started.{filled_at}
use Rattle.mta_spool.proofs.spool.Spool.resumed.Goals as goal

pub resumed_on-requires : goal.resumed_on-requires
resumed_on-requires g c =
    filled_at (state_of c.self.inside.replay.kept) c.args.lane c.in-Some.opened.now
    c.self.invariant.sound.of_history.filled c.in-Some.ensures

pub returns-in-Some : goal.returns-in-Some
returns-in-Some g c =
    subst (λ (o : Option Lane). IfOk c.resumed_on.result (IsResumed o))
    (c.in-Some.ensures ∙ ap (λ (v : Shown _ _). lane_at c.args.lane v.current.lanes.open_lanes) c.self.view_is)
    c.resumed_on.ensures
