use Rattle.std.proofs.Common.{Some, ap, subst, ◌∙◌}
use Rattle.std.specs.Prelude.{IsTrue, ◌↔◌}
use Rattle.mta_histories.specs.Classes.{settle, was_refused}
use Rattle.mta_histories.specs.History.{IsOnLane}
use Rattle.mta_histories.specs.Lanes.{State, lane_at}
use Rattle.mta_histories.specs.Numbers.{numbers_on}
use Rattle.mta_spool.specs.Shown.{Shown}
use Rattle.mta_spool.proofs.spool.Spool.refused_at.Goals as goal

pub make_on_lane-requires-clause-exact : goal.make_on_lane-requires-clause-exact
make_on_lane-requires-clause-exact g c =
    subst
    (λ (s : State).
    IsTrue c.may_fail-allowed.result
    ↔ IsOnLane s c.args.lane (Some c.args.generation) (settle (was_refused c.args.kind) c.args.activity) c.args.moment)
    (ap (λ (v : Shown _ _). v.current) c.self.view_is) (c.may_fail-allowed.ensures.refused c.args.kind c.args.moment)

pub make_on_lane-requires-clause-needed : goal.make_on_lane-requires-clause-needed
make_on_lane-requires-clause-needed g c =
    c.needed_to_fail-needed.ensures.refused c.args.kind c.args.activity
    ∙ ap
    (λ (v : Shown _ _).
    numbers_on (lane_at c.args.lane v.current.lanes.open_lanes) (settle (was_refused c.args.kind) c.args.activity))
    c.self.view_is
