use Rattle.std.proofs.Common.{length, refl, sym, ap, ◌∙◌, arith}
use Rattle.mta_records.specs.declared.step.Step.TheVariants as steps
use Rattle.mta_records.specs.declared.fault.StepFault.TheVariants as StepFaults
use Rattle.mta_histories.specs.Lanes.{lane_at}
use Rattle.mta_spool.specs.OnLanes.{next_generation}
use Rattle.mta_spool.specs.Shown.{Shown}
use Rattle.mta_spool.proofs.Making.{refused_for_lane}
use Rattle.mta_spool.proofs.spool.Spool.bind.Goals as goal

pub returns-in_default-clause-appends : goal.returns-in_default-clause-appends
returns-in_default-clause-appends g c =
    let s = c.args.self.now.current in
    let going = sym (ap (λ (v : Shown _ _). v.journal.ended) c.self.view_is) ∙ sym c.is_ended.ensures
    ∙ c.if-is_ended.false in
    λ fits. refused_for_lane g.D.Disk.model
    (steps.Bind c.args.lane (next_generation (lane_at c.args.lane s.lanes.open_lanes)))
    (StepFaults.NoLane c.args.lane) c.args.self.now.journal c.args.self.now.journal s s refl refl going
    (refl, c.in_default.ensures.none)

pub bind_open-requires-clause-few : goal.bind_open-requires-clause-few
bind_open-requires-clause-few g c =
    omega (arith, c.self.invariant.sound.numbers, ap (λ (v : Shown _ _). length v.current.machine.items) c.self.view_is)
