use Rattle.std.proofs.Common.{◌≡◌, refl, sym, ap, subst, ◌∙◌}
use Rattle.mta_records.specs.declared.fault.StepFault.TheVariants as StepFaults
use Rattle.mta_records.specs.declared.step.Step.TheVariants as steps
use Rattle.mta_records.specs.declared.fault.StepFault.{StepFault}
use Rattle.mta_histories.specs.Classes.{class_of}
use Rattle.mta_histories.specs.Lanes.{State, lane_at}
use Rattle.mta_replay.specs.Starting.{MayStartNext}
use Rattle.mta_spool.specs.OnLanes.{refusal_on}
use Rattle.mta_spool.specs.Refusals.{IsRefused}
use Rattle.mta_spool.specs.Shown.{Shown}
use Rattle.mta_spool.specs.Starting.{next_activity}
use Rattle.mta_spool.proofs.Making.{refused_for_lane}
use Rattle.mta_spool.proofs.Started.{not_started}
use Rattle.mta_spool.proofs.spool.Spool.start_next.Goals as goal

pub returns-in_default-clause-made : goal.returns-in_default-clause-made
returns-in_default-clause-made g c =
    let s = c.args.self.now.current in
    let going = sym (ap (λ (v : Shown _ _). v.journal.ended) c.self.view_is) ∙ sym c.is_ended.ensures
    ∙ c.if-is_ended.false in
    λ fits.
    refused_for_lane g.D.Disk.model
    (steps.Start c.args.lane c.args.generation (next_activity (lane_at c.args.lane s.lanes.open_lanes))
    c.args.batch.now.item c.args.batch.now.recipients c.args.moment)
    (StepFaults.NoLane c.args.lane) c.args.self.now.journal c.args.self.now.journal s s refl refl going
    (refl, c.in_default.ensures.none)

pub returns-in_default-found-clause-made : goal.returns-in_default-found-clause-made
returns-in_default-found-clause-made g c =
    let s = c.args.self.now.current in
    let next = next_activity (lane_at c.args.lane s.lanes.open_lanes) in
    let step = steps.Start c.args.lane c.args.generation next c.args.batch.now.item c.args.batch.now.recipients
    c.args.moment in
    let current = ap (λ (v : Shown _ _). v.current) c.self.view_is in
    let going = sym (ap (λ (v : Shown _ _). v.journal.ended) c.self.view_is) ∙ sym c.is_ended.ensures
    ∙ c.if-is_ended.false in
    let none = rw c.in_default-found.is at c.in_ok-found.ensures in
    let fault : c.refusal_on.result
    ≡ refusal_on (lane_at c.args.lane s.lanes.open_lanes) c.args.lane c.args.generation =
    c.refusal_on.ensures
    ∙ ap (λ (v : State). refusal_on (lane_at c.args.lane v.lanes.open_lanes) c.args.lane c.args.generation) current in
    λ fits.
    refused_for_lane g.D.Disk.model step c.refusal_on.result c.args.self.now.journal c.args.self.now.journal s s refl
    refl going
    (subst (λ (f : StepFault). IsRefused s (class_of step) c.args.moment f) (sym fault)
    (not_started s c.args.lane c.args.generation next c.args.batch.now.item c.args.batch.now.recipients
    c.args.moment refl
    (λ may.
    none (subst (λ (x : State). MayStartNext x c.args.lane c.args.generation c.args.batch.now.item
    c.args.batch.now.recipients c.args.moment) (sym current) may))
    c.requires.timely))
