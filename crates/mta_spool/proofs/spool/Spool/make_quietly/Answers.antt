use Rattle.std.proofs.Common.{◌≡◌, ◌<◌, ◌^◌, Option, length, refl, sym, ap, subst, ◌∙◌, arith}
use Rattle.mta_records.specs.declared.fault.StepFault.{StepFault}
use Rattle.mta_histories.specs.Classes.{class_of}
use Rattle.mta_histories.specs.History.{when}
use Rattle.mta_histories.specs.Lanes.{lane_at}
use Rattle.mta_state.specs.declared.change.Change.{Change}
use Rattle.mta_state.specs.Prepared.{Prepares}
use Rattle.mta_spool.specs.OnLanes.{refusal_on}
use Rattle.mta_spool.specs.Refusals.{IsRefused}
use Rattle.mta_spool.specs.Shown.{Shown}
use Rattle.mta_spool.proofs.Lengths.{short_brief}
use Rattle.mta_spool.proofs.Making.{refused_for_lane}
use Rattle.mta_spool.proofs.Numbers.{has_items, plain_opens_none}
use Rattle.mta_spool.proofs.OnLanes.{plain_possible, quiet_is_plain, quiet_needs_none, quiet_sets_none}
use Rattle.mta_spool.proofs.OnLanes.{refused_plainly}
use Rattle.mta_spool.proofs.spool.Spool.make_quietly.Goals as goal

pub returns-in-None-clause-made : goal.returns-in-None-clause-made
returns-in-None-clause-made g c =
    let s = c.args.self.now.current in
    let step = c.args.step.now in
    let plain = quiet_is_plain c.args.lane c.args.generation (class_of step) c.requires.quiet in
    let few : length s.machine.items < 2 ^ 32 =
    omega (
      arith,
      c.self.invariant.sound.numbers,
      ap (λ (v : Shown _ _). length v.current.machine.items) c.self.view_is,
    ) in
    let none = quiet_needs_none s c.args.lane c.args.generation (class_of step) c.requires.quiet in
    let never = subst (λ (o : Option Change). Prepares s step o) c.in-None.is c.requires.prepared in
    let going = sym (ap (λ (v : Shown _ _). v.journal.ended) c.self.view_is) ∙ sym c.is_ended.ensures
    ∙ c.if-is_ended.false in
    let fault : c.refusal_on.result
    ≡ refusal_on (lane_at c.args.lane s.lanes.open_lanes) c.args.lane c.args.generation =
    c.refusal_on.ensures
    ∙ ap (λ (v : Shown _ _). refusal_on (lane_at c.args.lane v.current.lanes.open_lanes) c.args.lane c.args.generation)
    c.self.view_is in
    refused_for_lane g.D.Disk.model step c.refusal_on.result c.args.self.now.journal c.args.self.now.journal s s
    refl refl going
    (subst (λ (f : StepFault). IsRefused s (class_of step) (when s step) f) (sym fault)
    (refused_plainly s c.args.lane c.args.generation (when s step) (class_of step) plain
    (λ needs.
    never (plain_possible s step c.args.lane c.args.generation plain needs c.requires.timely
    (omega (arith, few, none))))))

pub make_ready-requires-clause-short : goal.make_ready-requires-clause-short
make_ready-requires-clause-short g c = short_brief c.args.step.now c.requires.brief

pub make_ready-requires-clause-ready : goal.make_ready-requires-clause-ready
make_ready-requires-clause-ready g c =
    let s = c.args.self.now.current in
    let step = c.args.step.now in
    c.of_change.ensures s step
    (quiet_sets_none c.args.lane c.args.generation (class_of step) c.requires.quiet)
    (subst (λ (o : Option Change). Prepares s step o) c.in-Some.is c.requires.prepared)

pub make_ready-requires-clause-numbers : goal.make_ready-requires-clause-numbers
make_ready-requires-clause-numbers g c =
    let s = c.args.self.now.current in
    let step = c.args.step.now in
    let plain = quiet_is_plain c.args.lane c.args.generation (class_of step) c.requires.quiet in
    let few : length s.machine.items < 2 ^ 32 =
    omega (
      arith,
      c.self.invariant.sound.numbers,
      ap (λ (v : Shown _ _). length v.current.machine.items) c.self.view_is,
    ) in
    let none = quiet_needs_none s c.args.lane c.args.generation (class_of step) c.requires.quiet in
    has_items s (class_of step) (plain_opens_none c.args.lane c.args.generation (class_of step) plain)
    (omega (arith, few, none))
