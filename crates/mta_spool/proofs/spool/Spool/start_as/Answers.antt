use Rattle.std.proofs.Common.{◌≡◌, ◌<◌, ◌^◌, ℕ, Some, length, refl, sym, ap, subst, ◌∙◌, arith}
use Rattle.mta_records.specs.Outgoing.{Carried}
use Rattle.mta_records.specs.declared.step.Step.{Step}
use Rattle.mta_records.specs.declared.step.Step.TheVariants as steps
use Rattle.mta_histories.specs.History.{after_step}
use Rattle.mta_histories.specs.Lanes.{State, Transfer, lane_at}
use Rattle.mta_state.specs.declared.change.Change.{Change}
use Rattle.mta_state.specs.Prepared.{IsChangeOf}
use Rattle.mta_replay.specs.Ready.{IsReady}
use Rattle.mta_replay.proofs.Starting.{start_is_change}
use Rattle.mta_table_rules.specs.Text.{format_of, text_of}
use Rattle.mta_spool.specs.Shown.{Shown}
use Rattle.mta_spool.specs.Starting.{IsResumed}
use Rattle.mta_spool.proofs.Started.{resumed_after}
use Rattle.mta_spool.proofs.spool.Spool.start_as.Goals as goal

pub make_ready-requires-clause-ready : goal.make_ready-requires-clause-ready
make_ready-requires-clause-ready g c =
    let s = c.args.self.now.current in
    let step = steps.Start c.args.lane c.args.generation c.args.activity c.args.batch.now.item
    c.args.batch.now.recipients c.args.moment in
    let few : length s.machine.items < 2 ^ 32 =
    omega (
      arith,
      c.self.invariant.sound.numbers,
      ap (λ (v : Shown _ _). length v.current.machine.items) c.self.view_is,
    ) in
    let is = start_is_change s c.args.lane c.args.generation c.args.activity c.args.batch.now.item
    c.args.batch.now.recipients c.args.moment c.args.transfer c.requires.transfers.0 c.requires.next
    c.requires.transfers.1 c.ranges.activity.fits few in
    subst
    (λ (x : Step). IsReady format_of text_of s x c.of_change-ready.result.change c.of_change-ready.result.rules)
    (sym c.in_ok-step.ensures.step)
    (c.of_change-ready.ensures s step refl
    (subst (λ (x : Change). IsChangeOf s step x) (sym c.start_change.ensures) is))

pub returns-clause-outgoing : goal.returns-clause-outgoing
returns-clause-outgoing g c =
    let s = c.args.self.now.current in
    let step = steps.Start c.args.lane c.args.generation c.args.activity c.args.batch.now.item
    c.args.batch.now.recipients c.args.moment in
    let few : length s.machine.items < 2 ^ 32 =
    omega (
      arith,
      c.self.invariant.sound.numbers,
      ap (λ (v : Shown _ _). length v.current.machine.items) c.self.view_is,
    ) in
    let is = start_is_change s c.args.lane c.args.generation c.args.activity c.args.batch.now.item
    c.args.batch.now.recipients c.args.moment c.args.transfer c.requires.transfers.0 c.requires.next
    c.requires.transfers.1 c.ranges.activity.fits few in
    let after : c.make_ready.new.self.current ≡ after_step s step =
    c.in_ok-make_ready.ensures.made.changed refl ∙ ap (λ (x : Step). after_step s x) c.in_ok-step.ensures.step in
    subst (λ (x : State). IsResumed (lane_at c.args.lane x.lanes.open_lanes) (Some c.in_ok-outgoing.outgoing))
    (sym after)
    (resumed_after s c.args.lane c.args.generation c.args.activity c.args.batch.now.item
    c.args.batch.now.recipients c.args.moment c.in_ok-outgoing.outgoing is.possible
    (c.in_ok-outgoing.ensures
    ∙ ap (λ (t : Transfer). with_octets c.args.activity t) c.requires.transfers.1))
  where
    with_octets : ℕ → Transfer → Carried
    with_octets k t = record { activity = k; octets = t.octets }
