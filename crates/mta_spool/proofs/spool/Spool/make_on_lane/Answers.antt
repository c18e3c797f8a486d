use Rattle.std.proofs.Common.{◌≡◌, ◌+◌, ◌<◌, ◌^◌, ◌≤◌, ℕ, true, false, length, refl, sym, ap}
use Rattle.std.proofs.Common.{subst, ◌∙◌}
use Rattle.std.proofs.lemmas.Result.{err_from_is_err_and}
use Rattle.mta_records.specs.declared.fault.StepFault.{StepFault}
use Rattle.mta_histories.specs.Classes.{class_of}
use Rattle.mta_histories.specs.History.{when}
use Rattle.mta_histories.specs.Lanes.{lane_at}
use Rattle.mta_spool.specs.OnLanes.{refusal_on}
use Rattle.mta_spool.specs.Refusals.{IsRefused}
use Rattle.mta_spool.specs.Shown.{Shown}
use Rattle.mta_spool.proofs.Lengths.{short_brief}
use Rattle.mta_spool.proofs.Making.{is_spent, refused_for_lane}
use Rattle.mta_spool.proofs.Numbers.{has_items, lacks_items, last_item, plain_opens_none}
use Rattle.mta_spool.proofs.OnLanes.{plain_possible, refused_plainly}
use Rattle.mta_spool.proofs.Refused.{allowed}
use Rattle.mta_spool.proofs.spool.Spool.make_on_lane.Goals as goal

pub returns-then-not-allowed-clause-made : goal.returns-then-not-allowed-clause-made
returns-then-not-allowed-clause-made g c =
    let s = c.args.self.now.current in
    let moment = when s c.args.step in
    let going = sym (ap (λ (v : Shown _ _). v.journal.ended) c.self.view_is) ∙ sym c.is_ended.ensures
    ∙ c.if-is_ended.false in
    let fault : c.refusal_on.result
    ≡ refusal_on (lane_at c.args.lane s.lanes.open_lanes) c.args.lane c.args.generation =
    c.refusal_on.ensures
    ∙ ap (λ (v : Shown _ _). refusal_on (lane_at c.args.lane v.current.lanes.open_lanes) c.args.lane c.args.generation)
    c.self.view_is in
    refused_for_lane g.D.Disk.model c.args.step c.refusal_on.result c.args.self.now.journal c.args.self.now.journal s s
    refl refl going
    (subst (λ (f : StepFault). IsRefused s (class_of c.args.step) moment f) (sym fault)
    (refused_plainly s c.args.lane c.args.generation moment (class_of c.args.step) c.requires.plain
    (λ needs.
    let does : c.args.allowed ≡ true = c.requires.exact.1 needs in
    let isnt : c.args.allowed ≡ false = c.if-not-allowed.true in
    absurd cc)))

pub returns-in_err-check_numbers-clause-made : goal.returns-in_err-check_numbers-clause-made
returns-in_err-check_numbers-clause-made g c =
    let p = err_from_is_err_and c.from_residual.result c.from_residual.ensures.1 in
    let s = c.args.self.now.current in
    let going = sym (ap (λ (v : Shown _ _). v.journal.ended) c.self.view_is) ∙ sym c.is_ended.ensures
    ∙ c.if-is_ended.false in
    let spent = c.in_err-check_numbers.ensures.spent in
    let none = plain_opens_none c.args.lane c.args.generation (class_of c.args.step) c.requires.plain in
    rw (p.1, p.2, spent.0)
    (is_spent g.D.Disk.model c.args.step (length s.machine.items) c.args.self.now.journal c.args.self.now.journal s s
    refl refl going (last_item s (class_of c.args.step) none)
    (lacks_items s (class_of c.args.step) none
    (subst (λ (k : ℕ). 2 ^ 32 ≤ length s.machine.items + k) c.requires.needed spent.1))
    (λ f is. allowed s (class_of c.args.step) (when s c.args.step) f (c.requires.exact.0 c.if-not-allowed.false) is))

pub make-requires-clause-short : goal.make-requires-clause-short
make-requires-clause-short g c = short_brief c.args.step c.requires.brief

pub make-requires-clause-possible : goal.make-requires-clause-possible
make-requires-clause-possible g c =
    let s = c.args.self.now.current in
    plain_possible s c.args.step c.args.lane c.args.generation c.requires.plain
    (c.requires.exact.0 c.if-not-allowed.false) c.requires.timely
    (subst (λ (k : ℕ). length s.machine.items + k < 2 ^ 32) c.requires.needed c.in_ok-check_numbers.ensures.left)

pub make-requires-clause-numbers : goal.make-requires-clause-numbers
make-requires-clause-numbers g c =
    let s = c.args.self.now.current in
    has_items s (class_of c.args.step)
    (plain_opens_none c.args.lane c.args.generation (class_of c.args.step) c.requires.plain)
    (subst (λ (k : ℕ). length s.machine.items + k < 2 ^ 32) c.requires.needed c.in_ok-check_numbers.ensures.left)
