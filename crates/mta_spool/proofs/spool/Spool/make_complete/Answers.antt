use Rattle.std.proofs.Common.{Some, length, refl, sym, ap, subst, arith}
use Rattle.std.proofs.lemmas.Result.{err_from_is_err_and}
use Rattle.mta_records.specs.declared.step.Step.TheVariants as steps
use Rattle.mta_histories.specs.Classes.{class_of, complete}
use Rattle.mta_histories.specs.History.{IsOnLane}
use Rattle.mta_histories.specs.Lanes.{State, lane_at}
use Rattle.mta_state.specs.Prepared.{IsChangeOf}
use Rattle.mta_spool.specs.Receiving.{IsItemOn}
use Rattle.mta_spool.specs.Shown.{Shown}
use Rattle.mta_spool.proofs.Making.{is_spent}
use Rattle.mta_spool.proofs.Pieces.{complete_is_change, complete_spent, completed_fits}
use Rattle.mta_spool.proofs.Pieces.{expected_on, short_complete}
use Rattle.mta_spool.proofs.Refused.{allowed}
use Rattle.mta_spool.proofs.spool.Spool.make_complete.Goals as goal

pub returns-in_err-check_numbers-clause-made : goal.returns-in_err-check_numbers-clause-made
returns-in_err-check_numbers-clause-made g c =
    let p = err_from_is_err_and c.from_residual.result c.from_residual.ensures.1 in
    let s = c.args.self.now.current in
    let step = steps.Complete c.args.lane c.args.generation c.args.activity c.args.number c.args.piece
    c.args.moment in
    let spent = c.in_err-check_numbers.ensures.spent in
    rw (p.1, p.2, spent.0)
    (is_spent g.D.Disk.model step (length s.machine.items) c.args.self.now.journal c.args.self.now.journal s s refl
    refl c.requires.going refl
    (complete_spent s c.args.lane c.args.generation c.args.activity c.args.number c.args.piece c.args.moment
    (expected_on s c.args.lane c.args.generation c.args.activity c.args.number c.args.piece c.args.moment
    c.requires.allowed) spent.1)
    (λ f is. allowed s (class_of step) c.args.moment f c.requires.allowed is))

pub make_ready-requires-clause-fields : goal.make_ready-requires-clause-fields
make_ready-requires-clause-fields g c =
    let s = c.args.self.now.current in
    let fits = completed_fits s c.args.lane c.args.generation c.args.activity c.args.number c.args.moment
    c.args.piece c.requires.allowed in (
      (((c.ranges.lane.fits, c.ranges.generation.fits), c.ranges.activity.fits), c.ranges.number.fits),
      (omega (arith, fits), c.requires.fits),
    )

pub make_ready-requires-clause-short : goal.make_ready-requires-clause-short
make_ready-requires-clause-short g c =
    let s = c.args.self.now.current in
    short_complete c.args.lane c.args.generation c.args.activity c.args.number c.args.piece
    (completed_fits s c.args.lane c.args.generation c.args.activity c.args.number c.args.moment c.args.piece
    c.requires.allowed) c.args.moment

pub make_ready-requires-clause-ready : goal.make_ready-requires-clause-ready
make_ready-requires-clause-ready g c =
    let s = c.args.self.now.current in
    let k = c.self.inside.replay.kept in
    let current = ap (λ (v : Shown _ _). v.current) c.self.view_is in
    let left = c.in_ok-check_numbers.ensures.left in
    let is = complete_is_change k c.args.lane c.args.generation c.args.activity c.args.number c.args.piece
    c.args.moment c.args.item c.complete_change.result
    (subst (λ (x : State). IsOnLane x c.args.lane (Some c.args.generation)
    (complete c.args.activity c.args.number c.args.piece) c.args.moment) (sym current) c.requires.allowed)
    (omega (arith, c.requires.timely, ap (λ (v : State). v.moment) current))
    (subst (λ (x : State). IsItemOn (lane_at c.args.lane x.lanes.open_lanes) c.args.number c.args.piece
    c.args.moment c.args.item) (sym current) c.requires.item)
    c.complete_change.ensures
    (omega (arith, left, ap (λ (v : State). length v.machine.items) current)) in
    c.of_change-ready.ensures s
    (steps.Complete c.args.lane c.args.generation c.args.activity c.args.number c.args.piece c.args.moment) refl
    (subst (λ (x : State). IsChangeOf x
    (steps.Complete c.args.lane c.args.generation c.args.activity c.args.number c.args.piece c.args.moment)
    c.complete_change.result) current is)
