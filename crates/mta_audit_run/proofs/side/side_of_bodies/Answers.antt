use Rattle.std.proofs.Common.{rules, ◌+◌, List, ℕ, length, Ok, Err, refl, subst, ap, arith}
use Rattle.std.specs.Prelude.{◌||◌}
use Rattle.mta_state.specs.Kept.{state_of}
use Rattle.mta_audit_run.specs.Sides.{HasNoted}
use Rattle.mta_audit_run.proofs.Sides.{way_ascending, way_short, way_first, way_further, way_fits, way_stopped}
use Rattle.mta_audit_run.proofs.side.side_of_bodies.Goals as goal

pub loop-body-init : goal.loop-body-init
loop-body-init c = record {
  sound = c.new-replay.ensures.sound;
  way = way_first c.args.first c.args.bodies.items c.new-rest.result
      (state_of c.new-replay.result.kept) c.new-accounts.result.items c.new-rest.ensures
      c.new-replay.ensures.state (search rules);
}

pub take_up-requires-clause-fits : goal.take_up-requires-clause-fits
take_up-requires-clause-fits c =
    let short = way_short c.args.first c.args.bodies.items c.loop-body.rest
    c.next.new.self c.in-Some.body (state_of c.loop-body.replay.kept) c.loop-body.begun
    c.loop-body.accounts.items c.loop-body.at c.requires.short c.loop-body.invariant.way c.in-Some.ensures.some in
    omega (arith, short, ap length c.as_slice.ensures)

pub overflow_add-at-in-Ok : goal.overflow_add-at-in-Ok
overflow_add-at-in-Ok c =
    let noted = subst
    (λ (b : List ℕ).
    HasNoted b (state_of c.loop-body.replay.kept) c.loop-body.accounts.items (state_of c.take_up.new.replay.kept)
    c.take_up.new.accounts.items (Ok c.in-Ok.snapshot))
    c.as_slice.ensures c.in-Ok.ensures.noted in
    let more = c.loop-body.at + (length c.in-Some.body + 5) in
    let next = way_further c.args.first c.args.bodies.items c.loop-body.rest
    c.next.new.self c.in-Some.body (state_of c.loop-body.replay.kept)
    (state_of c.take_up.new.replay.kept) c.loop-body.begun (c.loop-body.begun || c.in-Ok.snapshot)
    c.loop-body.accounts.items c.take_up.new.accounts.items c.in-Ok.snapshot c.loop-body.at more
    c.loop-body.invariant.way c.in-Some.ensures.some noted refl refl in
    let fits = way_fits c.args.first c.args.bodies.items c.next.new.self
    (state_of c.take_up.new.replay.kept) (c.loop-body.begun || c.in-Ok.snapshot) c.take_up.new.accounts.items more
    next in
    omega (arith, fits, c.len.ensures, c.requires.fits)

pub returns-in-Err-clause-stopped : goal.returns-in-Err-clause-stopped
returns-in-Err-clause-stopped c =
    let noted = subst
    (λ (b : List ℕ).
    HasNoted b (state_of c.loop-body.replay.kept) c.loop-body.accounts.items
    (state_of c.take_up.new.replay.kept) c.take_up.new.accounts.items (Err c.in-Err.why))
    c.as_slice.ensures c.in-Err.ensures.noted in
    rw c.open_why.ensures
    (way_stopped c.args.first c.args.bodies.items c.loop-body.rest c.next.new.self
    c.in-Some.body (state_of c.loop-body.replay.kept) (state_of c.take_up.new.replay.kept) c.loop-body.begun
    c.loop-body.accounts.items c.take_up.new.accounts.items c.in-Err.why c.loop-body.at c.loop-body.invariant.way
    c.in-Some.ensures.some noted)

pub loop-body-preserved : goal.loop-body-preserved
loop-body-preserved c =
    let noted = subst
    (λ (b : List ℕ).
    HasNoted b (state_of c.loop-body.replay.kept) c.loop-body.accounts.items (state_of c.take_up.new.replay.kept)
    c.take_up.new.accounts.items (Ok c.in-Ok.snapshot))
    c.as_slice.ensures c.in-Ok.ensures.noted in
    record {
      sound = c.take_up.ensures.sound;
      way = way_further c.args.first c.args.bodies.items c.loop-body.rest
          c.next.new.self c.in-Some.body (state_of c.loop-body.replay.kept)
          (state_of c.take_up.new.replay.kept) c.loop-body.begun c.either-begun.result c.loop-body.accounts.items
          c.take_up.new.accounts.items c.in-Ok.snapshot c.loop-body.at (c.loop-body.at + (c.len.result + 5))
          c.loop-body.invariant.way c.in-Some.ensures.some noted c.either-begun.ensures
          (omega (arith, c.len.ensures));
    }

pub side_of-requires-clause-ascending : goal.side_of-requires-clause-ascending
side_of-requires-clause-ascending c =
    way_ascending c.args.first c.args.bodies.items c.loop-body.rest (state_of c.loop-body.replay.kept)
    c.loop-body.begun c.loop-body.accounts.items c.loop-body.at c.loop-body.invariant.way
