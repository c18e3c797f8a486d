use Rattle.std.proofs.Common.{◌+◌, List, ℕ, length, Ok, Err, refl, subst, ap, arith}
use Rattle.mta_state.specs.Kept.{state_of}
use Rattle.mta_spool.specs.Replaying.{HasTaken}
use Rattle.mta_spool.proofs.Replays.{next_short, under_way_at_first, under_way_further, way_fits}
use Rattle.mta_spool.proofs.Replays.{way_stopped}
use Rattle.mta_spool.proofs.replay.replay.Goals as goal

pub loop-body-init : goal.loop-body-init
loop-body-init c = record {
  sound = c.new-replay.ensures.sound;
  way = under_way_at_first c.args.first c.args.bodies.items c.new-rest.result
      (state_of c.new-replay.result.kept) c.new-rest.ensures c.new-replay.ensures.state;
}

pub take_up-requires-clause-fits : goal.take_up-requires-clause-fits
take_up-requires-clause-fits c =
    let short = next_short c.args.first c.args.bodies.items c.loop-body.rest
    c.next.new.self
    c.in-Some.body (state_of c.loop-body.replay.kept) c.loop-body.at c.requires.short c.loop-body.invariant.way
    c.in-Some.ensures.some in
    omega (arith, short, ap length c.as_slice.ensures)

pub overflow_add-at-in-Ok : goal.overflow_add-at-in-Ok
overflow_add-at-in-Ok c =
    let taken = subst
    (λ (b : List ℕ).
    HasTaken b (state_of c.loop-body.replay.kept) (state_of c.take_up.new.replay.kept) (Ok tt))
    c.as_slice.ensures c.in-Ok.ensures.taken in
    let more = c.loop-body.at + (length c.in-Some.body + 5) in
    let next = under_way_further c.args.first c.args.bodies.items c.loop-body.rest
    c.next.new.self c.in-Some.body (state_of c.loop-body.replay.kept)
    (state_of c.take_up.new.replay.kept) (Ok tt) c.loop-body.at more c.loop-body.invariant.way
    c.in-Some.ensures.some taken refl refl in
    let fits = way_fits c.args.first c.args.bodies.items c.next.new.self
    (state_of c.take_up.new.replay.kept) more
    next in
    omega (arith, fits, c.len.ensures, c.requires.fits)

pub returns-in-Err-clause-stopped : goal.returns-in-Err-clause-stopped
returns-in-Err-clause-stopped c =
    let taken = subst
    (λ (b : List ℕ).
    HasTaken {T = Unit {0}} b (state_of c.loop-body.replay.kept) (state_of c.take_up.new.replay.kept)
    (Err c.in-Err.why))
    c.as_slice.ensures c.in-Err.ensures.taken in
    rw c.open_why.ensures
    (way_stopped c.args.first c.args.bodies.items c.loop-body.rest c.next.new.self
    c.in-Some.body (state_of c.loop-body.replay.kept) (state_of c.take_up.new.replay.kept) c.in-Err.why c.loop-body.at
    c.loop-body.invariant.way c.in-Some.ensures.some taken)

pub loop-body-preserved : goal.loop-body-preserved
loop-body-preserved c =
    let taken = subst
    (λ (b : List ℕ).
    HasTaken b (state_of c.loop-body.replay.kept) (state_of c.take_up.new.replay.kept) (Ok tt))
    c.as_slice.ensures c.in-Ok.ensures.taken in
    record {
      sound = c.take_up.ensures.sound;
      way = under_way_further c.args.first c.args.bodies.items c.loop-body.rest
          c.next.new.self c.in-Some.body (state_of c.loop-body.replay.kept)
          (state_of c.take_up.new.replay.kept) (Ok tt) c.loop-body.at (c.loop-body.at + (c.len.result + 5))
          c.loop-body.invariant.way c.in-Some.ensures.some taken refl (omega (arith, c.len.ensures));
    }
