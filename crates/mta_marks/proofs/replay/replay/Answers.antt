use Rattle.std.proofs.Common.{◌+◌, List, ℕ, length, Ok, Err, refl, subst, arith}
use Rattle.mta_marks.specs.Replaying.{HasTaken}
use Rattle.mta_marks.proofs.Replays.{way_first, way_fits, way_further, way_stopped}
use Rattle.mta_marks.proofs.replay.replay.Goals as goal

pub loop-body-init : goal.loop-body-init
loop-body-init c = record {
  way = way_first c.args.first c.args.bodies.items c.new-rest.result c.new-standings.result
      c.new-rest.ensures c.new-standings.ensures;
}

pub overflow_add-at-in-Ok : goal.overflow_add-at-in-Ok
overflow_add-at-in-Ok c =
    let taken = subst (λ (b : List ℕ). HasTaken b c.loop-body.standings c.take_up.new.standings (Ok tt))
    c.as_slice.ensures c.in-Ok.ensures in
    let more = c.loop-body.at + (length c.in-Some.body + 5) in
    let next = way_further c.args.first c.args.bodies.items c.loop-body.rest
    c.next.new.self c.in-Some.body c.loop-body.standings c.take_up.new.standings c.loop-body.at more
    c.loop-body.invariant.way c.in-Some.ensures.some taken refl in
    let fits = way_fits c.args.first c.args.bodies.items c.next.new.self c.take_up.new.standings more
    next in
    omega (arith, fits, c.len.ensures, c.requires)

pub returns-in-Err-clause-stopped : goal.returns-in-Err-clause-stopped
returns-in-Err-clause-stopped c =
    let taken = subst (λ (b : List ℕ). HasTaken b c.loop-body.standings c.take_up.new.standings (Err c.in-Err.why))
    c.as_slice.ensures c.in-Err.ensures in
    rw c.open_why.ensures
    (way_stopped c.args.first c.args.bodies.items c.loop-body.rest c.next.new.self
    c.in-Some.body c.loop-body.standings c.take_up.new.standings c.in-Err.why c.loop-body.at c.loop-body.invariant.way
    c.in-Some.ensures.some taken)

pub loop-body-preserved : goal.loop-body-preserved
loop-body-preserved c =
    let taken = subst (λ (b : List ℕ). HasTaken b c.loop-body.standings c.take_up.new.standings (Ok tt))
    c.as_slice.ensures c.in-Ok.ensures in
    record {
      way = way_further c.args.first c.args.bodies.items c.loop-body.rest
          c.next.new.self c.in-Some.body c.loop-body.standings c.take_up.new.standings c.loop-body.at
          (c.loop-body.at + (c.len.result + 5)) c.loop-body.invariant.way c.in-Some.ensures.some taken
          (omega (arith, c.len.ensures));
    }
