use Rattle.std.proofs.Common.{◌+◌, ◌<◌, length, ◌∙◌}
use Rattle.std.proofs.lemmas.Result.{err_from_is_err_and}
use Rattle.mta_ber.specs.Parts.{parts_of}
use Rattle.mta_ber.specs.Seen.{view}
use Rattle.mta_ber.proofs.PartsLoop.{starts, goes_on, is_done, next_fails, step_fails}
use Rattle.mta_ber.proofs.parts.take_parts.Goals as goal

pub parts-init : goal.parts-init
parts-init g c = record {
  depth_is = c.parts-parts.ensures.depth;
  rest = rw (c.parts-parts.ensures.at, c.parts-parts.ensures.left)
      (starts g.C.Components.step c.args.state.now (view c.args.whole.now));
}

pub returns-in_err-next : goal.returns-in_err-next
returns-in_err-next g c =
    let p = err_from_is_err_and c.from_residual.result c.from_residual.ensures.1 in
    let n = rw c.parts.invariant.depth_is at c.in_err-next.ensures.exact in
    rw (p.1, p.2) (next_fails g.C.Components.step (c.args.whole.now.depth + 1) c.parts.parts.at c.parts.state
    c.parts.parts.left.now c.in_err-next.field-0.0
    (parts_of g.C.Components.step c.args.state.now (view c.args.whole.now)) n c.parts.invariant.rest)

pub parts-preserved : goal.parts-preserved
parts-preserved g c =
    let n = rw (c.parts.invariant.depth_is, c.in-Some.is) at c.in_ok-next.ensures.exact in
    let moved = rw c.in-Some.is at c.in_ok-next.ensures.moved in
    let shorter = rw c.in-Some.is at c.in_ok-next.ensures.shorter in
    let fewer : length c.in-Some.part.rest.now < length c.parts.parts.left.now = rw moved.follows at shorter in
    record {
      depth_is = c.in_ok-next.ensures.depth ∙ c.parts.invariant.depth_is;
      rest = rw (moved.offset, moved.follows)
          (goes_on g.C.Components.step (c.args.whole.now.depth + 1) c.parts.parts.at c.parts.state c.take.new.self
          c.parts.parts.left.now (view c.in-Some.part)
          (parts_of g.C.Components.step c.args.state.now (view c.args.whole.now)) n c.in_ok-take-in-Some.ensures fewer
          c.parts.invariant.rest);
    }

pub returns-in_err-take-in-Some : goal.returns-in_err-take-in-Some
returns-in_err-take-in-Some g c =
    let p = err_from_is_err_and c.from_residual-in_err-take-in-Some.result c.from_residual-in_err-take-in-Some.ensures.1
    in
    let n = rw (c.parts.invariant.depth_is, c.in-Some.is) at c.in_ok-next.ensures.exact in
    rw (p.1, p.2) (step_fails g.C.Components.step (c.args.whole.now.depth + 1) c.in_err-take-in-Some.field-0.0
    c.parts.parts.at c.parts.state c.parts.parts.left.now (view c.in-Some.part)
    (parts_of g.C.Components.step c.args.state.now (view c.args.whole.now)) n c.in_err-take-in-Some.ensures
    c.parts.invariant.rest)

pub returns-in-None : goal.returns-in-None
returns-in-None g c =
    let n = rw (c.parts.invariant.depth_is, c.in-None.is) at c.in_ok-next.ensures.exact in
    is_done g.C.Components.step (c.args.whole.now.depth + 1) c.parts.parts.at c.parts.state c.parts.parts.left.now
    (parts_of g.C.Components.step c.args.state.now (view c.args.whole.now)) n c.parts.invariant.rest
