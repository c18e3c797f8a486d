use Rattle.std.proofs.Common.{◌≡◌, ◌+◌, ◌-◌, ◌<◌, length, Ok, ap, sym, ◌∙◌}
use Rattle.std.proofs.lemmas.Result.{err_from_is_err_and}
use Rattle.mta_ber.specs.Parts.{parts_of, Fails}
use Rattle.mta_ber.specs.Seen.{view}
use Rattle.mta_ber.specs.declared.fault.ReadFault.TheVariants as faults
use Rattle.mta_ber.proofs.PartsLoop.{starts, goes_on, is_done, next_fails, step_fails}
use Rattle.mta_ber.proofs.Segments.{inner, gather_constructed, inner_taken, inner_refused}
use Rattle.mta_ber.proofs.gather.+gather_of.Goals as goal

pub parts-init : goal.parts-init
parts-init g t c = record {
  depth_is = c.parts-parts.ensures.depth;
  rest = rw (c.parts-parts.ensures.at, c.parts-parts.ensures.left)
      (starts (inner g.G.Gathers.piece c.args.first c.args.second c.args.whole.now.depth c.args.last) c.args.state.now
      (view c.args.whole.now));
}

pub returns-in_err-next-clause-exact : goal.returns-in_err-next-clause-exact
returns-in_err-next-clause-exact g t c =
    let p = err_from_is_err_and c.from_residual.result c.from_residual.ensures.1 in
    let n = rw c.parts.invariant.depth_is at c.in_err-next.ensures.exact in
    let is = gather_constructed g.G.Gathers.piece c.args.first c.args.second c.args.last c.args.state.now
    (view c.args.whole.now) c.args.whole.now.shallow c.if-not-whole.false in
    rw (p.1, p.2, is) (next_fails (inner g.G.Gathers.piece c.args.first c.args.second c.args.whole.now.depth
    c.args.last) (c.args.whole.now.depth + 1) c.parts.parts.at c.parts.state c.parts.parts.left.now
    c.in_err-next.field-0.0 (parts_of
    (inner g.G.Gathers.piece c.args.first c.args.second c.args.whole.now.depth c.args.last) c.args.state.now
    (view c.args.whole.now)) n c.parts.invariant.rest)

pub returns-in-None-clause-exact : goal.returns-in-None-clause-exact
returns-in-None-clause-exact g t c =
    let n = rw (c.parts.invariant.depth_is, c.in-None.is) at c.in_ok-next.ensures.exact in
    let is = gather_constructed g.G.Gathers.piece c.args.first c.args.second c.args.last c.args.state.now
    (view c.args.whole.now) c.args.whole.now.shallow c.if-not-whole.false in
    rw is (is_done (inner g.G.Gathers.piece c.args.first c.args.second c.args.whole.now.depth c.args.last)
    (c.args.whole.now.depth + 1) c.parts.parts.at c.parts.state c.parts.parts.left.now
    (parts_of (inner g.G.Gathers.piece c.args.first c.args.second c.args.whole.now.depth c.args.last)
    c.args.state.now (view c.args.whole.now)) n c.parts.invariant.rest)

pub returns-then-not-is_segment_of-clause-exact : goal.returns-then-not-is_segment_of-clause-exact
returns-then-not-is_segment_of-clause-exact g t c =
    let n = rw (c.parts.invariant.depth_is, c.in-Some.is) at c.in_ok-next.ensures.exact in
    let is = gather_constructed g.G.Gathers.piece c.args.first c.args.second c.args.last c.args.state.now
    (view c.args.whole.now) c.args.whole.now.shallow c.if-not-whole.false in
    let refused = inner_refused g.G.Gathers.piece c.args.first c.args.second c.args.whole.now.depth c.args.last
    c.parts.state (view c.in-Some.part) (sym c.is_segment_of.ensures ∙ c.if-not-is_segment_of.true) in
    rw is (step_fails (inner g.G.Gathers.piece c.args.first c.args.second c.args.whole.now.depth c.args.last)
    (c.args.whole.now.depth + 1) (faults.Bad _) c.parts.parts.at c.parts.state c.parts.parts.left.now
    (view c.in-Some.part) (parts_of
    (inner g.G.Gathers.piece c.args.first c.args.second c.args.whole.now.depth c.args.last) c.args.state.now
    (view c.args.whole.now)) n refused c.parts.invariant.rest)

pub parts-preserved : goal.parts-preserved
parts-preserved g t c =
    let n = rw (c.parts.invariant.depth_is, c.in-Some.is) at c.in_ok-next.ensures.exact in
    let moved = rw c.in-Some.is at c.in_ok-next.ensures.moved in
    let shorter = rw c.in-Some.is at c.in_ok-next.ensures.shorter in
    let deeper = rw (c.in-Some.is, c.parts.invariant.depth_is) at c.in_ok-next.ensures.deeper in
    let levels : 17 - c.in-Some.part.depth ≡ 17 - (c.args.whole.now.depth + 1) = ap (λ d. 17 - d) deeper in
    let fewer : length c.in-Some.part.rest.now < length c.parts.parts.left.now = rw moved.follows at shorter in
    let taken = inner_taken g.G.Gathers.piece c.args.first c.args.second c.args.whole.now.depth c.args.last
    c.is_last-here.result c.parts.state (view c.in-Some.part) (Ok c.gather_of.new.state)
    (sym c.is_segment_of.ensures ∙ c.if-not-is_segment_of.false) c.is_last-here.ensures
    (rw levels at c.in_ok-gather_of-in-Some.ensures.exact) in
    record {
      depth_is = c.in_ok-next.ensures.depth ∙ c.parts.invariant.depth_is;
      rest = rw (moved.offset, moved.follows)
          (goes_on (inner g.G.Gathers.piece c.args.first c.args.second c.args.whole.now.depth c.args.last)
          (c.args.whole.now.depth + 1) c.parts.parts.at c.parts.state c.gather_of.new.state c.parts.parts.left.now
          (view c.in-Some.part) (parts_of
          (inner g.G.Gathers.piece c.args.first c.args.second c.args.whole.now.depth c.args.last) c.args.state.now
          (view c.args.whole.now)) n taken fewer c.parts.invariant.rest);
    }

pub returns-in_err-gather_of-in-Some-clause-exact : goal.returns-in_err-gather_of-in-Some-clause-exact
returns-in_err-gather_of-in-Some-clause-exact g t c =
    let p = err_from_is_err_and c.from_residual-in_err-gather_of-in-Some.result
    c.from_residual-in_err-gather_of-in-Some.ensures.1 in
    let n = rw (c.parts.invariant.depth_is, c.in-Some.is) at c.in_ok-next.ensures.exact in
    let deeper = rw (c.in-Some.is, c.parts.invariant.depth_is) at c.in_ok-next.ensures.deeper in
    let levels : 17 - c.in-Some.part.depth ≡ 17 - (c.args.whole.now.depth + 1) = ap (λ d. 17 - d) deeper in
    let is = gather_constructed g.G.Gathers.piece c.args.first c.args.second c.args.last c.args.state.now
    (view c.args.whole.now) c.args.whole.now.shallow c.if-not-whole.false in
    let fails : Fails c.in_err-gather_of-in-Some.field-0.0
    (inner g.G.Gathers.piece c.args.first c.args.second c.args.whole.now.depth c.args.last c.parts.state
    (view c.in-Some.part)) = rw (
      sym c.is_segment_of.ensures ∙ c.if-not-is_segment_of.false,
      sym c.is_last-here.ensures,
    ) (rw levels at c.in_err-gather_of-in-Some.ensures.exact) in
    rw (p.1, p.2, is) (step_fails (inner g.G.Gathers.piece c.args.first c.args.second c.args.whole.now.depth
    c.args.last) (c.args.whole.now.depth + 1) c.in_err-gather_of-in-Some.field-0.0 c.parts.parts.at c.parts.state
    c.parts.parts.left.now (view c.in-Some.part)
    (parts_of (inner g.G.Gathers.piece c.args.first c.args.second c.args.whole.now.depth c.args.last)
    c.args.state.now (view c.args.whole.now)) n fails c.parts.invariant.rest)
