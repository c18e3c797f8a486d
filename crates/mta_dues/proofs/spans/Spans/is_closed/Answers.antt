use Rattle.std.proofs.Common.{◌≡◌, ◌≤◌, ◌+◌, ◌*◌, List, Some, length, sym, subst, ◌∙◌, arith}
use Rattle.std.specs.Prelude.{slice_get}
use Rattle.mta_state.specs.declared.rest.Span.{Span}
use Rattle.mta_dues.specs.Spans.{AreClosed}
use Rattle.mta_dues.proofs.Covered.{block_closed, not_true}
use Rattle.mta_dues.proofs.spans.Spans.is_closed.Goals as goal

pub returns-in-Some : goal.returns-in-Some
returns-in-Some c = λ is.
    let each = c.self.inside.each.items in
    let blocks = c.self.inside.blocks.items in
    let known : 1024 * c.args.block + 1023 ≤ length each =
    omega (arith, c.if-len-last.false, c.len.ensures, c.self.inside.each.ok.0) in
    let there : slice_get blocks c.args.block ≡ Some c.in-Some.span.now =
    sym c.in-Some.ensures in
    subst (λ (spans : List Span). AreClosed spans c.args.block c.args.moment) c.self.view_is
    (block_closed each blocks c.args.block c.args.moment c.in-Some.span.now c.self.invariant known there
    (sym c.has.ensures ∙ not_true c.has.result is))
