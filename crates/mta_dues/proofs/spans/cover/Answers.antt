use Rattle.std.proofs.Common.{◌≡◌, ◌+◌, ◌/◌, ◌++◌, ◌∷◌, [], ℕ, List, sym, ap, subst, arith}
use Rattle.mta_state.specs.declared.rest.Span.{Span}
use Rattle.mta_dues.specs.Spans.{AreCovered}
use Rattle.mta_dues.proofs.Covered.{pushed_more, widened_more}
use Rattle.mta_dues.proofs.spans.cover.Goals as goal

pub returns-then-place-len-clause-more : goal.returns-then-place-len-clause-more
returns-then-place-len-clause-more c = λ each count covered.
    let blocks = c.args.blocks.now.items in
    let place = (c.args.count + 1) / 1024 in
    subst (λ (bs : List Span). AreCovered (each ++ c.args.span ∷ []) bs) (sym c.widen.ensures)
    (widened_more each blocks place c.args.span (ap (λ (n : ℕ). (n + 1) / 1024) (sym count))
    (omega (arith, c.if-place-len.true, c.len.ensures, c.args.blocks.now.ok.0)) covered)

pub returns-in_ok-push-clause-more : goal.returns-in_ok-push-clause-more
returns-in_ok-push-clause-more c = λ each count covered.
    let blocks = c.args.blocks.now.items in
    let place = (c.args.count + 1) / 1024 in
    let items : c.push.new.self.items ≡ blocks ++ c.args.span ∷ [] = cc c.in_ok-push.ensures.items in
    subst (λ (bs : List Span). AreCovered (each ++ c.args.span ∷ []) bs) (sym items)
    (pushed_more each blocks place c.args.span (ap (λ (n : ℕ). (n + 1) / 1024) (sym count))
    (omega (arith, c.if-place-len.false, c.len.ensures, c.args.blocks.now.ok.0)) covered)
