use Rattle.std.proofs.Common.{◌++◌, ap, ◌∙◌, append_assoc}
use Rattle.std.specs.List.{repeat}
use Rattle.mta_rows.proofs.Joined.{repeat_more}
use Rattle.mta_rows.proofs.octets.put_again.Goals as goal

pub loop-preserved : goal.loop-preserved
loop-preserved c =
    let old = c.args.octets.now.items in
    let piece = c.args.piece.now in
    c.in_ok-extend_from_slice.ensures.items ∙ ap (λ xs. xs ++ piece) c.loop.invariant
    ∙ append_assoc old (repeat c.loop.counter piece) piece
    ∙ ap (λ ys. old ++ ys) (repeat_more c.loop.counter piece)
