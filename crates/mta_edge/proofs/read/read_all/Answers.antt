use Rattle.std.proofs.Common.{◌+◌, ◌≤◌, length, arith, rules}
use Rattle.std.proofs.lemmas.Grind.{common_steps}
use Rattle.mta_edge.specs.Outside.{Goes-then}
use Rattle.mta_edge.proofs.Drawn.{leaves_but}
use Rattle.mta_edge.proofs.read.read_all.Goals as goal

pub returns-then-count-eq0-clause-most : goal.returns-then-count-eq0-clause-most
returns-then-count-eq0-clause-most g c =
    Goes-then (λ f h k told one two. leaves_but c.loop-buffer.all f h k c.in_ok-count.count
    (c.args.limit + 1) one two.left (omega (arith, c.loop-buffer.invariant.small, c.if-count-eq0.true)))
    c.loop-buffer.invariant.gives c.in_ok-count.ensures.taken

pub returns-in_err-extend-clause-most : goal.returns-in_err-extend-clause-most
returns-in_err-extend-clause-most g c =
    let le : length c.loop-buffer.all + c.in_ok-count.count ≤ c.args.limit + 1 =
    first_of (search rules, grind (arith, common_steps)) in
    Goes-then (λ f h k told one two. leaves_but c.loop-buffer.all f h k c.in_ok-count.count
    (c.args.limit + 1) one two.left le) c.loop-buffer.invariant.gives c.in_ok-count.ensures.taken
