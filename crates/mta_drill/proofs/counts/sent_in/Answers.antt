use Rattle.std.proofs.Common.{◌≡◌, false, true, rules, subst, arith}
use Rattle.mta_drill.specs.Held.{AreSent}
use Rattle.mta_drill.proofs.Counted.{is_sent_at, one_sent}
use Rattle.mta_drill.proofs.counts.sent_in.Goals as goal

pub loop-place-preserved : goal.loop-place-preserved
loop-place-preserved c =
    let there = c.in-Some.ensures.lookup in
    let yes : c.in_ok-is_sent.field-0 ≡ true = search rules in
    one_sent c.args.items.now c.args.before c.loop-place.place c.in-Some.item.now there.3.0 there.1
    (c.in_ok-is_sent.ensures.0 yes) c.loop-place.invariant

pub returns-then-not-branch-clause-all : goal.returns-then-not-branch-clause-all
returns-then-not-branch-clause-all c = λ enough all.
    let there = c.in-Some.ensures.lookup in
    let none : c.in_ok-is_sent.field-0 ≡ false = search rules in
    let yes : c.in_ok-is_sent.field-0 ≡ true =
    c.in_ok-is_sent.ensures.1
    (is_sent_at c.args.items.now c.args.before c.args.count c.loop-place.place c.in-Some.item.now
    c.loop-place-test.true all there.3.0 there.1) in
    absurd cc

pub returns-clause-sent : goal.returns-clause-sent
returns-clause-sent c =
    let e : c.loop-place.place ≡ c.args.count = omega arith in
    subst (λ n. AreSent c.args.items.now c.args.before n) e c.loop-place.invariant
