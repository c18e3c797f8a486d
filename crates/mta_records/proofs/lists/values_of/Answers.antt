use Rattle.std.proofs.Common.{◌≡◌, ◌-◌, ◌^◌, [], arith, rules}
use Rattle.mta_records.specs.Answered.{FailsAs}
use Rattle.mta_records.specs.Form.{values_at}
use Rattle.mta_records.proofs.Values.{begun, few_left, one_read, fails_more}
use Rattle.mta_records.proofs.lists.values_of.Goals as goal

pub loop-init : goal.loop-init
loop-init g c =
    let all : c.args.count - 0 ≡ c.args.count = omega arith in
    let none : c.new-values.result.items ≡ [] = search rules in
    rw all (begun _ _ none)

pub loop-preserved : goal.loop-preserved
loop-preserved g c =
    one_read (g.F.Field.at c.args.two) c.loop.values.items _ c.args.count c.loop.counter
    c.loop.rest.now c.in_ok-value.behind.now c.in_ok-value.value
    (values_at (g.F.Field.at c.args.two) c.args.count c.args.octets.now)
    c.in_ok-push.ensures.items c.loop-test.true c.in_ok-value.ensures c.loop.invariant

pub returns-in_err-value-clause-exact : goal.returns-in_err-value-clause-exact
returns-in_err-value-clause-exact g c =
    let at = g.F.Field.at c.args.two in
    let fails : FailsAs c.in_err-value.field-0.0 (values_at at c.args.count c.args.octets.now) =
    fails_more at c.loop.values.items c.args.count c.loop.counter c.loop.rest.now
    (values_at at c.args.count c.args.octets.now) c.in_err-value.field-0.0
    c.loop-test.true c.loop.invariant c.in_err-value.ensures in
    search rules

pub returns-clause-few : goal.returns-clause-few
returns-clause-few g c =
    few_left (g.F.Field.at c.args.two) c.loop.values.items c.args.count c.loop.counter (2 ^ 32) c.loop.rest.now
    c.args.octets.now c.loop-test.false (omega arith) c.loop.invariant
