use Rattle.std.proofs.Common.{◌<◌, length, arith}
use Rattle.mta_table_rules.proofs.Walking.{first_walks, no_items, one_other}
use Rattle.mta_table_rules.proofs.passing.first_walk.Goals as goal

pub loop-item-init : goal.loop-item-init
loop-item-init c = no_items c.args.report.now c.args.list.now c.args.items.now

pub returns-in-Some : goal.returns-in-Some
returns-in-Some c =
    let lt : c.loop-item.item-index < length c.args.items.now = omega arith in
    first_walks c.args.tables.now c.args.report.now c.args.list.now c.args.items.now c.loop-item.item-index
    c.item-item.result c.in_ok-walk.field-0 c.in-Some.walk lt c.item-item.is c.loop-item.invariant
    c.in_ok-walk.ensures c.in-Some.is

pub loop-item-preserved : goal.loop-item-preserved
loop-item-preserved c =
    let lt : c.loop-item.item-index < length c.args.items.now = omega arith in
    one_other c.args.tables.now c.args.report.now c.args.list.now c.args.items.now c.loop-item.item-index
    c.item-item.result c.in_ok-walk.field-0 lt c.item-item.is c.loop-item.invariant c.in_ok-walk.ensures
    c.in_default.is
