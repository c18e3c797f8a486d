use Rattle.std.proofs.Common.{arith, subst, Option}
use Rattle.std.specs.Vec.Iter.{into_iter_items}
use Rattle.mta_machine.specs.Items.{ItemValue}
use Rattle.mta_snapshots.specs.Items.{ItemBegins}
use Rattle.mta_snapshots.proofs.Listing.{coming_in_first, coming_in_string, coming_in_next, not_begun, coming_in_done}
use Rattle.mta_snapshots.proofs.items.items_begun.Goals as goal

pub loop-recorded-init : goal.loop-recorded-init
loop-recorded-init c =
    coming_in_first c.args.moment c.args.records.items c.in_ok-items.items.items
    (into_iter_items c.into_iter-rest.result) c.in_ok-items.ensures.items c.into_iter-rest.ensures.rest c.requires

pub item_begun-requires : goal.item_begun-requires
item_begun-requires c =
    coming_in_string c.args.moment c.args.records.items c.loop-recorded.items.items
    (into_iter_items c.loop-recorded.rest) (into_iter_items c.next.new.self) c.in-Some.recorded
    c.in-Some.ensures.cases.0 c.loop-recorded.invariant

pub loop-recorded-preserved : goal.loop-recorded-preserved
loop-recorded-preserved c =
    coming_in_next c.args.moment c.args.records.items c.loop-recorded.items.items
    (into_iter_items c.loop-recorded.rest) (into_iter_items c.next.new.self) c.in-Some.recorded
    c.in-Some.ensures.cases.0 c.loop-recorded.invariant c.push.new.self.items c.in-Some-2.item
    (subst (λ (o : Option ItemValue). ItemBegins c.args.moment c.in-Some.recorded o) c.in-Some-2.is
    c.in_ok-item_begun.ensures)
    c.in_ok-push-in-Some-2.ensures.items

pub returns-in-None : goal.returns-in-None
returns-in-None c =
    not_begun c.args.moment c.args.records.items c.loop-recorded.items.items
    (into_iter_items c.loop-recorded.rest) (into_iter_items c.next.new.self) c.in-Some.recorded
    c.in-Some.ensures.cases.0 c.loop-recorded.invariant
    (subst (λ (o : Option ItemValue). ItemBegins c.args.moment c.in-Some.recorded o) c.in-None.is
    c.in_ok-item_begun.ensures)

pub returns : goal.returns
returns c =
    coming_in_done c.args.moment c.args.records.items (into_iter_items c.loop-recorded.rest) c.loop-recorded.items
    (omega (arith, c.in_default.ensures.cases.0, c.loop-recorded.rest.rest.ok)) c.loop-recorded.invariant
