use Rattle.std.proofs.Common.{◌+◌, arith}
use Rattle.mta_drill.proofs.Contents.{few_octets}
use Rattle.mta_drill_laws.proofs.Contents.{short}
use Rattle.mta_drill.proofs.Counted.{more_octets, one_delivery, one_message}
use Rattle.mta_drill.proofs.counts.delivered_in.Goals as goal

pub overflow_add-octets : goal.overflow_add-octets
overflow_add-octets c =
    let d = rw c.in-Some.is at c.in_ok-more.ensures.some in
    let few = few_octets (c.args.before + c.loop-place.place) in
    let most = short (c.args.before + (c.loop-place.place + 1)) in
    omega (arith, c.loop-place.invariant.octets, few, most, d.size_is)

pub loop-place-preserved : goal.loop-place-preserved
loop-place-preserved c =
    let d = rw c.in-Some.is at c.in_ok-more.ensures.some in
    let items = c.args.items.now in
    let lines = c.args.lines.now in
    let before = c.args.before in
    let place = c.loop-place.place in
    record {
      messages = one_message items lines before place c.in-Some.more d c.loop-place.invariant.messages;
      deliveries = one_delivery items lines before place c.in-Some.more d c.loop-place.invariant.deliveries;
      octets = more_octets items lines before place c.in-Some.more d c.loop-place.octets c.loop-place.invariant.octets;
    }
