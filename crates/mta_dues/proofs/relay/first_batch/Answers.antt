use Rattle.std.proofs.Common.{ℕ, List, Option, get_or, sym, subst}
use Rattle.mta_histories.specs.Due.{IsBatch}
use Rattle.mta_state.specs.Kept.{state_of}
use Rattle.mta_dues.specs.Spans.{IsNextOpen}
use Rattle.mta_dues.proofs.Batches.{a_batch, in_order, no_batch, none_with_one}
use Rattle.mta_dues.proofs.relay.first_batch.Goals as goal

pub next_open-requires : goal.next_open-requires
next_open-requires g c = in_order c.args.queue.now c.requires.queue.ascending

pub returns-then-found : goal.returns-then-found
returns-then-found g c =
    let s = state_of c.args.kept.now in
    let peer = c.args.peer.now in
    let queue = c.args.queue.now in
    let next = subst (λ (o : Option ℕ). IsNextOpen c.args.spans.now queue c.loop-place.from c.args.moment o) c.in-Some.is
    c.next_open.ensures in
    subst (λ (rs : List ℕ). IsBatch s peer c.args.moment (get_or queue c.in-Some.place 0) rs) (sym c.from_vec.ensures)
    (a_batch s (g.R.Rules.format c.args.rules.now) (g.R.Rules.text c.args.rules.now) peer c.args.moment
    c.requires.text c.requires.format c.args.spans.now c.requires.spans queue c.requires.queue
    c.loop-place.from c.in-Some.place c.in_ok-recipients.recipients.items c.loop-place.invariant.none next
    c.in_ok-recipients.ensures (c.has_some-found.ensures.some c.if-found.true))

pub loop-place-preserved : goal.loop-place-preserved
loop-place-preserved g c =
    let s = state_of c.args.kept.now in
    let peer = c.args.peer.now in
    let queue = c.args.queue.now in
    let next = subst (λ (o : Option ℕ). IsNextOpen c.args.spans.now queue c.loop-place.from c.args.moment o) c.in-Some.is
    c.next_open.ensures in
    record {
      none = none_with_one s (g.R.Rules.format c.args.rules.now) (g.R.Rules.text c.args.rules.now) peer c.args.moment
          c.requires.text c.requires.format c.args.spans.now c.requires.spans queue c.requires.queue
          c.loop-place.from c.in-Some.place c.in_ok-recipients.recipients.items c.loop-place.invariant.none next
          c.in_ok-recipients.ensures (c.has_some-found.ensures.none c.if-found.false);
    }

pub returns : goal.returns
returns g c =
    let s = state_of c.args.kept.now in
    let peer = c.args.peer.now in
    let queue = c.args.queue.now in
    let next = subst (λ (o : Option ℕ). IsNextOpen c.args.spans.now queue c.loop-place.from c.args.moment o)
    c.in_default.is c.next_open.ensures in
    no_batch s (g.R.Rules.format c.args.rules.now) (g.R.Rules.text c.args.rules.now) peer c.args.moment
    c.requires.text c.requires.format c.args.spans.now c.requires.spans queue c.requires.queue c.loop-place.from
    c.loop-place.invariant.none next
