use Rattle.std.proofs.Common.{List, ℕ, sym, ap, subst, ◌∙◌}
use Rattle.mta_queue.specs.Queues.{AreListed, QueuesValue, place_of}
use Rattle.mta_queue.proofs.Counted.{are_listed}
use Rattle.mta_queue.proofs.queues.Queues.get.Goals as goal

pub returns-clause-some : goal.returns-clause-some
returns-clause-some c =
    let place = c.in_ok-place.place in (
      place,
      ap (λ (v : QueuesValue). place_of v.words c.args.word.now) (sym c.self.view_is)
          ∙ sym c.in_ok-place.ensures.exact,
      subst (λ (v : QueuesValue). AreListed v.rows place c.as_slice.result.now) c.self.view_is
          (subst (λ (ns : List ℕ). AreListed c.self.inside.rows.items place ns) (sym c.as_slice.ensures.numbers)
          (are_listed c.self.inside.peers.queues c.self.inside.rows.items place c.in_ok-queue.queue.now c.self.invariant
          (sym c.in_ok-queue.ensures) c.as_slice.ensures.whole c.in_ok-place.ensures.within)),
    )
