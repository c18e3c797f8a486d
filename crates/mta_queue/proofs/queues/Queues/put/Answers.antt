use Rattle.std.proofs.Common.{List, refl, sym, ap, subst, ◌∙◌}
use Rattle.mta_queue.specs.declared.mark.Mark.{Mark}
use Rattle.mta_queue.specs.Marks.{is_waiting, mark_of, row_of}
use Rattle.mta_queue.specs.Queues.{IsWholeOf, QueuesValue}
use Rattle.mta_queue.proofs.Counted.{may_count, whole_put}
use Rattle.mta_queue.proofs.Marked.{no_mark, same_mark}
use Rattle.mta_queue.proofs.Places.{test_differs, test_same}
use Rattle.mta_queue.proofs.queues.Queues.put.Goals as goal

pub returns-in_default-clause-rows : goal.returns-in_default-clause-rows
returns-in_default-clause-rows c =
    sym (no_mark c.args.self.now.rows c.args.item c.args.recipient c.args.waits
    (sym c.mark.ensures ∙ c.in_default.is))

pub returns-then-mark-waits-clause-rows : goal.returns-then-mark-waits-clause-rows
returns-then-mark-waits-clause-rows c =
    sym (same_mark c.args.self.now.rows c.args.item c.args.recipient c.args.waits
    (ap is_waiting (sym c.mark.ensures ∙ c.in-Some.is)
    ∙ test_same c.in-Some.mark.waits c.args.waits c.if-mark-waits.true))

pub count_at-requires-clause-may : goal.count_at-requires-clause-may
count_at-requires-clause-may c =
    let is = ap (λ (v : QueuesValue). mark_of (row_of v.rows c.args.item) c.args.recipient) c.self.view_is
    ∙ (sym c.mark.ensures ∙ c.in-Some.is) in
    may_count c.self.inside.peers.queues c.self.inside.rows.items c.args.item c.args.recipient c.in-Some.mark
    c.self.invariant is c.in-Some.mark.waits c.args.waits refl
    (test_differs c.in-Some.mark.waits c.args.waits c.if-mark-waits.false)

pub invariant_of-self : goal.invariant_of-self
invariant_of-self c =
    let is = ap (λ (v : QueuesValue). mark_of (row_of v.rows c.args.item) c.args.recipient) c.self.view_is
    ∙ (sym c.mark.ensures ∙ c.in-Some.is) in
    subst (λ (rows : List (List Mark)). IsWholeOf c.count_at.new.peers.queues rows) (sym c.set_in.ensures.items)
    (whole_put c.self.inside.peers.queues c.count_at.new.peers.queues c.self.inside.rows.items c.args.item
    c.args.recipient c.in-Some.mark c.self.invariant is c.count_at.ensures.count c.in-Some.mark.waits c.args.waits
    refl (test_differs c.in-Some.mark.waits c.args.waits c.if-mark-waits.false)
    c.count_at.ensures.waits)
