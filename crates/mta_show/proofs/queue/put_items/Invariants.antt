use Rattle.std.proofs.Common.{◌≡◌, ◌+◌, ◌++◌, drop}
use Rattle.mta_show.specs.Queue.{items_text}
use Rattle.mta_show.proofs.queue.put_items.Given as goal

abbrev pub invariant-loop-i : goal.invariant-loop-i
invariant-loop-i l = l.out ++ items_text (l.i + 1) (drop l.i l.items) ≡ l.fn.out ++ items_text 1 l.items
