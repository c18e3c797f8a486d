use Rattle.std.proofs.Common.{◌≡◌, ◌++◌, drop}
use Rattle.mta_show.specs.Queue.{recipients_from}
use Rattle.mta_show.proofs.queue.put_recipient_lines.Given as goal

abbrev pub invariant-loop-i : goal.invariant-loop-i
invariant-loop-i l =
    l.out ++ recipients_from l.i l.statuses (drop l.i l.recipients)
    ≡ l.fn.out ++ recipients_from 0 l.statuses l.recipients
