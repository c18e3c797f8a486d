use Rattle.std.proofs.Common.{◌≡◌, ◌+◌, ◌≤◌, ◌++◌, drop}
use Rattle.mta_marks.specs.Standings.{look_in}
use Rattle.mta_store_run.specs.Store.{deliveries, list_text, stored_from}
use Rattle.mta_store_run.proofs.listing.list_of.Given as goal

abbrev pub invariant-loop-line : goal.invariant-loop-line
invariant-loop-line g l = record {
  text : l.text
      ++ list_text (stored_from (look_in l.marks.entries l.mailbox) l.number
      (deliveries l.mailbox (drop l.line-index l.lines)))
      ≡ list_text (stored_from (look_in l.marks.entries l.mailbox) 1 (deliveries l.mailbox l.lines));
  number : l.number ≤ l.line-index + 1;
}
