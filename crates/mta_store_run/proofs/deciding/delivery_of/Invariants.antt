use Rattle.std.proofs.Common.{◌≡◌, ◌≤◌, drop}
use Rattle.mta_machine.specs.Items.{numbered}
use Rattle.mta_store_run.specs.Store.{deliveries}
use Rattle.mta_store_run.proofs.deciding.delivery_of.Given as goal

abbrev pub invariant-loop-line : goal.invariant-loop-line
invariant-loop-line l = record {
  from : 1 ≤ l.left;
  same : numbered (deliveries l.mailbox l.lines) l.number
      ≡ numbered (deliveries l.mailbox (drop l.line-index l.lines)) l.left;
}
