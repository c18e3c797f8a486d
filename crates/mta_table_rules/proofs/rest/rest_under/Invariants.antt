use Rattle.std.proofs.Common.{◌≤◌, ◌-◌}
use Rattle.mta_apdu.specs.Apdus.{apdu_value}
use Rattle.mta_table_rules.specs.Waits.{WaitUpTo}
use Rattle.mta_table_rules.proofs.rest.rest_under.Given as goal

abbrev pub invariant-loop-recipient : goal.invariant-loop-recipient
invariant-loop-recipient l = record {
  within : l.recipient ≤ l.count;
  wait : WaitUpTo l.format l.tables (apdu_value l.apdu) l.item l.recipient l.moment;
}

abbrev pub decreases-loop-recipient : goal.decreases-loop-recipient
decreases-loop-recipient l = l.count - l.recipient
