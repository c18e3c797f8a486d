use Rattle.std.proofs.Common.{◌≡◌, drop}
use Rattle.mta_audit_run.specs.Account.{AreAscending}
use Rattle.mta_audit_run.specs.Accounts.{with_endings}
use Rattle.mta_audit_run.proofs.accounts.note_endings.Given as goal

abbrev pub invariant-loop-lane : goal.invariant-loop-lane
invariant-loop-lane l = record {
  so_far : with_endings (drop l.lane-index l.open_lanes) l.accounts.items
      ≡ with_endings l.open_lanes l.fn.accounts.items;
  ascending : AreAscending l.accounts.items;
}
