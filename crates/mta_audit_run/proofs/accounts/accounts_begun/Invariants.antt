use Rattle.std.proofs.Common.{◌≡◌, take}
use Rattle.mta_audit_run.specs.Account.{accounts_begun}
use Rattle.mta_audit_run.proofs.accounts.accounts_begun.Given as goal

abbrev pub invariant-loop-lane : goal.invariant-loop-lane
invariant-loop-lane l = l.accounts.items ≡ accounts_begun (take l.lane-index l.open_lanes)
