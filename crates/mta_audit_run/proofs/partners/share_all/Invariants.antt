use Rattle.std.proofs.Common.{◌≡◌, ◌++◌, take}
use Rattle.mta_audit_run.proofs.partners.share_all.Given as goal

abbrev pub invariant-loop-activity : goal.invariant-loop-activity
invariant-loop-activity l = l.into ≡ l.fn.into ++ take l.activity-index l.activities
