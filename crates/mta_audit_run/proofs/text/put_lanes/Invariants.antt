use Rattle.std.proofs.Common.{take}
use Rattle.std.specs.Option.{option_copied}
use Rattle.mta_audit_run.specs.Lines.{lines_from}
use Rattle.mta_audit_run.specs.Texts.{Puts}
use Rattle.mta_audit_run.proofs.text.put_lanes.Given as goal

abbrev pub invariant-loop-account : goal.invariant-loop-account
invariant-loop-account l =
    Puts
    (lines_from l.spool (option_copied l.own) (option_copied l.other) l.begun l.others
    (take l.account-index l.accounts))
    l.fn.text l.text l.all
