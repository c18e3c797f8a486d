use Rattle.std.specs.Option.{option_copied}
use Rattle.mta_audit_run.specs.Partners.{is_partner, part_of}
use Rattle.mta_audit_run.proofs.Lists.{gathered_all, gathered_on}
use Rattle.mta_audit_run.proofs.partners.gather.Goals as goal

pub loop-other-preserved : goal.loop-other-preserved
loop-other-preserved c =
    gathered_on (part_of c.args.part) (is_partner (option_copied c.args.name) c.args.reference.now) c.args.others.now
    c.loop-other.other-index c.other-item.result c.loop-other.row c.gather_one.new.row c.loop-other.invariant
    c.in_ok-gather_one.ensures c.other-item.is c.loop-other-test.true

pub returns : goal.returns
returns c =
    gathered_all (part_of c.args.part) (is_partner (option_copied c.args.name) c.args.reference.now) c.args.others.now
    c.loop-other.other-index c.loop-other.row c.loop-other.invariant c.loop-other-test.false
