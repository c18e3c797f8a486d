use Rattle.std.specs.Option.{option_copied}
use Rattle.mta_audit_run.proofs.Texts.{lanes_all, lanes_on}
use Rattle.mta_audit_run.proofs.text.put_lanes.Goals as goal

pub loop-account-preserved : goal.loop-account-preserved
loop-account-preserved c =
    lanes_on c.args.spool (option_copied c.args.own) (option_copied c.args.other) c.args.begun c.args.others.now
    c.args.accounts.now c.loop-account.account-index c.account-item.result c.args.text.now c.loop-account.text
    c.put_lane.new.text c.loop-account.all c.in_ok-agree.agree c.both-all.result c.loop-account.invariant
    c.in_ok-agree.ensures c.both-all.ensures c.account-item.is c.loop-account-test.true

pub returns : goal.returns
returns c =
    lanes_all c.args.spool (option_copied c.args.own) (option_copied c.args.other) c.args.begun c.args.others.now
    c.args.accounts.now c.loop-account.account-index c.args.text.now c.loop-account.text c.loop-account.all
    c.loop-account.invariant c.loop-account-test.false
