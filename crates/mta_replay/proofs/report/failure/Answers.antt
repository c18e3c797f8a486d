use Rattle.mta_replay.proofs.Prepared.{reports}
use Rattle.mta_replay.proofs.report.failure.Goals as goal

pub returns : goal.returns
returns g c =
    reports c.args.kept.now (g.R.Rules.text c.args.rules.now) c.args.item.now c.args.number c.args.recipient
    c.args.moment c.requires.text c.requires.item c.args.reason c.args.diagnostic c.status_of_failure-status.result
    c.in_ok-made.made c.requires.ready c.status_of_failure-status.ensures c.in_ok-made.ensures c.settling_change.result
    c.settling_change.ensures
