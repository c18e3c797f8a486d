use Rattle.mta_replay.proofs.Delivers.{delivered_as}
use Rattle.mta_replay.proofs.deliver.delivery.Goals as goal

pub returns : goal.returns
returns g c =
    delivered_as c.args.kept.now (g.R.Rules.format c.args.rules.now) (g.R.Rules.text c.args.rules.now)
    c.args.item.now c.args.number c.args.recipient c.args.moment c.requires.format c.requires.text c.requires.item
    c.args.told c.in_ok-line.line c.requires.may c.requires.told
    c.in_ok-line.ensures c.settling_change.result c.settling_change.ensures
