use Rattle.mta_replay.proofs.Prepared.{expands}
use Rattle.mta_replay.proofs.deliver.list_expansion.Goals as goal

pub returns : goal.returns
returns g c =
    expands c.args.kept.now (g.R.Rules.text c.args.rules.now) c.args.item.now c.args.number c.args.recipient
    c.args.moment c.requires.text c.requires.item c.requires.ready.0 c.in_ok-made.made c.next_number.result
    c.requires.ready.1 c.next_number.ensures c.in_ok-made.ensures c.settling_change.result
    c.settling_change.ensures
