use Rattle.mta_replay.proofs.Prepared.{passes_back}
use Rattle.mta_replay.proofs.report.passing_back.Goals as goal

pub returns : goal.returns
returns g c =
    passes_back c.args.kept.now (g.R.Rules.text c.args.rules.now) c.args.item.now c.args.number c.args.recipient
    c.args.moment c.requires.text c.requires.item c.in_ok-first.first c.as_slice-items.result.now c.requires.ready
    c.as_slice-items.ensures.value c.in_ok-first.ensures c.settling_change.result c.settling_change.ensures
