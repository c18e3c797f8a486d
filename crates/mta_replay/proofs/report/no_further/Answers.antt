use Rattle.mta_replay.proofs.Prepared.{discards}
use Rattle.mta_replay.proofs.report.no_further.Goals as goal

pub returns : goal.returns
returns c =
    discards c.args.kept.now c.args.number c.args.recipient c.args.moment c.requires c.settling_change.result
    c.settling_change.ensures
