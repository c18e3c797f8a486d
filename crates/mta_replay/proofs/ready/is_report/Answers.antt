use Rattle.mta_replay.proofs.ready.is_report.Goals as goal

pub returns : goal.returns
returns c = c.is_report.ensures c.args.item.now.octets c.requires
