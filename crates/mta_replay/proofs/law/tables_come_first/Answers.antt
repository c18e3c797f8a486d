use Rattle.mta_replay.proofs.Before.{tables_come_first}
use Rattle.mta_replay.proofs.law.tables_come_first.Goals as goal

pub returns : goal.returns
returns c = tables_come_first
