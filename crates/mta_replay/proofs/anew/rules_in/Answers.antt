use Rattle.std.proofs.Common.{sym}
use Rattle.mta_replay.proofs.Before.{no_last}
use Rattle.mta_replay.proofs.anew.rules_in.Goals as goal

pub returns-in_default-clause-rules : goal.returns-in_default-clause-rules
returns-in_default-clause-rules g c = no_last c.args.kept.now.parts.texts.items (sym c.in_default.ensures)
