use Rattle.std.proofs.Common.{subst}
use Rattle.mta_records.specs.declared.step.Step.{Step}
use Rattle.mta_records.specs.Body.{HasFields}
use Rattle.mta_replay.proofs.replay.Replay.add.Goals as goal

pub take_in-requires-clause-fields : goal.take_in-requires-clause-fields
take_in-requires-clause-fields g c = subst (λ (x : Step). HasFields x) c.in-Accept.is c.requires.fields
