use Rattle.std.proofs.Common.{ℕ, Option, subst}
use Rattle.mta_state.specs.Parts.{machine_of}
use Rattle.mta_state.specs.Kept.{state_of}
use Rattle.mta_replay.specs.declared.replay.InForce.{InForce}
use Rattle.mta_replay.specs.Ready.{IsReadAt}
use Rattle.mta_replay.specs.Sound.{AreLast}
use Rattle.mta_replay.proofs.Nothing.{nothing_but_tables}
use Rattle.mta_replay.proofs.replay.Replay.ready_under.Goals as goal

pub returns-in_default-clause-none : goal.returns-in_default-clause-none
returns-in_default-clause-none g c =
    let last = subst
    (λ (o : Option (InForce g.row.R.Denot)). AreLast g.R.Rules.format g.R.Rules.text
    (machine_of c.args.self.now.kept.parts) o)
    c.in_default.is c.requires.sound.last in
    nothing_but_tables (state_of c.args.self.now.kept) c.args.step c.requires.sound.of_history last c.requires.other

pub prepare_under-requires-clause-reading : goal.prepare_under-requires-clause-reading
prepare_under-requires-clause-reading g c =
    subst (λ (n : ℕ). IsReadAt c.args.self.now.kept.parts.items.items n c.in_ok-reading.reading)
    c.settled_by-number.ensures c.in_ok-reading.ensures
