use Rattle.std.proofs.Common.{Option, subst}
use Rattle.mta_state.specs.Parts.{machine_of}
use Rattle.mta_state.specs.Kept.{state_of}
use Rattle.mta_replay.specs.declared.replay.InForce.{InForce}
use Rattle.mta_replay.specs.Sound.{AreLast, IsSound}
use Rattle.mta_replay.proofs.Nothing.{nothing_but_tables}
use Rattle.mta_replay.proofs.Sounds.{sound_with}
use Rattle.mta_replay.proofs.replay.Replay.ready_at_hand.Goals as goal

pub returns-in-None-clause-none : goal.returns-in-None-clause-none
returns-in-None-clause-none g c =
    let last = subst
    (λ (o : Option (InForce g.row.R.Denot)). AreLast g.R.Rules.format g.R.Rules.text
    (machine_of c.args.self.now.kept.parts) o)
    c.in-None.is c.requires.sound.last in
    nothing_but_tables (state_of c.args.self.now.kept) c.args.step c.requires.sound.of_history last c.requires.other

pub returns-in-Some-clause-sound : goal.returns-in-Some-clause-sound
returns-in-Some-clause-sound g c =
    let kept = c.args.self.now.kept in
    let force = c.in-Some.force in
    let sound = subst (λ (o : Option (InForce g.row.R.Denot)). IsSound g.R.Rules.format g.R.Rules.text kept o)
    c.in-Some.is c.requires.sound in
    sound_with g.R.Rules.format g.R.Rules.text kept force c.ready_with.new.force c.ready_with.ensures.rules
    c.ready_with.ensures.queues c.ready_with.ensures.indexed sound
