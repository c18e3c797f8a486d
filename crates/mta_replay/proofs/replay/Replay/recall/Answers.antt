use Rattle.std.proofs.Common.{Option, refl, subst}
use Rattle.mta_replay.specs.declared.replay.InForce.{InForce}
use Rattle.mta_replay.specs.Sound.{IsSound}
use Rattle.mta_replay.proofs.Sounds.{sound_with}
use Rattle.mta_replay.proofs.replay.Replay.recall.Goals as goal

pub returns-in-Some-clause-sound : goal.returns-in-Some-clause-sound
returns-in-Some-clause-sound g c =
    let kept = c.args.self.now.kept in
    let force = c.in-Some.force in
    let sound = subst (λ (o : Option (InForce g.row.R.Denot)). IsSound g.R.Rules.format g.R.Rules.text kept o)
    c.in-Some.is
    c.requires.sound in
    sound_with g.R.Rules.format g.R.Rules.text kept force (record force { index = c.recall_changed.new.index }) refl
    refl (c.recall_changed.ensures (g.R.Rules.format force.rules) (g.R.Rules.text force.rules) kept.parts.items.items
    sound.indexed) sound
